-- A read set that has room for a record of every row is never full: a reader has at most one record a row.
use Rattle.std.specs.Prelude.{true, ◌≢◌, ◌≡◌, refl, ℕ, zero, suc, ◌<◌, ◌≤◌, leb, take, length, get_or}
use mathlib.Core.List.{List, [], ◌∷◌, ◌++◌, append-nil}
use Rattle.std.proofs.Math.Option.{some, none}
use Rattle.std.proofs.Common.{sym, subst, ap}
use native.Mathlib.Omega.{arith}
use Rattle.kinds.specs.Answer.{Answer}
use Rattle.words.specs.Sizes.{Sizes}
use Rattle.rules.specs.Numbers.{read_set_full, number_of}
use Rattle.words.specs.Lists.{first, fold}
use Rattle.kinds.specs.Versions.{version_at}
use Rattle.words.specs.Slots.{Slot, Rec}
use Rattle.rules.specs.Memory.{Mem, slot_at}
use Rattle.rules.specs.Outcome.{Test, Outcome, refuse, each}
use Rattle.rules.specs.Read.{sees, answer_at, Sight}
use Rattle.rules.specs.Lookup.{Found, stopped, got, list_row, is_key, find_row, find, lookup_end, lookup_out, own_row_tests, own_rows, lookup_all_out}
use Rattle.rules.specs.History.{Log, rows_in, who_in, cells_in}
use Rattle.rules.specs.Reachable.{All, rows_read, ReadSetFull}
use Rattle.rules.proofs.Theory.Cases.{by_bool, by_eq}
use Rattle.rules.specs.Theory.View.{View, view_of}
use Rattle.rules.proofs.Theory.View.{get_slots}
use Rattle.rules.specs.Theory.Effects.{slot_v}
use Rattle.rules.specs.Theory.Counting.{cnt}
use Rattle.rules.proofs.Theory.Counting.{cnt_head, cnt_tail, cnt_same, cnt_other}
use Rattle.rules.specs.Theory.Inv.{Ver, vis, Ghost, Hist, Inv, Recorded, vers}
use Rattle.rules.proofs.Theory.Places.{placed_row}
use Rattle.rules.specs.Theory.Chains.{AllBelow}
use Rattle.rules.proofs.Theory.Chains.{distinct_short}
use Rattle.rules.proofs.Theory.Reading.{pick_cell, none_some, Right, Full, full, long, own_write_lem, no_version_lem, old_version, new_version_lem}
use Rattle.rules.specs.Theory.Recording.{Rightly}
use Rattle.rules.proofs.Theory.Recording.{row_unrecorded}
use Rattle.rules.specs.Theory.Guard.{Safe}
use Rattle.rules.proofs.Theory.Guard.{guard_safe, safe_passed}
use Rattle.rules.specs.Theory.Good.{Owner}
use Rattle.rules.proofs.Theory.Good.{Good, view_open}
use Rattle.rules.proofs.Theory.ReadCall.{recs_right}
use Rattle.rules.proofs.Theory.LookupCall.{Fine, row_fine, rows_below, all_rows_below}
use Rattle.rules.specs.Theory.Steps.{hist_of}
use Rattle.rules.proofs.Theory.Steps.{Sound}
use Rattle.rules.proofs.Theory.Never.{right_at, open_slot}
use Rattle.rules.proofs.Theory.ReadLaw.{from_full}
use Rattle.rules.proofs.Theory.Facts.{no_rec, rec_once}
use Rattle.rules.proofs.Theory.LookupLaw.{lookup_passed, late_passed, lookup_all_passed}

-- what the first k show is in the list, and seen
first_in : (k : ℕ) (t : Slot) (f : ℕ → Ver) (l : List ℕ) (c : ℕ) → pick_cell t f (take k l) ≡ some c → (cnt c l ≢ 0) × (vis t (f c) ≡ true)
unfolding first
first_in zero t f l c e = absurd (none_some none c refl e)
first_in (suc k) t f [] c e = absurd (none_some none c refl e)
first_in (suc k) t f (x ∷ l) c e = by_bool (vis t (f x))
    (λ v. let q : some x ≡ some c = rw v at e in let w : x ≡ c = cc in ((λ y. cnt_head c x l y (sym w)), subst (λ (d : ℕ). vis t (f d) ≡ true) w v))
    (λ v. let r = first_in k t f l c (rw v at e) in ((λ y. r.0 (cnt_tail c x l y)), r.1))

module _ (z : Sizes) (R n : ℕ) (st : View) (g : Ghost) (h : Hist) (i r : ℕ) (iv : Inv R n st g h []) (op : (slot_v st i).id ≢ 0) (in_r : r < R) (rs : List Rec) (ok : Rightly z st g i rs) where
  recs_below : (l : List Rec) → All (Recorded (vers st) g.rows (slot_v st i)) l → AllBelow R (rows_read l)
  recs_below [] a = tt
  recs_below (q ∷ l) a = (placed_row R n st g h [] q.row q.cell iv a.0.placed, recs_below l a.1)

  rows_length : (l : List Rec) → length (rows_read l) ≡ length l
  rows_length [] = refl
  rows_length (q ∷ l) = ap suc (rows_length l)

  pub room_for_all : R ≤ z.reads → Full z (slot_v st i) (vers st) (get_or g.rows r []) rs → ⊥
  room_for_all le b =
      let s = first_in z.walk (slot_v st i) (vers st) (get_or g.rows r []) b.0 b.1 in
      let off = no_rec r rs (row_unrecorded (slot_v st i) (vers st) g.rows r b.0 ((iv.opens i op).single r) s.0 s.1 rs ok.sound b.2) in
      let short = distinct_short R (r ∷ rows_read rs) (in_r, recs_below rs ok.sound)
      (λ x. by_eq x r
      (λ e. rw e (omega (arith, cnt_same r (rows_read rs))))
      (λ e. omega (arith, cnt_other x r (rows_read rs) e, rec_once x rs ok.single))) in
      omega (arith, rows_length rs, b.3)

module _ {z : Sizes} (R N : ℕ) (m : Mem z) (h : Hist) (gd : Good R N m h) (enough : R ≤ z.reads) (s id : ℕ) (o : Owner m s id) where
  not_full : (r : ℕ) → r < R → (rs : List Rec) → Rightly z (view_of m) gd.ghost s rs → Full z (slot_v (view_of m) s) (vers (view_of m)) (get_or gd.ghost.rows r []) rs → ⊥
  not_full r lt rs ok f = room_for_all z R (suc N) (view_of m) gd.ghost h s r gd.inv (view_open m s id o) lt rs ok enough f

  -- ---- lookups
  module _ (key room : ℕ) where
    abbrev t : Slot
    t = slot_v (view_of m) s

    abbrev NotFull : Found → Type 0
    NotFull (stopped k x) = k ≢ read_set_full
    NotFull (got recs rows) = Unit {0}

    seen_on : (r : ℕ) (recs : List Rec) (rows : List ℕ) (c : ℕ) (new : List Rec) → NotFull (list_row m t key room r recs rows (sees c new))
    unfolding list_row
    seen_on r recs rows c new = by_bool (is_key key (answer_at (version_at m.cells) c))
        (λ y. rw y (by_bool (leb room (length rows)) (λ f. rw f (omega arith)) (λ f. rw f tt)))
        (λ y. rw y tt)

    list_on : (r : ℕ) → r < R → (recs : List Rec) (rows : List ℕ) → Rightly z (view_of m) gd.ghost s (t.recs ++ recs) → (x : Sight) → Right z (view_of m) gd.ghost h s r (t.recs ++ recs) x
        → NotFull (list_row m t key room r recs rows x)
    unfolding list_row
    list_on r lt recs rows ok _ (long a b) = omega arith
    list_on r lt recs rows ok _ (full a b) = absurd (not_full r lt (t.recs ++ recs) ok b)
    list_on r lt recs rows ok _ (own_write_lem v a c b) = seen_on r recs rows c []
    list_on r lt recs rows ok _ (no_version_lem a b d e) = seen_on r recs rows 0 []
    list_on r lt recs rows ok _ (old_version a c b d e f) = seen_on r recs rows c []
    list_on r lt recs rows ok _ (new_version_lem a c b d e f k) = seen_on r recs rows c _

    row_on : (r : ℕ) → r < R → (f : Found) → Fine R N m h gd s id o key room f → NotFull f → NotFull (find_row m t key room r f)
    unfolding find_row
    row_on r lt (stopped k x) a b = b
    row_on r lt (got recs rows) a b = list_on r lt recs rows a _ (right_at R N m h gd s id r (t.recs ++ recs) o lt)

    find_on : (l : List ℕ) → All (λ r. r < R) l → (f : Found) → Fine R N m h gd s id o key room f → NotFull f → NotFull (fold (find_row m t key room) l f)
    unfolding fold
    find_on [] a f b c = c
    find_on (r ∷ l) a f b c = find_on l a.1 (find_row m t key room r f) (row_fine R N m h gd s id o key room r a.0 f b) (row_on r a.0 f b c)

    end_on : (late : List Test) → Safe read_set_full late → (f : Found) → NotFull f → number_of (lookup_end m s late f).answer ≢ read_set_full
    unfolding lookup_end
    end_on late sf (stopped k x) a = a
    end_on late sf (got recs rows) a = guard_safe (λ (x : Outcome z Answer ℕ). number_of x.answer) (refuse m) read_set_full (λ n x. refl) late _ sf (λ _. omega arith)

    pub lookup_not_full : (late : List Test) → Safe read_set_full late → (l : List ℕ) → All (λ r. r < R) l → number_of (lookup_end m s late (find m (slot_at m s) key room l)).answer ≢ read_set_full
    lookup_not_full late sf l a =
        end_on late sf _ (subst (λ (u : Slot). NotFull (find m u key room l)) (get_slots z m.slots s o.slot)
        (find_on l a (got [] []) (rw (append-nil t.recs) (recs_right R N m h gd s id o)) tt))

-- ---- of a store and its log, where there is room for a record of every row
module _ {z : Sizes} (m : Mem z) (l : Log) (so : Sound m l) (enough : rows_in l ≤ z.reads) (s : ℕ) (op : who_in l s ≢ 0) where
  abbrev me : Owner m s (who_in l s)
  me = open_slot (rows_in l) (cells_in l) m (hist_of l) so s (who_in l s) op refl

  pub read_set_has_room : (row : ℕ) → row < rows_in l → ReadSetFull m l s row → ⊥
  read_set_has_room row in_r f =
      not_full (rows_in l) (cells_in l) m (hist_of l) so enough s (who_in l s) me row in_r (slot_v (view_of m) s).recs (recs_right (rows_in l) (cells_in l) m (hist_of l) so s (who_in l s) me) (from_full m l so s row op in_r f)

  pub lookup_has_room : (key room : ℕ) (cands : List ℕ) → All (λ r. r < rows_in l) cands → number_of (lookup_out m s (who_in l s) key cands room).answer ≢ read_set_full
  lookup_has_room key room cands a =
      rw (lookup_passed m l so s op key room cands a)
      (lookup_not_full (rows_in l) (cells_in l) m (hist_of l) so enough s (who_in l s) me key room _ (safe_passed read_set_full (each (own_row_tests m) (own_rows (slot_at m s).writes)) (late_passed m l so s op key room)) _
      (rows_below (rows_in l) (cells_in l) m (hist_of l) so (slot_at m s).writes cands))

  pub lookup_all_has_room : (key room : ℕ) → number_of (lookup_all_out m s (who_in l s) key room).answer ≢ read_set_full
  lookup_all_has_room key room =
      rw (lookup_all_passed m l so s op key room)
      (lookup_not_full (rows_in l) (cells_in l) m (hist_of l) so enough s (who_in l s) me key room [] tt _ (all_rows_below (rows_in l) (cells_in l) m (hist_of l) so))
