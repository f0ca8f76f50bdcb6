-- A lookup against the history: row by row what is listed is what history says, and it stops at the first trouble.
use Rattle.std.specs.Prelude.{Bool, ◌||◌, ◌&&◌, ◌⊎◌, ◌≢◌, ◌≡◌, ℕ, ◌+◌, ◌≤◌, suc, zero, ◌<◌, eqb, get_or, take}
use Rattle.std.proofs.Math.Bool.{true, false, not}
use mathlib.Core.List.{List, ◌++◌, ◌∷◌, [], append_assoc, append-nil}
use Rattle.std.proofs.Common.{inl, ⊎_elim, inr, ◌∙◌, arith, length-append}
use Rattle.std.proofs.Math.Option.{some, none, Option}
use Rattle.std.proofs.Math.Path.{ap, refl, subst, sym}
use Rattle.std.proofs.Math.Dec.{leb}
use Rattle.std.proofs.Math.ListN.{length}
use Rattle.std.proofs.Math.Seq.{append_snoc}
use borrow.Author.Tests.{ne_eqb, le-ltb, lt-ltb, le-leb, lt-leb, eq-eqb}
use Rattle.kinds.specs.Answer.{Answer, Listed}
use Rattle.kinds.specs.ReadAnswer.{None}
use Rattle.words.specs.Sizes.{Sizes}
use Rattle.rules.specs.Numbers.{result_full, chain_too_long, read_set_full, number_of}
use Rattle.words.specs.Lists.{keep, fold, from, first, has}
use Rattle.kinds.specs.Versions.{version_at}
use Rattle.words.specs.Slots.{Rec, Slot, add_recs, Write}
use Rattle.rules.specs.Memory.{Mem, slot_at, head_at, with_slot, words_at, size_r}
use Rattle.rules.specs.Outcome.{Test, refuse, out, each, slot_tests, Outcome}
use Rattle.rules.specs.Read.{recorded, sees, answer_at, blocked, Sight, read_row}
use Rattle.rules.specs.Lookup.{Found, got, stopped, is_key, list_row, find_row, find, lookup_end, lookup_out, own_row_tests, own_rows, rows_to_read, candidate_tests, lookup_all_out}
use Rattle.rules.specs.History.{Log, who_in, rows_in, cells_in, Val, own_in, answer_of, view_in}
use Rattle.rules.specs.Reachable.{All, sees_at, walked_at, chain_at}
use Rattle.rules.specs.Listing.{hit, needs, trouble, trouble_value, looks_past, is_none, NoTrouble, rows_of, FirstTrouble, Comes, its_list, its_trouble}
use Rattle.rules.proofs.Theory.Cases.{by_bool, and_false, or_false, by_eq}
use Rattle.rules.specs.Theory.View.{View, view_of}
use Rattle.rules.proofs.Theory.View.{get_slots}
use Rattle.rules.specs.Theory.Effects.{slot_v}
use Rattle.rules.specs.Theory.Counting.{cnt}
use Rattle.rules.specs.Theory.Inv.{Recorded, vers, Ver, own_find}
use Rattle.rules.proofs.Theory.Inv.{all_map}
use Rattle.rules.proofs.Theory.Places.{chain_cell}
use Rattle.rules.proofs.Theory.Reading.{Right, pick_cell, full, own_write_lem, says_answer, no_version_lem, old_version, new_version_lem, long}
use Rattle.rules.specs.Theory.Recording.{Rightly, Noted}
use Rattle.rules.proofs.Theory.Recording.{all_append, noted}
use Rattle.rules.specs.Theory.Guard.{Passed}
use Rattle.rules.proofs.Theory.Guard.{guard_passed, passed_join, passed_each}
use Rattle.rules.specs.Theory.Good.{Owner}
use Rattle.rules.proofs.Theory.Good.{view_open}
use Rattle.rules.proofs.Theory.ReadCall.{recs_right}
use Rattle.rules.proofs.Theory.LookupCall.{keep_all, from_below}
use Rattle.rules.specs.Theory.Steps.{hist_of}
use Rattle.rules.proofs.Theory.Steps.{Sound}
use Rattle.rules.proofs.Theory.Never.{open_slot, right_at, slot_passed, Entered, all_entered}
use Rattle.rules.proofs.Theory.ReadLaw.{walk_is}
use Rattle.rules.proofs.Theory.Facts.{at_row}
use Rattle.rules.specs.Theory.LookupLaw.{OneOf, Rising}

module _ (p : ℕ → Bool) where
  keep_snoc_true : (l : List ℕ) (r : ℕ) → p r ≡ true → keep p (l ++ (r ∷ [])) ≡ keep p l ++ (r ∷ [])
  unfolding keep
  keep_snoc_true [] r e = rw e
  keep_snoc_true (x ∷ l) r e = by_bool (p x) (λ q. rw q (ap (λ (y : List ℕ). x ∷ y) (keep_snoc_true l r e))) (λ q. rw q (keep_snoc_true l r e))

  keep_snoc_false : (l : List ℕ) (r : ℕ) → p r ≡ false → keep p (l ++ (r ∷ [])) ≡ keep p l
  unfolding keep
  keep_snoc_false [] r e = rw e
  keep_snoc_false (x ∷ l) r e = by_bool (p x) (λ q. rw q (ap (λ (y : List ℕ). x ∷ y) (keep_snoc_false l r e))) (λ q. rw q (keep_snoc_false l r e))

recorded_append : (c : ℕ) (a b : List Rec) → recorded c (a ++ b) ≡ (recorded c a || recorded c b)
unfolding recorded
recorded_append c [] b = refl
recorded_append c (q ∷ a) b = by_bool (eqb c q.cell) (λ e. rw e refl) (λ e. rw e (recorded_append c a b))

rising_weaken : (a b : ℕ) (l : List ℕ) → a ≤ b → Rising b l → Rising a l
rising_weaken a b [] le r = tt
rising_weaken a b (x ∷ l) le r = (omega (arith, r.0), r.1)

pub from_rising : (a k : ℕ) → Rising a (from a k)
unfolding from
from_rising a zero = tt
from_rising a (suc k) = (omega arith, from_rising (suc a) k)

pub keep_rising : (p : ℕ → Bool) (b : ℕ) (l : List ℕ) → Rising b l → Rising b (keep p l)
unfolding keep
keep_rising p b [] r = tt
keep_rising p b (x ∷ l) r = by_bool (p x)
    (λ e. rw e (r.0, keep_rising p (suc x) l r.1))
    (λ e. rw e (rising_weaken b (suc x) (keep p l) (omega (arith, r.0)) (keep_rising p (suc x) l r.1)))

module _ {z : Sizes} (m : Mem z) (l : Log) (gd : Sound m l) (s : ℕ) (op : who_in l s ≢ 0) (key room : ℕ) where
  abbrev o : Owner m s (who_in l s)
  o = open_slot (rows_in l) (cells_in l) m (hist_of l) gd s (who_in l s) op refl

  abbrev st : View
  st = view_of m

  abbrev t : Slot
  t = slot_v (view_of m) s

  at_slot : t ≡ slot_at m s
  at_slot = get_slots z m.slots s o.slot

  abbrev is_hit : ℕ → Bool
  is_hit = hit m l s key

  abbrev is_need : ℕ → Bool
  is_need = needs m l s

  -- how far a lookup has come: the rows before, the records to add, the rows listed; the rows to come are at b or above
  record State (before : List ℕ) (recs : List Rec) (rows : List ℕ) (b : ℕ) : Type 0 where
    right : Rightly z st gd.ghost s (t.recs ++ recs)
    count : length recs ≡ length (keep is_need before)
    hits : rows ≡ keep is_hit before
    early : All (λ (q : Rec). q.row < b) recs

  -- a cell of row r is not among the records of earlier rows
  unrecorded_row : (r c : ℕ) → cnt c (get_or gd.ghost.rows r []) ≢ 0 → (recs : List Rec) → All (Recorded (vers st) gd.ghost.rows t) recs → All (λ (q : Rec). q.row < r) recs → recorded c recs ≡ false
  unfolding recorded
  unrecorded_row r c k [] a e = refl
  unrecorded_row r c k (q ∷ recs) a e =
      let ne : c ≢ q.cell = λ y.
      let x = chain_cell (rows_in l) (suc (cells_in l)) st gd.ghost (hist_of l) [] c r gd.inv k in
      a.0.placed (subst (λ (d : ℕ). cnt d (get_or gd.ghost.rows q.row []) ≡ 0) y (x.unrow q.row (omega (arith, e.0)))) in
      rw (ne_eqb c q.cell ne) (unrecorded_row r c k recs a.1 e.1)

  all_back : {A : Type 0} (P : A → Type 0) (a b : List A) → All P (a ++ b) → All P b
  all_back P [] b h = h
  all_back P (x ∷ a) b h = all_back P a b h.1

  -- what one row comes to
  data Stepped (before : List ℕ) (r : ℕ) : Found → Type 0 where
    goes : trouble m l s key room before r ≡ 0 → (recs : List Rec) (rows : List ℕ) → State (before ++ (r ∷ [])) recs rows (suc r) → Stepped before r (got recs rows)
    stops : (k : ℕ) → trouble m l s key room before r ≡ k → k ≢ 0 → Stepped before r (stopped k (trouble_value m l s key room k r))

  module _ (before : List ℕ) (recs : List Rec) (rows : List ℕ) (b r : ℕ) (sta : State before recs rows b) (le : b ≤ r) (in_r : r < rows_in l) where
    walk_at : first (sees_at m s) (walked_at m r) ≡ pick_cell t (vers st) (take z.walk (get_or gd.ghost.rows r []))
    walk_at = walk_is m l gd s r op in_r

    recs_at : (slot_at m s).recs ≡ t.recs
    recs_at = ap (λ (u : Slot). u.recs) (sym at_slot)

    below_r : All (λ (q : Rec). q.row < r) recs
    below_r = all_map _ _ recs (λ q a. omega arith) sta.early

    recorded_is : (c : ℕ) → cnt c (get_or gd.ghost.rows r []) ≢ 0 → recorded c (t.recs ++ recs) ≡ recorded c (slot_at m s).recs
    recorded_is c k =
        recorded_append c t.recs recs
        ∙ rw (unrecorded_row r c k recs (all_back _ t.recs recs sta.right.sound) below_r, recs_at) (or_is (recorded c t.recs))
      where
        or_is : (x : Bool) → (x || false) ≡ x
        or_is true = refl
        or_is false = refl

    -- the row is read and adds the records `new`
    listed : (c : ℕ) (new : List Rec) → is_key key (answer_at (version_at m.cells) c) ≡ is_hit r → looks_past m l s r ≡ false
        → (is_need r && leb z.reads (length (slot_at m s).recs + length (keep is_need before))) ≡ false
        → Rightly z st gd.ghost s ((t.recs ++ recs) ++ new) → length (recs ++ new) ≡ length (keep is_need (before ++ (r ∷ []))) → All (λ (q : Rec). q.row < suc r) new
        → Stepped before r (list_row m t key room r recs rows (sees c new))
    unfolding list_row trouble
    listed c new hk nl nf ok cn ea =
        let keepIt : (x : Bool) → is_hit r ≡ x → (y : List ℕ) → y ≡ keep is_hit (before ++ (r ∷ [])) → State (before ++ (r ∷ [])) (recs ++ new) y (suc r) =
        λ x e y q. record { right = rw (append_assoc t.recs recs new) at ok; count = cn; hits = q; early = all_append _ recs new (all_map _ _ recs (λ p a. omega arith) below_r) ea } in
        by_bool (is_hit r)
        (λ e. rw (hk, e) (by_bool (leb room (length rows))
        (λ f. rw f (stops result_full (rw (nl, nf, e, ap (λ (y : List ℕ). leb room (length y)) (sym sta.hits) ∙ f) refl) (omega arith)))
        (λ f. rw f (goes (rw (nl, nf, e, ap (λ (y : List ℕ). leb room (length y)) (sym sta.hits) ∙ f) refl) (recs ++ new) (rows ++ (r ∷ [])) (keepIt true e (rows ++ (r ∷ [])) (ap (λ (y : List ℕ). y ++ (r ∷ [])) sta.hits ∙ sym (keep_snoc_true is_hit before r e)))))))
        (λ e. rw (hk, e) (goes (rw (nl, nf, e) refl) (recs ++ new) rows (keepIt false e rows (sta.hits ∙ sym (keep_snoc_false is_hit before r e)))))

    chain_at_lem : get_or gd.ghost.rows r [] ≡ (chain_at m r).cells
    chain_at_lem = at_row (rows_in l) (cells_in l) m (hist_of l) gd r in_r

    rs_length : length (t.recs ++ recs) ≡ length (slot_at m s).recs + length (keep is_need before)
    rs_length = length-append t.recs recs ∙ rw (recs_at, sta.count) refl

    -- the tests of the row, from its own write and from what the walk finds
    own_plain : (v : Val) → own_in l s r ≡ some v → (looks_past m l s r ≡ false) × (is_need r ≡ false)
    unfolding looks_past needs
    own_plain v e = (rw e refl, rw e refl)

    found_near : (c : ℕ) → first (sees_at m s) (walked_at m r) ≡ some c → looks_past m l s r ≡ false
    unfolding looks_past
    found_near c p = rw p (and_false (is_none (own_in l s r)))

    found_need : (c : ℕ) (x : Bool) → own_in l s r ≡ none → first (sees_at m s) (walked_at m r) ≡ some c → recorded c (slot_at m s).recs ≡ x → is_need r ≡ not x
    unfolding needs
    found_need c x e p q = rw (e, p, q) refl

    nothing_plain : first (sees_at m s) (walked_at m r) ≡ none → length (chain_at m r).cells ≤ z.walk → (looks_past m l s r ≡ false) × (is_need r ≡ false)
    unfolding looks_past needs
    nothing_plain p le' = (rw (p, le-ltb z.walk (length (chain_at m r).cells) le') (and_false (is_none (own_in l s r))), rw p (and_false (is_none (own_in l s r))))

    nothing_past : own_in l s r ≡ none → first (sees_at m s) (walked_at m r) ≡ none → z.walk < length (chain_at m r).cells → looks_past m l s r ≡ true
    unfolding looks_past
    nothing_past e p lt = rw (e, p, lt-ltb z.walk (length (chain_at m r).cells) lt) refl

    -- hits
    hit_own : (v : Val) (c : ℕ) → own_in l s r ≡ some v → answer_at (version_at m.cells) c ≡ answer_of (some v) → is_key key (answer_at (version_at m.cells) c) ≡ is_hit r
    unfolding hit
    hit_own v c e q = ap (is_key key) q ∙ rw e refl

    hit_view : (c : ℕ) → own_in l s r ≡ none → answer_at (version_at m.cells) c ≡ answer_of (view_in l s r) → is_key key (answer_at (version_at m.cells) c) ≡ is_hit r
    unfolding hit
    hit_view c e q = ap (is_key key) q ∙ rw e refl

    -- a read that adds no record
    no_new : (c : ℕ) → is_key key (answer_at (version_at m.cells) c) ≡ is_hit r → looks_past m l s r ≡ false → is_need r ≡ false
        → Rightly z st gd.ghost s ((t.recs ++ recs) ++ []) → Stepped before r (list_row m t key room r recs rows (sees c []))
    no_new c hk nl nn ok = listed c [] hk nl (rw nn refl) ok (rw (append-nil recs, keep_snoc_false is_need before r nn) sta.count) tt

    past_trouble : looks_past m l s r ≡ true → trouble m l s key room before r ≡ chain_too_long
    unfolding trouble
    past_trouble e = rw e refl

    full_trouble : looks_past m l s r ≡ false → is_need r ≡ true → z.reads ≤ length (slot_at m s).recs + length (keep is_need before) → trouble m l s key room before r ≡ read_set_full
    unfolding trouble
    full_trouble e n g = rw (e, n, le-leb z.reads (length (slot_at m s).recs + length (keep is_need before)) g) refl

    none_at : answer_at (version_at m.cells) 0 ≡ None
    unfolding answer_at
    none_at = refl

    none_answer : view_in l s r ≡ none → answer_at (version_at m.cells) 0 ≡ answer_of (view_in l s r)
    none_answer v = none_at ∙ sym (ap answer_of v)

    -- what is not recorded in all is not recorded in the slot
    recs_false : (c : ℕ) → recorded c (t.recs ++ recs) ≡ false → recorded c (slot_at m s).recs ≡ false
    recs_false c e = rw recs_at (or_false (recorded c t.recs) (recorded c recs) (sym (recorded_append c t.recs recs) ∙ e)).0

    stopped_past : trouble m l s key room before r ≡ chain_too_long → Stepped before r (list_row m t key room r recs rows (blocked chain_too_long r))
    unfolding list_row
    stopped_past e = stops chain_too_long e (omega arith)

    stopped_full : trouble m l s key room before r ≡ read_set_full → Stepped before r (list_row m t key room r recs rows (blocked read_set_full r))
    unfolding list_row
    stopped_full e = stops read_set_full e (omega arith)

    stepped : (x : Sight) → Right z st gd.ghost (hist_of l) s r (t.recs ++ recs) x → Noted z st gd.ghost s (t.recs ++ recs) x → Stepped before r (list_row m t key room r recs rows x)
    stepped _ (own_write_lem v e c q) ok = let p = own_plain v e in no_new c (hit_own v c e (says_answer st c (some v) q)) p.0 p.1 ok
    stepped _ (no_version_lem e v le' p) ok = let q = nothing_plain (walk_at ∙ p) (rw chain_at_lem at le') in no_new 0 (hit_view 0 e (none_answer v)) q.0 q.1 ok
    stepped _ (old_version e c p k q y) ok =
        no_new c (hit_view c e (says_answer st c (view_in l s r) q)) (found_near c (walk_at ∙ p)) (found_need c true e (walk_at ∙ p) (sym (recorded_is c k) ∙ y)) ok
    stepped _ (new_version_lem e c p k q y lt) ok =
        let nn = found_need c false e (walk_at ∙ p) (sym (recorded_is c k) ∙ y) in
        listed c _ (hit_view c e (says_answer st c (view_in l s r) q)) (found_near c (walk_at ∙ p)) (rw (nn, lt-leb z.reads (length (slot_at m s).recs + length (keep is_need before)) (omega (arith, rs_length))) refl) ok
        (rw (length-append recs _, keep_snoc_true is_need before r nn, length-append (keep is_need before) (r ∷ []), sta.count) refl) (omega arith, tt)
    stepped _ (long e b) ok = stopped_past (past_trouble (nothing_past e (walk_at ∙ b.1) (rw chain_at_lem at b.0)))
    stepped _ (full e b) ok =
        stopped_full (full_trouble (found_near b.0 (walk_at ∙ b.1)) (found_need b.0 false e (walk_at ∙ b.1) (recs_false b.0 b.2)) (omega (arith, rs_length, b.3)))

  -- ---- the rows one after the other
  goes_on : (before : List ℕ) (r : ℕ) (x : Found) → Stepped before r x → trouble m l s key room before r ≡ 0
      → (recs : List Rec) × (rows : List ℕ) × (x ≡ got recs rows) × State (before ++ (r ∷ [])) recs rows (suc r)
  goes_on before r _ (goes e recs rows sta) z0 = (recs, rows, refl, sta)
  goes_on before r _ (stops k e nz) z0 = absurd (nz (sym e ∙ z0))

  stops_here : (before : List ℕ) (r : ℕ) (x : Found) → Stepped before r x → trouble m l s key room before r ≢ 0
      → x ≡ stopped (trouble m l s key room before r) (trouble_value m l s key room (trouble m l s key room before r) r)
  stops_here before r _ (goes e recs rows sta) nz = absurd (nz e)
  stops_here before r _ (stops k e nz) _ = rw e refl

  one_row : (before : List ℕ) (recs : List Rec) (rows : List ℕ) (b r : ℕ) → State before recs rows b → b ≤ r → r < rows_in l → Stepped before r (find_row m t key room r (got recs rows))
  unfolding find_row
  one_row before recs rows b r sta le in_r =
      stepped before recs rows b r sta le in_r _ (right_at (rows_in l) (cells_in l) m (hist_of l) gd s (who_in l s) r (t.recs ++ recs) o in_r)
      (subst (λ (k : ℕ). Noted z st gd.ghost s (t.recs ++ recs) (read_row z k (version_at m.cells) (head_at m r) t (t.recs ++ recs) r)) (sym gd.cells)
      (noted z (rows_in l) (cells_in l) st gd.ghost (hist_of l) s r gd.inv (view_open m s (who_in l s) o) in_r (t.recs ++ recs) sta.right))

  abbrev go : List ℕ → Found → Found
  go rows f = fold (find_row m t key room) rows f

  stays_stopped : (rows : List ℕ) (k x : ℕ) → go rows (stopped k x) ≡ stopped k x
  unfolding fold find_row
  stays_stopped [] k x = refl
  stays_stopped (r ∷ rows) k x = stays_stopped rows k x

  lists_all : (left before : List ℕ) (recs : List Rec) (rows : List ℕ) (b : ℕ) → State before recs rows b → Rising b left → All (λ r. r < rows_in l) left → NoTrouble m l s key room before left
      → (new : List Rec) × (go left (got recs rows) ≡ got new (keep is_hit (before ++ left)))
  unfolding fold
  lists_all [] before recs rows b sta ri a n = (recs, ap (got recs) (sta.hits ∙ ap (keep is_hit) (sym (append-nil before))))
  lists_all (r ∷ left) before recs rows b sta ri a n =
      let x = goes_on before r _ (one_row before recs rows b r sta ri.0 a.0) n.0 in
      let y = lists_all left (before ++ (r ∷ [])) x.0 x.1 (suc r) x.3 ri.1 a.1 n.1 in
      (y.0, ap (go left) x.2 ∙ y.1 ∙ ap (λ (q : List ℕ). got y.0 (keep is_hit q)) (append_snoc before r left))

  stops_first : (pre before : List ℕ) (r : ℕ) (post : List ℕ) (recs : List Rec) (rows : List ℕ) (b : ℕ) → State before recs rows b → Rising b (pre ++ (r ∷ post)) → All (λ q. q < rows_in l) (pre ++ (r ∷ post))
      → NoTrouble m l s key room before pre → trouble m l s key room (before ++ pre) r ≢ 0
      → go (pre ++ (r ∷ post)) (got recs rows) ≡ stopped (trouble m l s key room (before ++ pre) r) (trouble_value m l s key room (trouble m l s key room (before ++ pre) r) r)
  unfolding fold
  stops_first [] before r post recs rows b sta ri a n nz =
      let e = append-nil before in
      rw e (ap (go post) (stops_here before r _ (one_row before recs rows b r sta ri.0 a.0) (rw e at nz)) ∙ stays_stopped post _ _)
  stops_first (q ∷ pre) before r post recs rows b sta ri a n nz =
      let x = goes_on before q _ (one_row before recs rows b q sta ri.0 a.0) n.0 in
      let e = append_snoc before q pre in
      let y = stops_first pre (before ++ (q ∷ [])) r post x.0 x.1 (suc q) x.3 ri.1 a.1 n.1 (rw e nz) in
      ap (go (pre ++ (r ∷ post))) x.2 ∙ subst (λ (c : List ℕ). go (pre ++ (r ∷ post)) (got x.0 x.1) ≡ stopped (trouble m l s key room c r) (trouble_value m l s key room (trouble m l s key room c r) r)) e y

  start : State [] [] [] 0
  unfolding keep
  start = record { right = rw (append-nil t.recs) (recs_right (rows_in l) (cells_in l) m (hist_of l) gd s (who_in l s) o); count = refl; hits = refl; early = tt }

  -- ---- the ends of a lookup
  end_listed : (late : List Test) → Passed late → (new : List Rec) (rows : List ℕ) (f : Found) → f ≡ got new rows → ((lookup_end m s late f).answer ≡ Listed (length rows)) × ((lookup_end m s late f).front ≡ rows)
  unfolding lookup_end
  end_listed late p new rows f e = rw e (rw (guard_passed (refuse m) late (out (Listed (length rows)) rows (with_slot m s (add_recs z new (words_at m s)))) p) (refl, refl))

  end_stopped : (late : List Test) (k x : ℕ) (f : Found) → f ≡ stopped k x → lookup_end m s late f ≡ refuse m k x
  unfolding lookup_end
  end_stopped late k x f e = rw e refl

  pub found_all : (late : List Test) → Passed late → (rows : List ℕ) → Rising 0 rows → All (λ r. r < rows_in l) rows → NoTrouble m l s key room [] rows
      → ((lookup_end m s late (find m (slot_at m s) key room rows)).answer ≡ Listed (length (keep is_hit rows))) × ((lookup_end m s late (find m (slot_at m s) key room rows)).front ≡ keep is_hit rows)
  found_all late p rows ri a n =
      let x = lists_all rows [] [] [] 0 start ri a n in
      end_listed late p x.0 (keep is_hit rows) _ (subst (λ (u : Slot). find m u key room rows ≡ got x.0 (keep is_hit rows)) at_slot x.1)

  pub found_stop : (late : List Test) (pre : List ℕ) (r : ℕ) (post : List ℕ) → Rising 0 (pre ++ (r ∷ post)) → All (λ q. q < rows_in l) (pre ++ (r ∷ post)) → NoTrouble m l s key room [] pre → trouble m l s key room pre r ≢ 0
      → lookup_end m s late (find m (slot_at m s) key room (pre ++ (r ∷ post))) ≡ refuse m (trouble m l s key room pre r) (trouble_value m l s key room (trouble m l s key room pre r) r)
  found_stop late pre r post ri a n nz =
      let x = stops_first pre [] r post [] [] 0 start ri a n nz in
      end_stopped late _ _ _ (subst (λ (u : Slot). find m u key room (pre ++ (r ∷ post)) ≡ stopped (trouble m l s key room pre r) (trouble_value m l s key room (trouble m l s key room pre r) r)) at_slot x)

  -- ---- the two calls
  pub lookup_passed : (cands : List ℕ) → All (λ r. r < rows_in l) cands → lookup_out m s (who_in l s) key cands room ≡ lookup_end m s (each (own_row_tests m) (own_rows (slot_at m s).writes)) (find m (slot_at m s) key room (rows_to_read m (slot_at m s).writes cands))
  unfolding lookup_out
  lookup_passed cands a = guard_passed (refuse m) (slot_tests m s (who_in l s) ++ each (candidate_tests m) cands) _
      (passed_join (slot_tests m s (who_in l s)) _ (slot_passed (rows_in l) (cells_in l) m (hist_of l) gd s (who_in l s) o)
      (passed_each (candidate_tests m) cands (all_map _ _ cands (λ r lt. (lt-leb (size_r m) r (rw gd.rows lt), tt)) a)))

  pub lookup_all_passed : lookup_all_out m s (who_in l s) key room ≡ lookup_end m s [] (find m (slot_at m s) key room (from 0 (size_r m)))
  unfolding lookup_all_out
  lookup_all_passed = guard_passed (refuse m) (slot_tests m s (who_in l s)) _ (slot_passed (rows_in l) (cells_in l) m (hist_of l) gd s (who_in l s) o)

  own_late : (ws : List Write) → All (Entered (rows_in l) (cells_in l) m (hist_of l) gd s (who_in l s) o) ws → Passed (each (own_row_tests m) (own_rows ws))
  unfolding each
  own_late [] a = tt
  own_late (w ∷ ws) a = (lt-leb (size_r m) w.row (rw gd.rows a.0.row_in), own_late ws a.1)

  pub late_passed : Passed (each (own_row_tests m) (own_rows (slot_at m s).writes))
  late_passed = own_late (slot_at m s).writes (all_entered (rows_in l) (cells_in l) m (hist_of l) gd s (who_in l s) o)

  -- the rows that a lookup reads, by the log
  own_has : (f : ℕ → Ver) (ws : List Write) (r : ℕ) → has r (own_rows ws) ≡ not (is_none (own_find f ws r))
  unfolding has own_find
  own_has f [] r = refl
  own_has f (w ∷ ws) r = by_eq w.row r
      (λ e. rw (eq-eqb w.row r e, eq-eqb r w.row (sym e)) refl)
      (λ e. rw (ne_eqb w.row r e, ne_eqb r w.row (λ y. e (sym y))) (own_has f ws r))

  keep_same : (p q : ℕ → Bool) → ((r : ℕ) → p r ≡ q r) → (rows : List ℕ) → keep p rows ≡ keep q rows
  unfolding keep
  keep_same p q e [] = refl
  keep_same p q e (r ∷ rows) = rw (e r, keep_same p q e rows) refl

  pub rows_read_lem : (cands : List ℕ) → rows_to_read m (slot_at m s).writes cands ≡ rows_of m l s cands
  unfolding rows_to_read rows_of
  rows_read_lem cands =
      let q = gd.inv.opens s (view_open m s (who_in l s) o) in
      keep_same _ _ (λ r. ap (λ (b : Bool). has r cands || b)
      (ap (λ (u : Slot). has r (own_rows u.writes)) (sym at_slot) ∙ own_has (vers st) t.writes r ∙ ap (λ (x : Option Val). not (is_none x)) (q.owns r))) (from 0 (size_r m))
      ∙ ap (λ (k : ℕ). keep (λ r. has r cands || not (is_none (own_in l s r))) (from 0 k)) gd.rows

  pub rows_rising : (cands : List ℕ) → Rising 0 (rows_of m l s cands) × All (λ r. r < rows_in l) (rows_of m l s cands)
  unfolding rows_of
  rows_rising cands = (keep_rising _ 0 (from 0 (rows_in l)) (from_rising 0 (rows_in l)), keep_all _ _ (from 0 (rows_in l)) (from_below (rows_in l) 0 (rows_in l) (omega arith)))

  -- ---- rows have no trouble, or there is a first
  trouble_or_not : (rows before : List ℕ) → NoTrouble m l s key room before rows ⊎ FirstTrouble m l s key room before rows
  trouble_or_not [] before = inl tt
  trouble_or_not (r ∷ rows) before = by_eq (trouble m l s key room before r) 0
      (λ e. ⊎_elim
      (λ n. inl (e, n))
      (λ f. inr (record { fine = r ∷ f.fine; row = f.row; rest = f.rest; split = ap (λ (x : List ℕ). r ∷ x) f.split; none_yet = (e, f.none_yet); here = rw (← append_snoc before r f.fine) f.here }))
      (trouble_or_not rows (before ++ (r ∷ []))))
      (λ ne. inr (record { fine = []; row = r; rest = rows; split = refl; none_yet = tt; here = rw (append-nil before) ne }))

  comes : (late : List Test) → Passed late → (rows : List ℕ) → Rising 0 rows → All (λ r. r < rows_in l) rows → Comes m l s key room rows (lookup_end m s late (find m (slot_at m s) key room rows))
  comes late p rows ri a = ⊎_elim
      (λ n. let x = found_all late p rows ri a n in its_list _ n x.0 x.1)
      (λ f.
      let e = f.split in
      subst (λ (o : Outcome z Answer ℕ). Comes m l s key room rows o)
      (sym (ap (λ (x : List ℕ). lookup_end m s late (find m (slot_at m s) key room x)) e ∙ found_stop late f.fine f.row f.rest (rw e at ri) (rw e at a) f.none_yet f.here))
      (its_trouble f))
      (trouble_or_not rows [])

  pub lookup_comes : (cands : List ℕ) → All (λ r. r < rows_in l) cands → Comes m l s key room (rows_of m l s cands) (lookup_out m s (who_in l s) key cands room)
  lookup_comes cands a =
      let r = rows_rising cands in
      rw (lookup_passed cands a, rows_read_lem cands) (comes _ late_passed (rows_of m l s cands) r.0 r.1)

  pub lookup_all_comes : Comes m l s key room (from 0 (rows_in l)) (lookup_all_out m s (who_in l s) key room)
  lookup_all_comes = rw (lookup_all_passed, gd.rows) (comes [] tt (from 0 (rows_in l)) (from_rising 0 (rows_in l)) (from_below (rows_in l) 0 (rows_in l) (omega arith)))

  -- the numbers that a row can stop a lookup with
  trouble_known : (before : List ℕ) (r : ℕ) → OneOf (trouble m l s key room before r)
  unfolding trouble
  trouble_known before r = by_bool (looks_past m l s r) (λ e. rw e (inr (inl refl)))
      (λ e. rw e (by_bool (is_need r && leb z.reads (length (slot_at m s).recs + length (keep is_need before))) (λ f. rw f (inr (inr (inl refl))))
      (λ f. rw f (by_bool (is_hit r && leb room (length (keep is_hit before))) (λ g. rw g (inr (inr (inr refl)))) (λ g. rw g (inl refl))))))

  pub comes_known : (rows : List ℕ) (o : Outcome z Answer ℕ) → Comes m l s key room rows o → OneOf (number_of o.answer)
  comes_known rows o (its_list _ n e f) = inl (ap number_of e)
  comes_known rows _ (its_trouble f) = trouble_known f.fine f.row
