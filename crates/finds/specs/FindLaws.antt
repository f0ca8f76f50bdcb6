-- The sweep over words is the rules' find: the copy of the slot holds the records found so far after its own, and the front of the list
-- the rows listed.
use Rattle.std.specs.Prelude.{ℕ, suc, ◌+◌, ◌≤◌, ◌≡◌, take, leb, Result, Ok, Err}
use mathlib.Core.List.{List, [], ◌∷◌, ◌++◌}
use Rattle.std.proofs.Math.Option.{Option, none, some}
use Rattle.std.proofs.Math.Path.{refl, sym, ap, subst}
use Rattle.std.proofs.Common.{◌∙◌, arith, length-set, take-suc-set}
use Rattle.std.proofs.Math.Numerals.{add-one}
use Rattle.std.proofs.Math.ListN.{length, get_or, length-append}
use borrow.Author.Tests.{leb-false}
use Rattle.kinds.specs.declared.Version.{Version}
use Rattle.words.specs.Sizes.{base, READS}
use Rattle.words.specs.Lists.{fold}
use Rattle.kinds.specs.Versions.{version_at}
use Rattle.words.specs.Slots.{Write, Rec, rec, Slot, slot_of, add_rec, add_recs}
use Rattle.rules.specs.Memory.{Mem, size_n, head_at}
use Rattle.kinds.specs.Visible.{visible, creator_visible}
use Rattle.rules.specs.Chain.{look}
use Rattle.rules.specs.Read.{answer_at, Sight, blocked, sees, own, recorded, sight_of, own_sight, read_row, read_at}
use Rattle.rules.specs.Lookup.{Found, stopped, got, is_key, list_row, find_row, find}
use Rattle.rules.proofs.Theory.Cases.{by_bool}
use Rattle.rules.specs.Theory.SlotLaws.{SlotOk, with_recs, put_recs}
use Rattle.rules.proofs.Theory.SlotLaws.{slot_recs, recs_length}
use Rattle.arena.specs.declared.Broken.{Broken}
use Rattle.reads.specs.declared.Found as F
use Rattle.reads.specs.Found.{found_of}
use Rattle.reads.specs.Sights.{record_of, sight_found, read_row_is}
use Rattle.finds.specs.Listing.{Listing}
use Rattle.finds.specs.Sweep.{note, Sweep, sweep, list_at, seen_row, step_row, go_on, after_row, sweep_rows}

fold_append : {A S : Type 0} (f : A → S → S) (l k : List A) (s : S) → fold f (l ++ k) s ≡ fold f k (fold f l s)
unfolding fold
fold_append f [] k s = refl
fold_append f (a ∷ l) k s = fold_append f l k (f a s)

-- a read asks the slot for what it sees and has written, and not for its records: those are given beside it
read_by_parts : (n : ℕ) (f : ℕ → Version) (head : ℕ) (t : Slot) (recs rs : List Rec) (row : ℕ)
    → read_row base n f head (put_recs t rs) recs row ≡ read_row base n f head t recs row
unfolding read_row own_sight sight_of look visible creator_visible
read_by_parts n f head t recs rs row = by (own t.writes row)
  where
    by : (o : Option Write) → own_sight base n f head (put_recs t rs) recs row o ≡ own_sight base n f head t recs row o
    by none = refl
    by (some w) = refl

-- where there is room for the records, there is room for what a read adds
new_fits : (f : ℕ → Version) (recs : List Rec) (row c : ℕ) (new : List Rec) (k : Result F.Found Broken) → length recs ≤ base.reads → sight_found f recs row k ≡ sees c new → length recs + length new ≤ base.reads
unfolding record_of
new_fits f recs row c new (Ok (F.Found.Own d)) h e =
    let q : [] ≡ new = cc in
    rw (← q) (omega arith)
new_fits f recs row c new (Ok F.Found.Nothing) h e =
    let q : [] ≡ new = cc in
    rw (← q) (omega arith)
new_fits f recs row c new (Err Broken.TooLong) h e = absurd (let z : ◌≡◌ {A = ℕ} 0 1 = cc in omega arith)
new_fits f recs row c new (Err Broken.Harmed) h e = absurd (let z : ◌≡◌ {A = ℕ} 0 1 = cc in omega arith)
new_fits f recs row c new (Ok (F.Found.Version d)) h e = by_bool (recorded d.0 recs)
    (λ a.
    let g = rw a at e in
    let q : [] ≡ new = cc in
    rw (← q) (omega arith))
    (λ a. by_bool (leb base.reads (length recs))
    (λ b. absurd (let g = rw (a, b) at e in let z : ◌≡◌ {A = ℕ} 0 1 = cc in omega arith))
    (λ b.
    let g = rw (a, b) at e in
    let q : rec row d.0 (f d.0).xmin.0 ∷ [] ≡ new = cc in
    let r = leb-false base.reads (length recs) b in
    rw (← q) (omega arith)))

-- ---- what the words hold

-- w: the slot's words; room: what the caller's buffer holds. `more` rows are yet to be read
pub record Holds (w : List ℕ) (room more : ℕ) (s : Sweep) (recs : List Rec) (rows : List ℕ) : Type 0 where
  pub counted : s.found.listing ≡ Listing.Rows (length rows)
  pub saved : s.slot ≡ add_recs base recs w
  pub front : take (length rows) s.found.listed ≡ rows
  pub few : length rows ≤ room
  pub left : length rows + more ≤ base.rows
  pub long : base.rows ≤ length s.found.listed
  pub fits : get_or w (READS base) 0 + length recs ≤ base.reads

abbrev pub Holding : List ℕ → ℕ → ℕ → Sweep → Found → Type 0
Holding w room more s (stopped k x) = s.found.listing ≡ Listing.Stopped k x
Holding w room more s (got recs rows) = Holds w room more s recs rows

module _ (m : Mem base) (w : List ℕ) (ok : SlotOk base w) (key room : ℕ) where
  abbrev Agrees : ℕ → Sweep → Found → Type 0
  Agrees more s fd = Holding w room more s fd

  abbrev vs : ℕ → Version
  vs = version_at m.cells

  module _ (r more : ℕ) (t b : List ℕ) (recs : List Rec) (rows : List ℕ) where
    -- before the row is read
    abbrev Room : Type 0
    Room = (length rows ≤ room) × ((length rows + suc more ≤ base.rows) × (base.rows ≤ length b))

    -- the row was read
    listed_agrees : (c : ℕ) (new : List Rec) → t ≡ add_recs base recs w → take (length rows) b ≡ rows → Room → get_or w (READS base) 0 + length (recs ++ new) ≤ base.reads
        → Agrees more (sweep (add_recs base new t) (list_at vs key room r (length rows) b c)) (list_row m (slot_of base w) key room r recs rows (sees c new))
    unfolding list_at list_row
    listed_agrees c new es ef er le =
        let sv : add_recs base new t ≡ add_recs base (recs ++ new) w = ap (add_recs base new) es ∙ sym (fold_append (add_rec base) recs new w) in
        by_bool (is_key key (answer_at vs c))
        (λ h. by_bool (leb room (length rows))
        (λ l. rw (h, l))
        (λ l.
        let g = leb-false room (length rows) l in
        let n : length (rows ++ (r ∷ [])) ≡ length rows + 1 = length-append rows (r ∷ []) in
        rw (h, l) (record {
          counted = ap Listing.Rows (sym n);
          saved = sv;
          front = rw (n, add-one (length rows)) (take-suc-set b (length rows) r (omega arith) ∙ ap (λ (l : List ℕ). l ++ (r ∷ [])) ef);
          few = omega arith;
          left = omega arith;
          long = rw (length-set b (length rows) r) er.1.1;
          fits = le;
        })))
        (λ h. rw h (record { counted = refl; saved = sv; front = ef; few = er.0; left = omega arith; long = er.1.1; fits = le }))

    seen_agrees : (g : Sight) → t ≡ add_recs base recs w → take (length rows) b ≡ rows → Room → get_or w (READS base) 0 + length recs ≤ base.reads
        → read_at m (slot_of base w) ((slot_of base w).recs ++ recs) r ≡ g
        → Agrees more (seen_row vs (size_n m) key room r t (length rows) b g) (list_row m (slot_of base w) key room r recs rows g)
    unfolding seen_row list_row
    seen_agrees (blocked k x) es ef er le e = refl
    seen_agrees (sees c new) es ef er le e =
        let old = (slot_of base w).recs in
        let n : length (old ++ recs) ≡ get_or w (READS base) 0 + length recs = length-append old recs ∙ ap (λ (k : ℕ). k + length recs) (recs_length w ok) in
        let p = sym (read_row_is (size_n m) vs (head_at m r) (slot_of base w) (old ++ recs) r) ∙ e in
        let q = new_fits vs (old ++ recs) r c new (found_of (size_n m) (own (slot_of base w).writes r) (look (size_n m) (slot_of base w) vs base.walk (head_at m r))) (omega arith) p in
        let a : length (recs ++ new) ≡ length recs + length new = length-append recs new in
        listed_agrees c new es ef er (omega arith)

  -- the copy is read as the slot with the records found so far
  read_copy : (r : ℕ) (t : List ℕ) (recs : List Rec) → t ≡ add_recs base recs w → get_or w (READS base) 0 + length recs ≤ base.reads
      → read_row base (size_n m) vs (head_at m r) (slot_of base t) (slot_of base t).recs r ≡ read_at m (slot_of base w) ((slot_of base w).recs ++ recs) r
  read_copy r t recs es le =
      let e : slot_of base t ≡ with_recs (slot_of base w) recs = ap (slot_of base) es ∙ (slot_recs recs w ok le).0 in
      ap (λ (u : Slot). read_row base (size_n m) vs (head_at m r) u u.recs r) e
      ∙ read_by_parts (size_n m) vs (head_at m r) (slot_of base w) ((slot_of base w).recs ++ recs) ((slot_of base w).recs ++ recs) r

  step_agrees : (r more : ℕ) (s : Sweep) (fd : Found) → Agrees (suc more) s fd → Agrees more (after_row vs (size_n m) key room m.rows r s) (find_row m (slot_of base w) key room r fd)
  unfolding go_on step_row find_row
  step_agrees r more s (stopped k x) a = ap (λ (l : Listing). (go_on vs (size_n m) key room m.rows r s.slot s.found.listed l).found.listing) a
  step_agrees r more s (got recs rows) a =
      let t = s.slot in
      let b = s.found.listed in
      let g = read_at m (slot_of base w) ((slot_of base w).recs ++ recs) r in
      let e : after_row vs (size_n m) key room m.rows r s ≡ seen_row vs (size_n m) key room r t (length rows) b g =
      ap (go_on vs (size_n m) key room m.rows r t b) a.counted ∙ ap (seen_row vs (size_n m) key room r t (length rows) b) (read_copy r t recs a.saved a.fits) in
      subst (λ (u : Sweep). Agrees more u (list_row m (slot_of base w) key room r recs rows g)) (sym e)
      (seen_agrees r more t b recs rows g a.saved a.front (a.few, (a.left, a.long)) a.fits refl)

  rows_agree : (l : List ℕ) (s : Sweep) (fd : Found) → Agrees (length l) s fd
      → Agrees 0 (sweep_rows vs (size_n m) key room m.rows l s) (fold (find_row m (slot_of base w) key room) l fd)
  unfolding fold
  rows_agree [] s fd a = a
  rows_agree (r ∷ l) s fd a = rows_agree l _ _ (step_agrees r (length l) s fd a)

  -- ---- what the code has in hand at the end: u, the copy; l and d, what the rows came to and the list
  module _ (rows : List ℕ) (b : List ℕ) (few : length rows ≤ base.rows) (long : base.rows ≤ length b) where
    swept : Sweep
    swept = sweep_rows vs (size_n m) key room m.rows rows (sweep w (note (Listing.Rows 0) b))

    all_agree : Agrees 0 swept (find m (slot_of base w) key room rows)
    unfolding swept fold
    all_agree = rows_agree rows _ _ (record { counted = refl; saved = refl; front = refl; few = omega arith; left = omega arith; long = long; fits = omega (arith, ok.reads) })

    pub record Got (u : List ℕ) (k : ℕ) (d : List ℕ) : Type 0 where
      pub recs : List Rec
      pub is : find m (slot_of base w) key room rows ≡ got recs (take k d)
      pub saved : u ≡ add_recs base recs w
      pub count : length (take k d) ≡ k
      pub fits : k ≤ room
      pub most : k ≤ base.rows

    stop_from : (fd : Found) (s : Sweep) (k x : ℕ) → Agrees 0 s fd → s.found.listing ≡ Listing.Stopped k x → fd ≡ stopped k x
    stop_from (stopped j y) s k x a e =
        let p : j ≡ k = cc in
        let q : y ≡ x = cc in
        rw (p, q)
    stop_from (got recs rs) s k x a e = absurd (let c = a.counted in let z : ◌≡◌ {A = ℕ} 0 1 = cc in omega arith)

    got_from : (fd : Found) (s : Sweep) (k : ℕ) → find m (slot_of base w) key room rows ≡ fd → Agrees 0 s fd → s.found.listing ≡ Listing.Rows k → Got s.slot k s.found.listed
    got_from (stopped j y) s k h a e = absurd (let z : ◌≡◌ {A = ℕ} 0 1 = cc in omega arith)
    got_from (got recs rs) s k h a e =
        let c = a.counted in
        let n : length rs ≡ k = cc in
        let f : take k s.found.listed ≡ rs = ap (λ (j : ℕ). take j s.found.listed) (sym n) ∙ a.front in
        record { recs = recs; is = h ∙ ap (got recs) (sym f); saved = a.saved; count = ap length f ∙ n; fits = omega (arith, a.few); most = omega (arith, a.left) }

    module _ (u d : List ℕ) (l : Listing) (e : sweep u (note l d) ≡ sweep_rows vs (size_n m) key room m.rows rows (sweep w (note (Listing.Rows 0) b))) where
      agrees : Agrees 0 (sweep u (note l d)) (find m (slot_of base w) key room rows)
      unfolding swept
      agrees = subst (λ (s : Sweep). Agrees 0 s (find m (slot_of base w) key room rows)) (sym e) all_agree

      pub find_stopped : (k x : ℕ) → l ≡ Listing.Stopped k x → find m (slot_of base w) key room rows ≡ stopped k x
      find_stopped k x h = stop_from _ _ k x agrees h

      pub find_rows : (k : ℕ) → l ≡ Listing.Rows k → Got u k d
      find_rows k h = got_from _ _ k refl agrees h
