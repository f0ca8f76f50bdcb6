-- Upstream's clauses on finding and reading a version, of every reachable store and every open reader: `find_visible_row_ptr`,
-- `latest_pending`, `record_read`, `read`. What is a visible version is said by 000's own `visible`.
use Prim.Native.Nat.{ℕ, ◌<◌, ◌≤◌, ◌+◌, zero, suc}
use Rattle.std.specs.Prelude.{Bool, true, false, cond, ◌≢◌, ◌⊎◌, ◌↔◌, eqb, leb, ltb, get_or, take, length}
use mathlib.Core.List.{List, [], ◌∷◌, ◌++◌, append-nil}
use Rattle.std.proofs.Common.{inl, inr, ⊎_elim, sym, ◌∙◌, subst, arith, length-append, get_or-set_same}
use Rattle.std.proofs.Math.Option.{Option, none, some}
use Rattle.std.proofs.Math.Path.{◌≡◌, refl, ap}
use borrow.Author.Tests.{eq-eqb, ne_eqb, le-leb, lt-leb, ltb-true, ltb-false, leb-false, not-true, eqb-false}
use Rattle.kinds.specs.declared.Version.{Version}
use Rattle.kinds.specs.ReadAnswer.{ReadAnswer, None}
use Rattle.words.specs.Sizes.{Sizes, Roomy}
use Rattle.rules.specs.Numbers.{chain_too_long, read_set_full, damaged}
use Rattle.words.specs.Lists.{nonzero, first, last, or_else}
use Rattle.kinds.specs.Versions.{version_at}
use Rattle.words.specs.Slots.{Slot, Write, Rec, rec, add_recs, slot_of}
use Rattle.rules.specs.Memory.{Mem, size_n, head_at, words_at, slot_at, with_slot}
use Rattle.rules.specs.Chain.{Chain, chain, After, ends, goes_on, broken, Look, found, nothing, too_long, harmed, look_of, look}
use Rattle.rules.specs.Outcome.{Outcome, refuse_read, slot_tests, row_test, is_cell}
use Rattle.rules.specs.Read.{own, answer_at, recorded, blocked, sees, sight_of, own_sight, read_row, read_end, read_out}
use Rattle.rules.specs.History.{Log, who_in, rows_in, cells_in}
use Rattle.rules.specs.Reachable.{Reachable, In, chain_at, walked_at, sees_at, times}
use Rattle.rules.proofs.Theory.Cases.{by_bool, and_true, or_true}
use Rattle.rules.specs.Theory.SlotLaws.{with_recs}
use Rattle.rules.proofs.Theory.SlotLaws.{slot_recs, recs_length}
use Rattle.rules.specs.Theory.View.{view_of}
use Rattle.rules.specs.Theory.Counting.{cnt}
use Rattle.rules.specs.Theory.Chains.{rest_of}
use Rattle.rules.proofs.Theory.Chains.{all_below, chain_spelled, take_whole}
use Rattle.rules.proofs.Theory.Places.{chain_cell}
use Rattle.rules.proofs.Theory.Guard.{guard_case}
use Rattle.rules.specs.Theory.Good.{Owner}
use Rattle.rules.proofs.Theory.Never.{open_slot}
use Rattle.rules.proofs.Theory.OnePlace.{times_is}
use Rattle.rules.proofs.Theory.Facts.{at_row}
use Rattle.rules.specs.Theory.Steps.{hist_of}
use Rattle.rules.proofs.Theory.Steps.{Sound}
use Rattle.rules.proofs.Theory.ReadLaw.{reachable_sound}
use Rattle.upstream.specs.Images.{Image, image_of, stored, Snapshot, snapshot}
use Rattle.upstream.specs.Seen.{visible, first_along, first_visible, along}
use Rattle.upstream.specs.Transactions.{last_write, selected_value, value_at, answered}
use Rattle.upstream.specs.ReadTerms.{ViewSame, Extends, recording, Observed, Provenance, records_after}
use Rattle.upstream.proofs.Standing.{visibility_agrees_in_reachable_stores}
use Rattle.upstream.specs.Reading.{new_of, Accepted}

-- ---- along a chain
above : (n p : ℕ) → ltb n p ≡ true → leb p n ≡ false
above n p e = lt-leb p n (ltb-true n p e)

not_above : (n p : ℕ) → ltb n p ≡ false → leb p n ≡ true
not_above n p e = le-leb p n (ltb-false n p e)

-- the cells along next are those of the chain
pub reachable_is_the_chain : (s : Image) (k p : ℕ) → along k s p ≡ (chain s.cells s.rows k p).cells
unfolding along chain
reachable_is_the_chain s zero p = by_bool (eqb p 0) (λ e. rw e) (λ e. rw e)
reachable_is_the_chain s (suc k) p = by_bool (eqb p 0) (λ e. rw e)
    (λ e. rw e (by_bool (ltb s.cells p)
    (λ q. rw (q, above s.cells p q))
    (λ q. rw (q, not_above s.cells p q) (ap (λ (l : List ℕ). p ∷ l) (reachable_is_the_chain s k (s.rows p).next.0)))))

-- the first visible version along next is the first of the chain's cells that is visible
pub first_visible_is_first_of_the_chain : (s : Image) (k p : ℕ) (t : Snapshot) → first_along k s p t ≡ first (λ c. visible (s.rows c) t) (along k s p)
unfolding first_along along first
first_visible_is_first_of_the_chain s zero p t = refl
first_visible_is_first_of_the_chain s (suc k) p t = by_bool (stored s p)
    (λ e. rw e (by_bool (visible (s.rows p) t) (λ q. rw q) (λ q. rw q (first_visible_is_first_of_the_chain s k (s.rows p).next.0 t))))
    (λ e. rw e)

module _ {A : Type 0} where
  -- the first of the first k is the first of all
  first_of_front : (p : A → Bool) (k : ℕ) (l : List A) (a : A) → first p (take k l) ≡ some a → first p l ≡ some a
  unfolding first
  first_of_front p zero l a e = let y : ◌≡◌ {A = ℕ} 0 1 = cc in absurd (omega arith)
  first_of_front p (suc k) [] a e = e
  first_of_front p (suc k) (x ∷ l) a e = by_bool (p x) (λ q. rw q (rw q at e)) (λ q. rw q (first_of_front p k l a (rw q at e)))

first_agrees : (p q : ℕ → Bool) (l : List ℕ) → ((c : ℕ) → times c l ≢ 0 → p c ≡ q c) → first p l ≡ first q l
unfolding first times
first_agrees p q [] h = refl
first_agrees p q (c ∷ l) h =
    rw (h c (rw (eq-eqb c c refl) (λ e. omega arith)), first_agrees p q l (λ d nz. h d (by_bool (eqb d c) (λ e. rw e (λ y. omega arith)) (λ e. rw e nz))))

rest_short : (k : ℕ) (l : List ℕ) → rest_of k l ≡ ends → length l ≤ k
unfolding rest_of
rest_short zero [] e = omega arith
rest_short zero (c ∷ l) e = let y : ◌≡◌ {A = ℕ} 0 1 = cc in absurd (omega arith)
rest_short (suc k) [] e = omega arith
rest_short (suc k) (c ∷ l) e = let y = rest_short k l e in omega arith

rest_long : (k : ℕ) (l : List ℕ) → rest_of k l ≡ goes_on → k < length l
unfolding rest_of
rest_long zero [] e = let y : ◌≡◌ {A = ℕ} 0 1 = cc in absurd (omega arith)
rest_long zero (c ∷ l) e = omega arith
rest_long (suc k) [] e = let y : ◌≡◌ {A = ℕ} 0 1 = cc in absurd (omega arith)
rest_long (suc k) (c ∷ l) e = let y = rest_long k l e in omega arith

rest_whole : (k : ℕ) (l : List ℕ) → rest_of k l ≡ broken → ⊥
unfolding rest_of
rest_whole zero [] e = let y : ◌≡◌ {A = ℕ} 0 1 = cc in omega arith
rest_whole zero (c ∷ l) e = let y : ◌≡◌ {A = ℕ} 0 1 = cc in omega arith
rest_whole (suc k) [] e = let y : ◌≡◌ {A = ℕ} 0 1 = cc in omega arith
rest_whole (suc k) (c ∷ l) e = rest_whole k l e

-- `latest_pending`: the entry that our calls take has the cell that `last_write` gives, and there is one exactly where that gives one
pub latest_pending_is_last_write : (ws : List Write) (r : ℕ) → new_of (own ws r) ≡ last_write ws r
unfolding own last last_write
latest_pending_is_last_write [] r = refl
latest_pending_is_last_write (w ∷ l) r = join (own l r) (last_write l r) (latest_pending_is_last_write l r)
  where
    join : (o : Option Write) (p : Option ℕ) → new_of o ≡ p → new_of (or_else o (cond (eqb w.row r) (some w) none)) ≡ or_else p (cond (eqb w.row r) (some w.new) none)
    join none p e = rw (← e) (by_bool (eqb w.row r) (λ q. rw q) (λ q. rw q))
    join (some x) p e = rw (← e)

-- ---- `record_read`, for any records
module _ (recs : List Rec) (row c x : ℕ) where
  recorded_last : (old : List Rec) → recorded c (old ++ rec row c x ∷ []) ≡ true
  unfolding recorded
  recorded_last [] = rw (eq-eqb c c refl)
  recorded_last (q ∷ old) = rw (recorded_last old) (or_true (eqb c q.cell))

  -- some record after has the cell; at most one record is added, at the end
  pub record_read_has_the_cell : recorded c (recording recs row c x) ≡ true
  record_read_has_the_cell = by_bool (recorded c recs) (λ e. rw e e) (λ e. rw e (recorded_last recs))

  pub record_read_extends : Extends recs (recording recs row c x)
  record_read_extends = by_bool (recorded c recs) (λ e. rw e (record { added = []; is = sym (append-nil recs) })) (λ e. rw e (record { added = rec row c x ∷ []; is = refl }))

  pub record_read_adds_at_most_one : length (recording recs row c x) ≤ length recs + 1
  record_read_adds_at_most_one = by_bool (recorded c recs) (λ e. rw e (omega arith)) (λ e. rw (e, length-append recs (rec row c x ∷ [])) (omega arith))

-- every record of before is among those after
pub extended_contains : (before after : List Rec) → Extends before after → (q : Rec) → In q before → In q after
extended_contains before after e q i = subst (In q) (sym e.is) (front_in before e.added i)
  where
    front_in : (old new : List Rec) → In q old → In q (old ++ new)
    front_in [] new i = absurd i
    front_in (x ∷ old) new (inl y) = inl y
    front_in (x ∷ old) new (inr y) = inr (front_in old new y)

cell_nonzero : (n c : ℕ) → is_cell n c ≡ true → c ≢ 0
cell_nonzero n c e = eqb-false c 0 (not-true _ (and_true (nonzero c) (leb c n) e).0)

blocked_not : {z : Sizes} (m : Mem z) (s k x : ℕ) → Accepted (read_end m s (blocked k x)).answer → ⊥
unfolding read_end
blocked_not m s k x a = a k x refl

none_is : (f : ℕ → Version) → answer_at f 0 ≡ None
unfolding answer_at
none_is f = refl

module _ {z : Sizes} (rm : Roomy z) (m : Mem z) (l : Log) (rc : Reachable m l) (s row : ℕ) (op : who_in l s ≢ 0) (in_r : row < rows_in l) where
  abbrev so : Sound m l
  so = reachable_sound rm m l rc

  abbrev t : Slot
  t = slot_at m s

  abbrev f : ℕ → Version
  f = version_at m.cells

  abbrev cells : List ℕ
  cells = (chain_at m row).cells

  -- what our read finds along the row's chain
  abbrev pub finds : Look
  finds = look (size_n m) t f z.walk (head_at m row)

  -- and what upstream's `first_visible` finds
  abbrev pub first_seen : Option ℕ
  first_seen = first_visible (image_of m) (head_at m row) (snapshot t)

  -- `first_visible`, by 000's rule, is the first version of the chain that the reader sees by 01's
  pub first_visible_agrees : first_seen ≡ first (sees_at m s) cells
  first_visible_agrees =
      first_visible_is_first_of_the_chain (image_of m) (size_n m) (head_at m row) (snapshot t)
      ∙ ap (first (λ c. visible (f c) (snapshot t))) (reachable_is_the_chain (image_of m) (size_n m) (head_at m row))
      ∙ first_agrees (λ c. visible (f c) (snapshot t)) (sees_at m s) cells (λ c nz. visibility_agrees_in_reachable_stores rm m l rc s op row c in_r nz)

  abbrev listed : List ℕ
  listed = get_or so.ghost.rows row []

  at_cells : listed ≡ cells
  at_cells = at_row (rows_in l) (cells_in l) m (hist_of l) so row in_r

  walk_is : finds ≡ look_of (first (sees_at m s) (walked_at m row)) (rest_of z.walk cells)
  unfolding look
  walk_is =
      let low : (c : ℕ) → cnt c listed ≢ 0 → c < suc (size_n m) = λ c nz. let y = (chain_cell (rows_in l) (suc (cells_in l)) (view_of m) so.ghost (hist_of l) [] c row so.inv nz).inside in omega (arith, so.cells) in
      let e = chain_spelled (size_n m) z.walk f (head_at m row) listed (all_below (suc (size_n m)) listed low) (so.inv.chain row in_r) in
      ap (λ (c : Chain). look_of (first (sees_at m s) c.cells) c.after) e ∙ ap (λ (x : List ℕ). look_of (first (sees_at m s) (take z.walk x)) (rest_of z.walk x)) at_cells

  -- the four looks
  found_is : (o : Option ℕ) (a : After) (c : ℕ) → look_of o a ≡ found c → o ≡ some c
  found_is (some d) a c e = let q : d ≡ c = cc in rw q
  found_is none ends c e = let y : ◌≡◌ {A = ℕ} 0 1 = cc in absurd (omega arith)
  found_is none goes_on c e = let y : ◌≡◌ {A = ℕ} 0 1 = cc in absurd (omega arith)
  found_is none broken c e = let y : ◌≡◌ {A = ℕ} 0 1 = cc in absurd (omega arith)

  nothing_is : (o : Option ℕ) (a : After) → look_of o a ≡ nothing → (o ≡ none) × (a ≡ ends)
  nothing_is (some d) a e = let y : ◌≡◌ {A = ℕ} 0 1 = cc in absurd (omega arith)
  nothing_is none ends e = (refl, refl)
  nothing_is none goes_on e = let y : ◌≡◌ {A = ℕ} 0 1 = cc in absurd (omega arith)
  nothing_is none broken e = let y : ◌≡◌ {A = ℕ} 0 1 = cc in absurd (omega arith)

  long_is : (o : Option ℕ) (a : After) → look_of o a ≡ too_long → (o ≡ none) × (a ≡ goes_on)
  long_is (some d) a e = let y : ◌≡◌ {A = ℕ} 0 1 = cc in absurd (omega arith)
  long_is none ends e = let y : ◌≡◌ {A = ℕ} 0 1 = cc in absurd (omega arith)
  long_is none goes_on e = (refl, refl)
  long_is none broken e = let y : ◌≡◌ {A = ℕ} 0 1 = cc in absurd (omega arith)

  harmed_is : (o : Option ℕ) (a : After) → look_of o a ≡ harmed → a ≡ broken
  harmed_is (some d) a e = let y : ◌≡◌ {A = ℕ} 0 1 = cc in absurd (omega arith)
  harmed_is none ends e = let y : ◌≡◌ {A = ℕ} 0 1 = cc in absurd (omega arith)
  harmed_is none goes_on e = let y : ◌≡◌ {A = ℕ} 0 1 = cc in absurd (omega arith)
  harmed_is none broken e = refl

  -- `find_visible_row_ptr`: where it is Ok, its answer is `first_visible` from the row's head ..
  pub find_visible_row_ptr_ok_is_first_visible : ((c : ℕ) → finds ≡ found c → first_seen ≡ some c) × (finds ≡ nothing → first_seen ≡ none)
  find_visible_row_ptr_ok_is_first_visible = (
    λ c e. first_visible_agrees ∙ first_of_front (sees_at m s) z.walk cells c (found_is _ _ c (sym walk_is ∙ e)),
    λ e.
        let k = nothing_is _ _ (sym walk_is ∙ e) in
        first_visible_agrees ∙ ap (first (sees_at m s)) (sym (take_whole z.walk cells (rest_short z.walk cells k.1))) ∙ k.0,
  )

  first_member : (p : ℕ → Bool) (x : List ℕ) (c : ℕ) → first p x ≡ some c → times c x ≢ 0
  unfolding first times
  first_member p [] c e = let y : ◌≡◌ {A = ℕ} 0 1 = cc in absurd (omega arith)
  first_member p (d ∷ x) c e = by_bool (p d)
      (λ q. let r : some d ≡ some c = rw q at e in let r' : c ≡ d = cc in rw (eq-eqb c d r') (λ y. omega arith))
      (λ q. by_bool (eqb c d) (λ r. rw r (λ y. omega arith)) (λ r. rw r (first_member p x c (rw q at e))))

  pub seen_is_stored : (c : ℕ) → first_seen ≡ some c → stored (image_of m) c ≡ true
  seen_is_stored c e =
      let nz = first_member (sees_at m s) cells c (sym first_visible_agrees ∙ e) in
      let nz' : cnt c listed ≢ 0 = λ y. nz (times_is c cells ∙ subst (λ (x : List ℕ). cnt c x ≡ 0) at_cells y) in
      let k = chain_cell (rows_in l) (suc (cells_in l)) (view_of m) so.ghost (hist_of l) [] c row so.inv nz' in
      let lt = k.inside in
      rw (ne_eqb c 0 k.real, le-leb c (size_n m) (omega (arith, so.cells)))

  -- .. and a pointer found is the cell of a stored version
  pub find_visible_row_ptr_found_is_stored : (c : ℕ) → finds ≡ found c → stored (image_of m) c ≡ true
  find_visible_row_ptr_found_is_stored c e = seen_is_stored c (find_visible_row_ptr_ok_is_first_visible.0 c e)

  -- Gap 1: when it is Ok. It fails exactly where the chain is longer than the limit and none of the versions walked is seen; no driver
  -- fails at will.
  pub find_visible_row_ptr_fails_exactly_when_too_long : (finds ≡ too_long) ↔ ((z.walk < length cells) × (first (sees_at m s) (walked_at m row) ≡ none))
  find_visible_row_ptr_fails_exactly_when_too_long = (
    λ e. let k = long_is _ _ (sym walk_is ∙ e) in (rest_long z.walk cells k.1, k.0),
    λ p. walk_is ∙ rw p.1 (too_far (rest_of z.walk cells) refl p.0),
  )
    where
      too_far : (a : After) → rest_of z.walk cells ≡ a → z.walk < length cells → look_of none a ≡ too_long
      too_far ends e lt = absurd (omega (arith, rest_short z.walk cells e))
      too_far goes_on e lt = refl
      too_far broken e lt = absurd (rest_whole z.walk cells e)

  pub find_visible_row_ptr_is_never_harmed : finds ≡ harmed → ⊥
  find_visible_row_ptr_is_never_harmed e = rest_whole z.walk cells (harmed_is (first (sees_at m s) (walked_at m row)) (rest_of z.walk cells) (sym walk_is ∙ e))

  -- ---- `read`
  abbrev o : Owner m s (who_in l s)
  o = open_slot (rows_in l) (cells_in l) m (hist_of l) so s (who_in l s) op refl

  abbrev reads : Outcome z ReadAnswer ℕ
  reads = read_out m s (who_in l s) row

  -- what an accepted read leaves: `selected_value` as the answer, the view of the transaction as it was, and the records of `recording`
  pub record ReadOk (x : Outcome z ReadAnswer ℕ) : Type 0 where
    pub value : x.answer ≡ answered (selected_value (image_of m) t row)
    pub same : ViewSame t (slot_at x.after s)
    pub recs : (slot_at x.after s).recs ≡ records_after (image_of m) t row (last_write t.writes row) first_seen

  slot_after : (new : List Rec) → length t.recs + length new ≤ z.reads → slot_at (with_slot m s (add_recs z new (words_at m s))) s ≡ with_recs t new
  slot_after new le =
      let ok = so.shaped.slots.each s o.slot in
      let c = recs_length (words_at m s) ok in
      ap (slot_of z) (get_or-set_same m.slots s (add_recs z new (words_at m s)) [] (omega (arith, o.slot, so.shaped.slots.count)))
      ∙ (slot_recs new (words_at m s) ok (omega arith)).0

  few : length t.recs ≤ z.reads
  few = let ok = so.shaped.slots.each s o.slot in omega (arith, recs_length (words_at m s) ok, ok.reads)

  value_is : (c : ℕ) → c ≢ 0 → answer_at f c ≡ answered (value_at (image_of m) (some c))
  unfolding answer_at
  value_is c nz = rw (ne_eqb c 0 nz) (by_bool (nonzero (f c).keyed) (λ e. rw e) (λ e. rw e))

  -- a sight and the records that it adds
  ok_of : (c : ℕ) (new : List Rec) → length t.recs + length new ≤ z.reads → answer_at f c ≡ answered (selected_value (image_of m) t row)
      → t.recs ++ new ≡ records_after (image_of m) t row (last_write t.writes row) first_seen → ReadOk (read_end m s (sees c new))
  unfolding read_end
  ok_of c new le v r =
      let e = slot_after new le in
      record {
        value = v;
        same = rw e (record { id = refl; low = refl; top = refl; active = refl; writes = refl });
        recs = ap (λ (x : Slot). x.recs) e ∙ r;
      }

  look_ok : own t.writes row ≡ none → (k : Look) → finds ≡ k → Accepted (read_end m s (sight_of z (size_n m) f (head_at m row) t t.recs row k)).answer → ReadOk (read_end m s (sight_of z (size_n m) f (head_at m row) t t.recs row k))
  unfolding sight_of
  look_ok e nothing q a =
      let w : none ≡ last_write t.writes row = ap new_of (sym e) ∙ latest_pending_is_last_write t.writes row in
      let v = find_visible_row_ptr_ok_is_first_visible.1 q in
      ok_of 0 [] (omega (arith, few)) (rw (← w, v) (none_is f)) (rw (← w, v) (append-nil t.recs))
  look_ok e too_long q a = absurd (blocked_not m s chain_too_long row a)
  look_ok e harmed q a = absurd (find_visible_row_ptr_is_never_harmed q)
  look_ok e (found c) q a =
      let w : none ≡ last_write t.writes row = ap new_of (sym e) ∙ latest_pending_is_last_write t.writes row in
      let v = find_visible_row_ptr_ok_is_first_visible.0 c q in
      let nz : c ≢ 0 = cell_nonzero (size_n m) c (find_visible_row_ptr_found_is_stored c q) in
      by_bool (recorded c t.recs)
      (λ y. rw y (ok_of c [] (omega (arith, few)) (rw (← w, v) (value_is c nz)) (rw (← w, v) (rw y (append-nil t.recs)))))
      (λ y.
      by_bool (leb z.reads (length t.recs))
      (λ full. absurd (blocked_not m s read_set_full row (rw (y, full) at a)))
      (λ room. rw (y, room) (ok_of c (rec row c (f c).xmin.0 ∷ []) (let lt = leb-false z.reads (length t.recs) room in omega arith) (rw (← w, v) (value_is c nz)) (rw (← w, v) (rw y)))))

  sight_ok : (x : Option Write) → own t.writes row ≡ x → Accepted (read_end m s (own_sight z (size_n m) f (head_at m row) t t.recs row x)).answer → ReadOk (read_end m s (own_sight z (size_n m) f (head_at m row) t t.recs row x))
  unfolding own_sight
  sight_ok none e a = look_ok e finds refl a
  sight_ok (some w) e a =
      let k : some w.new ≡ last_write t.writes row = ap new_of (sym e) ∙ latest_pending_is_last_write t.writes row in
      by_bool (is_cell (size_n m) w.new)
      (λ y. rw y (ok_of w.new [] (omega (arith, few)) (rw (← k) (value_is w.new (cell_nonzero (size_n m) w.new y))) (rw (← k) (append-nil t.recs))))
      (λ y. absurd (blocked_not m s damaged 0 (rw y at a)))

  pub read_ok : Accepted reads.answer → ReadOk reads
  unfolding read_out read_row
  read_ok = guard_case (λ (x : Outcome z ReadAnswer ℕ). Accepted x.answer → ReadOk x) (refuse_read m) (slot_tests m s (who_in l s) ++ row_test m row ∷ []) _
      (λ k x a. absurd (a k x refl))
      (λ p. sight_ok (own t.writes row) refl)

  -- ---- its clauses, one by one
  -- the answer is `selected_value`
  pub read_ok_is_selected_value : Accepted reads.answer → reads.answer ≡ answered (selected_value (image_of m) t row)
  read_ok_is_selected_value a = (read_ok a).value

  -- a version found without an own write is recorded as `recording` says
  pub read_ok_records_what_it_found : Accepted reads.answer → last_write t.writes row ≡ none → (c : ℕ) → first_seen ≡ some c → (slot_at reads.after s).recs ≡ recording t.recs row c (f c).xmin.0
  read_ok_records_what_it_found a w c e = rw (w, e) at (read_ok a).recs

  -- nothing found, or an own write: the records stay
  pub read_ok_of_nothing_records_nothing : Accepted reads.answer → last_write t.writes row ≡ none → first_seen ≡ none → (slot_at reads.after s).recs ≡ t.recs
  read_ok_of_nothing_records_nothing a w e = rw (w, e) at (read_ok a).recs

  pub read_ok_of_own_write_records_nothing : Accepted reads.answer → (p : ℕ) → last_write t.writes row ≡ some p → (slot_at reads.after s).recs ≡ t.recs
  read_ok_of_own_write_records_nothing a p w = rw w at (read_ok a).recs

  -- every record after is an old one, or the one of the first visible version, at the end; the old ones stand as they were
  pub read_ok_records_extend : Accepted reads.answer → Extends t.recs (slot_at reads.after s).recs
  read_ok_records_extend a = go (last_write t.writes row) first_seen (read_ok a).recs
    where
      go : (w v : Option ℕ) → (slot_at reads.after s).recs ≡ records_after (image_of m) t row w v → Extends t.recs (slot_at reads.after s).recs
      go (some p) v e = record { added = []; is = e ∙ sym (append-nil t.recs) }
      go none none e = record { added = []; is = e ∙ sym (append-nil t.recs) }
      go none (some c) e = by_bool (recorded c t.recs)
          (λ q. record { added = []; is = (rw q at e) ∙ sym (append-nil t.recs) })
          (λ q. record { added = rec row c (f c).xmin.0 ∷ []; is = rw q at e })

  pub read_ok_adds_at_most_one_record : Accepted reads.answer → length (slot_at reads.after s).recs ≤ length t.recs + 1
  read_ok_adds_at_most_one_record a = go (last_write t.writes row) first_seen (read_ok a).recs
    where
      go : (w v : Option ℕ) → (slot_at reads.after s).recs ≡ records_after (image_of m) t row w v → length (slot_at reads.after s).recs ≤ length t.recs + 1
      go (some p) v e = rw e (omega arith)
      go none none e = rw e (omega arith)
      go none (some c) e = rw e (record_read_adds_at_most_one t.recs row c (f c).xmin.0)

  in_append : (q x : Rec) (old : List Rec) → In q (old ++ x ∷ []) → In q old ⊎ (q ≡ x)
  in_append q x [] (inl e) = inr e
  in_append q x [] (inr i) = absurd i
  in_append q x (y ∷ old) (inl e) = inl (inl e)
  in_append q x (y ∷ old) (inr i) = ⊎_elim (λ k. inl (inr k)) inr (in_append q x old i)

  pub read_ok_records_have_provenance : Accepted reads.answer → Provenance (image_of m) t t.recs (slot_at reads.after s).recs
  read_ok_records_have_provenance a q i = go (last_write t.writes row) first_seen refl (subst (In q) (read_ok a).recs i)
    where
      go : (w v : Option ℕ) → first_seen ≡ v → In q (records_after (image_of m) t row w v) → In q t.recs ⊎ Observed (image_of m) t q
      go (some p) v e k = inl k
      go none none e k = inl k
      go none (some c) e k = by_bool (recorded c t.recs)
          (λ y. inl (rw y at k))
          (λ y. ⊎_elim inl (λ r. inr (subst (Observed (image_of m) t) (sym r) (record { row = rw so.rows in_r; cell = seen_is_stored c e; first = e; xmin = refl }))) (in_append q (rec row c (f c).xmin.0) t.recs (rw y at k)))
