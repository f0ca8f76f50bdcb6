-- What a caller knows where the first tests are fine: that the arenas are long enough for the saved sizes, that the clock runs, and that
-- the named slot is the presented id's, its counts within their limits.
use Rattle.std.specs.Prelude.{ℕ, ◌<◌, true, false, List, ◌∷◌, ◌≡◌, refl, length, get_or, leb}
use Rattle.std.proofs.Common.{sym, ◌∙◌, arith, leb-true, leb-false, ltb-false, eqb-true}
use Rattle.std.proofs.lemmas.Bool.{eqb-false, not-false, and_parts, or_parts}
use Rattle.kinds.specs.Verdict.{Verdict, Fine, Refused}
use Rattle.words.specs.Sizes.{Sizes, meta_words, ID, ACTIVE, WRITES, READS}
use Rattle.rules.specs.Numbers.{bad_slot}
use Rattle.rules.specs.Memory.{Mem, size_r, size_n, clock, words_at}
use Rattle.rules.specs.Outcome.{test, fits, store_tests, slot_tests}
use Rattle.rules.specs.Verdicts.{verdict, and_then}
use Rattle.rules.proofs.Theory.Cases.{by_bool}
use Rattle.rules.proofs.Verdicts.{verdict_append, verdict_fails, verdict_passes}
use Rattle.gate.specs.FineLaws.{broken, anothers, overfull, owner_tests, Fits, StoreFine, OwnerFine, SlotFine}

pub fits_true : {z : Sizes} (m : Mem z) (r n : ℕ) → fits m r n ≡ true → Fits m r n
unfolding fits
fits_true {z} m r n h =
    let a = and_parts _ _ h in
    let b = and_parts _ _ a.1 in
    let d = and_parts _ _ b.1 in
    let e = and_parts _ _ d.1 in
    let f = and_parts _ _ e.1 in
    let g = and_parts _ _ f.1 in
    let k = and_parts _ _ g.1 in
    record {
      some_row = leb-true 1 r a.0;
      few_rows = leb-true r z.rows b.0;
      some_cell = leb-true 1 n d.0;
      few_cells = leb-true n z.cells e.0;
      metas = leb-true meta_words (length m.meta) f.0;
      heads = leb-true r (length m.rows) g.0;
      cells = leb-true n (length m.cells) k.0;
      slots = leb-true z.slots (length m.slots) k.1;
    }

-- nothing fits a meta that is too short
fits_short : {z : Sizes} (m : Mem z) (r n : ℕ) → length m.meta < meta_words → fits m r n ≡ false
fits_short m r n h = by_bool (fits m r n) (λ e. absurd (let f = fits_true m r n e in omega arith)) (λ e. e)

-- nor is a clock saved there
pub broken_short : {z : Sizes} (m : Mem z) → length m.meta < meta_words → broken m ≡ true
broken_short m h = rw (fits_short m (size_r m) (size_n m) h)

pub store_fine : {z : Sizes} (m : Mem z) → verdict (store_tests m) ≡ Fine → StoreFine m
unfolding store_tests verdict
store_fine m h =
    by_bool (broken m)
    (λ e. let g = rw e at h in cc)
    (λ e.
    let t = or_parts _ _ e in
    record { fits = fits_true m (size_r m) (size_n m) (not-false _ t.0); runs = eqb-false (clock m) 0 t.1 })

pub owner_fine : (z : Sizes) (t : List ℕ) (id : ℕ) → verdict (owner_tests z t id) ≡ Fine → OwnerFine z t id
unfolding owner_tests verdict
owner_fine z t id h =
    by_bool (anothers id (get_or t ID 0))
    (λ e. let g = rw e at h in cc)
    (λ e.
    let g = rw e at h in
    by_bool (overfull z t)
    (λ f. let k = rw f at g in cc)
    (λ f.
    let o = or_parts _ _ e in
    let p = or_parts _ _ f in
    let q = or_parts _ _ p.1 in
    record {
      named = eqb-false id 0 o.0;
      owns = eqb-true id (get_or t ID 0) (not-false _ o.1);
      actives = ltb-false z.slots (get_or t ACTIVE 0) p.0;
      writes = ltb-false z.writes (get_or t (WRITES z) 0) q.0;
      reads = ltb-false z.reads (get_or t (READS z) 0) q.1;
    }))

-- sizes and clock, then the slot, then its words
pub slot_verdict : {z : Sizes} (m : Mem z) (s id : ℕ)
    → verdict (slot_tests m s id) ≡ and_then (verdict (store_tests m)) (verdict (test (leb z.slots s) bad_slot 0 ∷ owner_tests z (words_at m s) id))
unfolding slot_tests owner_tests
slot_verdict m s id = verdict_append (store_tests m) _

and_fine : (a b : Verdict) → and_then a b ≡ Fine → (a ≡ Fine) × (b ≡ Fine)
and_fine Fine b e = (refl, e)
and_fine (Refused k x) b e = cc

pub slot_fine : {z : Sizes} (m : Mem z) (s id : ℕ) → verdict (slot_tests m s id) ≡ Fine → SlotFine m s id
slot_fine {z} m s id h =
    let a = and_fine _ _ (sym (slot_verdict m s id) ∙ h) in
    by_bool (leb z.slots s)
    (λ e. let g = sym (verdict_fails _ (owner_tests z (words_at m s) id) e) ∙ a.1 in cc)
    (λ e. record {
      store = store_fine m a.0;
      there = leb-false z.slots s e;
      owner = owner_fine z (words_at m s) id (sym (verdict_passes _ _ e) ∙ a.1);
    })
