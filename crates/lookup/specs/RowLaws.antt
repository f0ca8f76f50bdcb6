-- The marks as the two lookups make them, and the rows that they stand for.
use Rattle.std.specs.Prelude.{ℕ, zero, suc, ◌+◌, ◌<◌, ◌≤◌, Bool, true, false, ◌||◌, ◌≡◌, refl, length, get_or, replicate}
use mathlib.Core.List.{List, ◌∷◌}
use Rattle.std.proofs.Math.Path.{ap}
use Rattle.std.proofs.Common.{◌∙◌}
use native.Mathlib.Omega.{arith}
use Rattle.std.proofs.lemmas.List.{length-replicate, get_or-replicate}
use Rattle.words.specs.Sizes.{base}
use Rattle.words.specs.Lists.{has, fold, keep, from, nonzero}
use Rattle.words.specs.Slots.{Write}
use Rattle.rules.specs.Memory.{Mem, size_r}
use Rattle.rules.specs.Lookup.{own_rows, rows_to_read}
use Rattle.rules.proofs.Theory.Cases.{by_bool}
use Rattle.finds.specs.Marks.{marked, marks_has, marks_length}
use Rattle.finds.specs.Sweep.{marked_rows}

-- ---- a word for each row, all 0 or all 1

abbrev pub zeros : List ℕ
zeros = replicate base.rows 0

abbrev pub ones : List ℕ
ones = replicate base.rows 1

pub zeros_length : length zeros ≡ base.rows
zeros_length = length-replicate {A = ℕ} base.rows 0

pub zeros_long : base.rows ≤ length zeros
zeros_long = omega (arith, zeros_length)

pub zeros_at : (r : ℕ) → r < base.rows → get_or zeros r 0 ≡ 0
zeros_at r h = get_or-replicate {A = ℕ} base.rows r 0 0 h

pub ones_at : (r : ℕ) → r < base.rows → get_or ones r 0 ≡ 1
ones_at r h = get_or-replicate {A = ℕ} base.rows r 1 0 h

-- ---- kept rows

keep_same : (p q : ℕ → Bool) (a k : ℕ) → ((r : ℕ) → r < a + k → p r ≡ q r) → keep p (from a k) ≡ keep q (from a k)
unfolding keep from
keep_same p q a zero h = refl
keep_same p q a (suc k) h =
    let i = keep_same p q (suc a) k (λ r b. h r (omega arith)) in
    let e = h a (omega arith) in
    by_bool (q a) (λ y. rw (e, y) (ap (λ (l : List ℕ). a ∷ l) i)) (λ y. rw (e, y) i)

keep_every : (p : ℕ → Bool) (a k : ℕ) → ((r : ℕ) → r < a + k → p r ≡ true) → keep p (from a k) ≡ from a k
unfolding keep from
keep_every p a zero h = refl
keep_every p a (suc k) h = rw (h a (omega arith)) (ap (λ (l : List ℕ). a ∷ l) (keep_every p (suc a) k (λ r b. h r (omega arith))))

keep_few : (p : ℕ → Bool) (a k : ℕ) → length (keep p (from a k)) ≤ k
unfolding keep from
keep_few p a zero = omega arith
keep_few p a (suc k) =
    let i = keep_few p (suc a) k in
    by_bool (p a) (λ y. rw y (omega arith)) (λ y. rw y (omega arith))

pub marked_few : (marks : List ℕ) (k : ℕ) → length (marked_rows marks 0 k) ≤ k
marked_few marks k = keep_few _ 0 k

-- ---- the two lookups' rows

or_turn : (a b : Bool) → (a || (b || false)) ≡ (b || a)
or_turn true true = refl
or_turn true false = refl
or_turn false true = refl
or_turn false false = refl

module _ (m : Mem base) (few : size_r m ≤ base.rows) where
  -- candidates and own rows
  pub rows_marked : (ws : List Write) (cands marks : List ℕ) → marks ≡ fold marked (own_rows ws) (fold marked cands zeros) → marked_rows marks 0 (size_r m) ≡ rows_to_read m ws cands
  unfolding rows_to_read
  rows_marked ws cands marks e = keep_same _ _ 0 (size_r m) (λ r h.
      let b : r < base.rows = omega arith in
      let first = marks_has r cands zeros (omega (arith, zeros_length)) b in
      let second = marks_has r (own_rows ws) (fold marked cands zeros) (rw (marks_length cands zeros) (omega (arith, zeros_length))) b in
      ap (λ (l : List ℕ). nonzero (get_or l r 0)) e
      ∙ second
      ∙ ap (λ (x : Bool). has r (own_rows ws) || x) (first ∙ ap (λ (x : ℕ). has r cands || nonzero x) (zeros_at r b))
      ∙ or_turn (has r (own_rows ws)) (has r cands))

  -- every row
  pub rows_all : marked_rows ones 0 (size_r m) ≡ from 0 (size_r m)
  rows_all = keep_every _ 0 (size_r m) (λ r h. ap nonzero (ones_at r (omega arith)))
