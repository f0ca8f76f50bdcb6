-- Tests in a row: a call is refused by the first that fails, and is done where all pass.
use Rattle.std.specs.Prelude.{false, true, List, [], ◌∷◌, ◌≢◌, ◌⊎◌, ◌≡◌, ℕ}
use Rattle.rules.specs.Outcome.{Test}

abbrev pub Passed : List Test → Type 0
Passed [] = Unit {0}
Passed (t ∷ l) = (t.fails ≡ false) × Passed l

-- no test that fails has number k, as far as the tests before it pass
abbrev pub Safe : ℕ → List Test → Type 0
Safe k [] = Unit {0}
Safe k (t ∷ l) = (t.fails ≡ true → t.number ≢ k) × (t.fails ≡ false → Safe k l)

-- the first test of the list that fails has this number and value
abbrev pub Cause : ℕ → ℕ → List Test → Type 0
Cause k x [] = ⊥
Cause k x (t ∷ l) = ((t.fails ≡ true) × (t.number ≡ k) × (t.value ≡ x)) ⊎ ((t.fails ≡ false) × Cause k x l)
