-- A lookup against the history: row by row what is listed is what history says, and it stops at the first trouble.
use Rattle.std.specs.Prelude.{◌⊎◌, ◌≡◌, ℕ, ◌≤◌, suc}
use mathlib.Core.List.{List, ◌∷◌, []}

-- no refusal, 10, 13 or 14
abbrev pub OneOf : ℕ → Type 0
OneOf k = (k ≡ 0) ⊎ ((k ≡ 10) ⊎ ((k ≡ 13) ⊎ (k ≡ 14)))

-- a list of rows that rises from b on
abbrev pub Rising : ℕ → List ℕ → Type 0
Rising b [] = Unit {0}
Rising b (r ∷ l) = (b ≤ r) × Rising (suc r) l
