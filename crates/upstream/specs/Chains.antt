-- The first seen version of a chain, and what lies in front of it, where members of the chain are left out.
use Rattle.std.specs.Prelude.{ℕ, ◌<◌}
use mathlib.Core.List.{List, [], ◌∷◌}
use Rattle.rules.specs.Exactly.{All}

-- ---- ranks that fall along a list
abbrev pub Falling : (ℕ → ℕ) → List ℕ → Type 0
Falling rank [] = Unit {0}
Falling rank (a ∷ l) = All (λ c. rank c < rank a) l × Falling rank l
