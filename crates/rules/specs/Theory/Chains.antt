-- The chain as the rules walk it, against the list that the pointers spell: a walk of k versions is the first k of the list.
use mathlib.Core.List.{List, [], ◌∷◌}
use Rattle.std.specs.Prelude.{ℕ, ◌<◌, zero, suc}
use Rattle.rules.specs.Chain.{After, ends, goes_on}

abbrev pub AllBelow : ℕ → List ℕ → Type 0
AllBelow n [] = Unit {0}
AllBelow n (c ∷ l) = (c < n) × AllBelow n l

-- what comes after the first k of a list
unfoldable pub rest_of : ℕ → List ℕ → After
rest_of zero [] = ends
rest_of zero (c ∷ l) = goes_on
rest_of (suc k) [] = ends
rest_of (suc k) (c ∷ l) = rest_of k l
