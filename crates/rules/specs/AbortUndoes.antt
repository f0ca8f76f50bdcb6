-- Abort: "unlock (owner 0, here and in commit) each base whose owner is this id, give cells back in write order, empty the slot". It
-- unlocks exactly those bases.
use Rattle.std.specs.Prelude.{ℕ}
use mathlib.Core.List.{List, [], ◌∷◌}
use Rattle.words.specs.Slots.{Write}

-- the bases of a write set, in write order
abbrev pub bases : List Write → List ℕ
bases [] = []
bases (w ∷ l) = w.base ∷ bases l
