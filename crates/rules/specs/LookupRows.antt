-- "candidates (any order, repeats allowed) and own written rows are read in ascending order, each once": which rows a lookup reads.
use Rattle.std.specs.Prelude.{ℕ, ◌<◌, List, [], ◌∷◌}
use Rattle.rules.specs.Exactly.{All}

-- each member is below all that follow: in ascending order, each once
abbrev pub Ascending : List ℕ → Type 0
Ascending [] = Unit {0}
Ascending (x ∷ l) = All (λ y. x < y) l × Ascending l
