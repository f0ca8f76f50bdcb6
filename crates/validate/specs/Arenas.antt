-- What the tests of a commit look at.
use Rattle.std.specs.Prelude.{ℕ, List, [], ◌∷◌}
use Rattle.words.specs.Sizes.{base}
use Rattle.rules.specs.Memory.{Mem, mem}

-- the arenas that a commit's tests look at; they look at no other slot, so that a whole memory is tested alike
abbrev pub lent : List ℕ → List ℕ → List (List ℕ) → Mem base
lent meta rows cells = mem meta rows cells []

-- the same, of a store of r rows and n cells
abbrev pub sized : ℕ → ℕ → List ℕ → List (List ℕ) → Mem base
sized r n rows cells = lent (r ∷ n ∷ []) rows cells
