-- The tests of a write that adds an entry, on the header's words and the slot's.
use Rattle.std.specs.Prelude.{ℕ, List, [], ◌∷◌, get_or, eqb, ltb, leb}
use Rattle.words.specs.Sizes.{Sizes, CELLS, FREE, WRITES}
use Rattle.rules.specs.Numbers.{no_room, write_set_full, damaged}
use Rattle.rules.specs.Outcome.{Test, test}

-- "then 12 and 11 only where an entry is added", and 15 for a first free cell above N
abbrev pub room_tests : Sizes → List ℕ → List ℕ → List Test
room_tests z meta t =
    test (leb z.writes (get_or t (WRITES z) 0)) write_set_full 0
    ∷ test (eqb (get_or meta FREE 0) 0) no_room 0
    ∷ test (ltb (get_or meta CELLS 0) (get_or meta FREE 0)) damaged 0
    ∷ []
