-- A slot's lists as the triples that lie in it.
use Rattle.std.specs.Prelude.{ℕ, ◌+◌, min, List, get_or, drop, map}
use Rattle.std.specs.Simd.{first_chunks}
use Rattle.words.specs.Slots.{Write, Rec, write, rec}

-- the triples behind the count at a place: as many as the count says, and at most so many
abbrev pub triples : List ℕ → ℕ → ℕ → List (List ℕ)
triples t place most = first_chunks 3 (min (get_or t place 0) most) (drop (place + 1) t)

-- a triple as an entry of the write set, and as a read record
abbrev pub entry : List ℕ → Write
entry w = write (get_or w 0 0) (get_or w 1 0) (get_or w 2 0)

abbrev pub record_of : List ℕ → Rec
record_of w = rec (get_or w 0 0) (get_or w 1 0) (get_or w 2 0)

abbrev pub entries : List (List ℕ) → List Write
entries = map entry

abbrev pub records : List (List ℕ) → List Rec
records = map record_of
