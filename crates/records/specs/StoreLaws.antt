-- The records of a store's slots say what the slots' words say: a host that copies id and snapshot xmin out of them takes the horizon that
-- the store's own vacuum takes.
use Rattle.std.specs.Prelude.{ℕ, List, get_or}
use Rattle.words.specs.Sizes.{ID, LOW}
use Rattle.records.specs.declared.Slot.{Slot}

-- the record of a slot's words
abbrev pub record_of : List ℕ → Slot
record_of t = record { id = get_or t ID 0; xmin = get_or t LOW 0 }
