-- The horizon and the least active id over slots that lie side by side as records of two numbers, in the words of paper 01.
use Rattle.std.specs.Prelude.{ℕ, min, Bool, cond, List, map, eqb}
use Rattle.words.specs.Lists.{nonzero, keep, least}
use Rattle.records.specs.declared.Slot.{Slot}

-- "a transaction id (0 = empty)"
abbrev pub is_occupied : Slot → Bool
is_occupied s = nonzero s.id

-- "all occupied slots"
abbrev pub occupied : List Slot → List Slot
occupied slots = keep is_occupied slots

-- "the snapshot xmin of all occupied slots"
abbrev pub xmins : List Slot → List ℕ
xmins slots = map (λ s. s.xmin) (occupied slots)

-- "active = occupied slots": their ids
abbrev pub ids : List Slot → List ℕ
ids slots = map (λ s. s.id) (occupied slots)

-- "Horizon: least of the request, the clock and the snapshot xmin of all occupied slots"
unfoldable pub horizon_of : List Slot → ℕ → ℕ → ℕ
horizon_of slots clock request = least (min request clock) (xmins slots)

-- "the least active id"; as Begin has it of a snapshot's xmin, never above the clock, and the clock where no slot is occupied
unfoldable pub least_active : List Slot → ℕ → ℕ
least_active slots clock = least clock (ids slots)

-- What one slot does to a least number: an empty one nothing, any other lowers it to its own number.
abbrev pub lowered : ℕ → ℕ → ℕ → ℕ
lowered id own least = cond (eqb id 0) least (min own least)
