-- What the theory speaks of: a view of the memory as functions of a cell and of a row, and a list of slots.
-- Each effect of a call on the arenas is one effect on views, by one equation; the theory needs no index, no length, no word.
use Rattle.std.specs.Prelude.{cond, List, [], map, ℕ, eqb, take}
use Rattle.kinds.specs.declared.Version.{Version}
use Rattle.words.specs.Sizes.{Sizes}
use Rattle.kinds.specs.Versions.{version_at, link_at}
use Rattle.words.specs.Slots.{Slot, slot_of}
use Rattle.rules.specs.Memory.{free, clock, Mem, head_at}
use Rattle.rules.specs.Theory.SlotLaws.{new_slot}

pub record View : Type 0 where
  pub vers : ℕ → Version
  pub links : ℕ → ℕ
  pub heads : ℕ → ℕ
  pub free : ℕ
  pub clock : ℕ
  pub slots : List Slot

abbrev pub empty_slot : Slot
empty_slot = new_slot 0 0 0 []

unfoldable pub slots_of : Sizes → List (List ℕ) → List Slot
slots_of z ss = map (slot_of z) (take z.slots ss)

abbrev pub view_of : {z : Sizes} → Mem z → View
view_of {z} m = record { vers = version_at m.cells; links = link_at m.cells; heads = head_at m; free = free m; clock = clock m; slots = slots_of z m.slots }

-- ---- a function changed at one point
module _ {A : Type 0} where
  unfoldable pub upd : (ℕ → A) → ℕ → A → ℕ → A
  upd f i a j = cond (eqb j i) a (f j)
