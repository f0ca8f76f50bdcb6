-- The shape that creation gives the memory and every call keeps: arenas long enough for the saved sizes, which are in range; every slot a slot.
use Rattle.std.specs.Prelude.{List, [], ℕ, ◌≤◌, ◌<◌, length, get_or}
use Rattle.words.specs.Sizes.{Sizes, Roomy, meta_words}
use Rattle.rules.specs.Memory.{Mem, size_r, size_n}
use Rattle.rules.specs.Theory.SlotLaws.{SlotOk}

-- every slot is a slot
pub record SlotsOk (z : Sizes) (ss : List (List ℕ)) : Type 0 where
  pub count : z.slots ≤ length ss
  pub each : (s : ℕ) → s < z.slots → SlotOk z (get_or ss s [])

pub record Shaped {z : Sizes} (m : Mem z) : Type 0 where
  pub roomy : Roomy z
  pub some_rows : 1 ≤ size_r m
  pub most_rows : size_r m ≤ z.rows
  pub some_cells : 1 ≤ size_n m
  pub most_cells : size_n m ≤ z.cells
  pub metas : meta_words ≤ length m.meta
  pub rows : size_r m ≤ length m.rows
  pub cells : size_n m ≤ length m.cells
  pub slots : SlotsOk z m.slots
