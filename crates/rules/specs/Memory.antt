-- The lent memory: four arenas. `Mem z` is a memory of a store of sizes z; nothing else is said of it, its lists may be of any length.
use Rattle.std.specs.Prelude.{ℕ, List, [], get_or, set}
use Rattle.words.specs.Sizes.{Sizes, ROWS, CELLS, CLOCK, FREE}
use Rattle.words.specs.Slots.{Slot, slot_of}

pub record Mem (z : Sizes) : Type 0 where
  pub meta : List ℕ
  pub rows : List ℕ
  pub cells : List (List ℕ)
  pub slots : List (List ℕ)

module _ {z : Sizes} where
  abbrev pub mem : List ℕ → List ℕ → List (List ℕ) → List (List ℕ) → Mem z
  mem m r c s = record { meta = m; rows = r; cells = c; slots = s }

  -- ---- what is saved

  -- rows 0 to R - 1
  abbrev pub size_r : Mem z → ℕ
  size_r m = get_or m.meta ROWS 0

  -- cells 1 to N
  abbrev pub size_n : Mem z → ℕ
  size_n m = get_or m.meta CELLS 0

  abbrev pub clock : Mem z → ℕ
  clock m = get_or m.meta CLOCK 0

  -- the first free cell, 0 where there is none
  abbrev pub free : Mem z → ℕ
  free m = get_or m.meta FREE 0

  abbrev pub head_at : Mem z → ℕ → ℕ
  head_at m r = get_or m.rows r 0

  abbrev pub words_at : Mem z → ℕ → List ℕ
  words_at m s = get_or m.slots s []

  abbrev pub slot_at : Mem z → ℕ → Slot
  slot_at m s = slot_of z (words_at m s)

  -- ---- one thing changed, the rest kept

  abbrev pub with_meta : Mem z → ℕ → ℕ → Mem z
  with_meta m k x = mem (set m.meta k x) m.rows m.cells m.slots

  abbrev pub with_head : Mem z → ℕ → ℕ → Mem z
  with_head m r h = mem m.meta (set m.rows r h) m.cells m.slots

  abbrev pub with_cells : Mem z → List (List ℕ) → Mem z
  with_cells m cs = mem m.meta m.rows cs m.slots

  abbrev pub with_slot : Mem z → ℕ → List ℕ → Mem z
  with_slot m s t = mem m.meta m.rows m.cells (set m.slots s t)
