-- Every size of the store and every place of a word, named once. Definitions and laws take the sizes `z` as a parameter; the public
-- contracts cite them at `base`.
use Rattle.std.specs.Prelude.{ℕ, ◌+◌, ◌*◌, ◌≤◌}

pub record Sizes : Type 0 where
  -- transactions open at once
  pub slots : ℕ
  -- versions that one read looks at
  pub walk : ℕ
  -- entries of a write set, records of a read set
  pub writes : ℕ
  pub reads : ℕ
  -- the largest R and the largest N
  pub rows : ℕ
  pub cells : ℕ
  -- words of a slot
  pub width : ℕ

-- paper 01: 16 slots, 64 versions walked, 32 writes, 128 read records, 256 rows, 4,096 cells
abbrev pub base : Sizes
base = record { slots = 16; walk = 64; writes = 32; reads = 128; rows = 256; cells = 4096; width = 504 }

-- the last id and the largest number: 2^64 - 1
abbrev pub last_id : ℕ
last_id = 18446744073709551615

-- ---- words of meta: R, N, the clock, the first free cell
abbrev pub ROWS : ℕ
ROWS = 0

abbrev pub CELLS : ℕ
CELLS = 1

abbrev pub CLOCK : ℕ
CLOCK = 2

abbrev pub FREE : ℕ
FREE = 3

abbrev pub meta_words : ℕ
meta_words = 4

-- ---- words of a slot: the id, the snapshot's xmin and xmax, then three lists, the count of each before it
abbrev pub ID : ℕ
ID = 0

abbrev pub LOW : ℕ
LOW = 1

abbrev pub TOP : ℕ
TOP = 2

abbrev pub ACTIVE : ℕ
ACTIVE = 3

abbrev pub WRITES : Sizes → ℕ
WRITES z = ACTIVE + 1 + z.slots

abbrev pub READS : Sizes → ℕ
READS z = WRITES z + 1 + 3 * z.writes

-- the words that a slot uses
abbrev pub used : Sizes → ℕ
used z = READS z + 1 + 3 * z.reads

-- a slot is wide enough for its lists
pub record Roomy (z : Sizes) : Type 0 where
  pub room : used z ≤ z.width
