-- What a caller knows where the first tests are fine: that the arenas are long enough for the saved sizes, that the clock runs, and that
-- the named slot is the presented id's, its counts within their limits.
use Rattle.std.specs.Prelude.{ℕ, ◌≤◌, ◌<◌, Bool, not, ◌||◌, List, [], ◌∷◌, ◌≡◌, ◌≢◌, length, get_or, eqb, ltb}
use Rattle.words.specs.Sizes.{Sizes, meta_words, ID, ACTIVE, WRITES, READS}
use Rattle.rules.specs.Numbers.{not_owner, damaged}
use Rattle.rules.specs.Memory.{Mem, size_r, size_n, clock, words_at}
use Rattle.rules.specs.Outcome.{Test, test, fits}

-- ---- each test, as it fails
-- 15: sizes or clock
abbrev pub broken : {z : Sizes} → Mem z → Bool
broken m = not (fits m (size_r m) (size_n m)) || eqb (clock m) 0

-- 5: the presented id, and the id found
abbrev pub anothers : ℕ → ℕ → Bool
anothers id found = eqb id 0 || not (eqb id found)

-- 15: a count above its limit
abbrev pub overfull : Sizes → List ℕ → Bool
overfull z t = ltb z.slots (get_or t ACTIVE 0) || (ltb z.writes (get_or t (WRITES z) 0) || ltb z.reads (get_or t (READS z) 0))

-- the tests of one slot's words, for the presented id
unfoldable pub owner_tests : Sizes → List ℕ → ℕ → List Test
owner_tests z t id =
    test (anothers id (get_or t ID 0)) not_owner (get_or t ID 0)
    ∷ test (overfull z t) damaged 0
    ∷ []

-- ---- the store
-- R and N are in range, and the arenas hold them
pub record Fits {z : Sizes} (m : Mem z) (r n : ℕ) : Type 0 where
  pub some_row : 0 < r
  pub few_rows : r ≤ z.rows
  pub some_cell : 0 < n
  pub few_cells : n ≤ z.cells
  pub metas : meta_words ≤ length m.meta
  pub heads : r ≤ length m.rows
  pub cells : n ≤ length m.cells
  pub slots : z.slots ≤ length m.slots

-- a store that a call can work on: the saved sizes fit, and the clock runs
pub record StoreFine {z : Sizes} (m : Mem z) : Type 0 where
  pub fits : Fits m (size_r m) (size_n m)
  pub runs : clock m ≢ 0

-- ---- the slot
-- a slot that the presented id may use
pub record OwnerFine (z : Sizes) (t : List ℕ) (id : ℕ) : Type 0 where
  pub named : id ≢ 0
  pub owns : id ≡ get_or t ID 0
  pub actives : get_or t ACTIVE 0 ≤ z.slots
  pub writes : get_or t (WRITES z) 0 ≤ z.writes
  pub reads : get_or t (READS z) 0 ≤ z.reads

-- a call that names a slot can work on it
pub record SlotFine {z : Sizes} (m : Mem z) (s id : ℕ) : Type 0 where
  pub store : StoreFine m
  pub there : s < z.slots
  pub owner : OwnerFine z (words_at m s) id
