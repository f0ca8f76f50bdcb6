-- "Horizon: least of the request, the clock and the snapshot xmin of all occupied slots": at most each of them, and equal to one.
use Rattle.std.specs.Prelude.{ℕ, ◌<◌, List, [], ◌≡◌, ◌≢◌, ◌⊎◌, length, get_or}
use Rattle.words.specs.Sizes.{ID, LOW}

-- ---- the occupied slots
-- slot s, of the first k, is occupied and its word j is x
pub record Occupies (l : List (List ℕ)) (j x : ℕ) : Type 0 where
  pub slot : ℕ
  pub inside : slot < length l
  pub taken : get_or (get_or l slot []) ID 0 ≢ 0
  pub word : x ≡ get_or (get_or l slot []) j 0

-- ---- the horizon
-- x is a bound: the request, the clock, or the snapshot xmin of an occupied slot
abbrev pub Bound : ℕ → ℕ → List (List ℕ) → ℕ → Type 0
Bound request now slots x = (x ≡ request) ⊎ ((x ≡ now) ⊎ Occupies slots LOW x)
