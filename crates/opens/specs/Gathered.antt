-- What the gathering leaves: the first k ids are those of the occupied slots.
use Rattle.std.specs.Prelude.{ℕ, ◌≤◌, List, ◌≡◌, take}
use Rattle.words.specs.Sizes.{base, ID}
use Rattle.rules.specs.Snapshot.{occupied}

pub record Gathered (ss : List (List ℕ)) (ids : List ℕ) (k : ℕ) : Type 0 where
  pub few : k ≤ base.slots
  pub all : take k ids ≡ occupied ID (take base.slots ss)
