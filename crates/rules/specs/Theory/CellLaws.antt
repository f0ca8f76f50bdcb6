-- A cell is stored whole: what is read back asks nothing of its length.
use mathlib.Core.List.{List}
use Rattle.std.specs.Prelude.{length}
use Prim.Native.Nat.{ℕ, ◌<◌, ◌≤◌}

-- the arena has cell c
pub record HasCell (cs : List (List ℕ)) (c : ℕ) : Type 0 where
  pub low : 0 < c
  pub high : c ≤ length cs
