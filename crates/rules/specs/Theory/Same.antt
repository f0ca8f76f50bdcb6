-- Every effect keeps the lengths of the arenas and the saved sizes.
use Rattle.std.specs.Prelude.{◌≡◌, length}
use Rattle.words.specs.Sizes.{Sizes}
use Rattle.rules.specs.Memory.{Mem, size_r, size_n}

pub record Same {z : Sizes} (m k : Mem z) : Type 0 where
  pub meta : length k.meta ≡ length m.meta
  pub rows : length k.rows ≡ length m.rows
  pub cells : length k.cells ≡ length m.cells
  pub sizer : size_r k ≡ size_r m
  pub sizen : size_n k ≡ size_n m
