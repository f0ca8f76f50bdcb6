-- An accepted creation leaves a store of which all that holds is true, and a history in which nothing has happened.
use Rattle.std.specs.Prelude.{ℕ, ◌≤◌, length}
use Rattle.std.proofs.Math.Option.{none}
use Rattle.words.specs.Sizes.{Sizes, meta_words}
use Rattle.rules.specs.Memory.{Mem}
use Rattle.rules.specs.Theory.Inv.{Hist}

-- a lent memory that R rows and N cells fit, both in range
pub record Fits {z : Sizes} (m : Mem z) (r n : ℕ) : Type 0 where
  pub some_rows : 1 ≤ r
  pub most_rows : r ≤ z.rows
  pub some_cells : 1 ≤ n
  pub most_cells : n ≤ z.cells
  pub metas : meta_words ≤ length m.meta
  pub rows : r ≤ length m.rows
  pub cells : n ≤ length m.cells
  pub slots : z.slots ≤ length m.slots

abbrev pub fresh_hist : Hist
fresh_hist = record { last = λ r. none; who = λ i. 0; view = λ i r. none; own = λ i r. none }
