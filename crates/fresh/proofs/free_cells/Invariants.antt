use Rattle.std.proofs.Common.{◌≡◌, take}
use Rattle.rules.specs.Create.{fresh_cells}
use Rattle.fresh.proofs.free_cells.Given as goal

abbrev pub invariant-loop-i : goal.invariant-loop-i
invariant-loop-i l = take l.i l.cell-items ≡ take l.i (fresh_cells l.n 1)
