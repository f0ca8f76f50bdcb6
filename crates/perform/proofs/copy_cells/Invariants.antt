use Rattle.std.specs.Prelude.{◌≡◌, length, take}
use Rattle.perform.specs.Perform.{cells_of}
use Rattle.perform.proofs.copy_cells.Given as goal

abbrev pub invariant-loop-i : goal.invariant-loop-i
invariant-loop-i l = (length l.numbers ≡ length l.initial.numbers) × (take l.i l.numbers ≡ cells_of (take l.i l.reports))
