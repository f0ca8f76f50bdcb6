use borrow.Author.Rules.{rules}
use lib.ListN.{length-set}
use mathlib.Core.Path.{refl}
use Rattle.perform.specs.Laws.{cells_none, cells_more}
use Rattle.perform.proofs.copy_cells.Goals as goal

pub loop-i-init : goal.loop-i-init
loop-i-init c = (refl, cells_none c.args.reports.now c.args.numbers.now)

pub loop-i-preserved : goal.loop-i-preserved
loop-i-preserved c = (simp length-set c.loop-i.invariant.0, cells_more c.args.reports.now c.loop-i.numbers c.loop-i.i (search rules) (search rules) c.loop-i.invariant.1)
