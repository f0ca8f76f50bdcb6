use Rattle.std.proofs.Common.{arith}
use Rattle.chains.specs.Fronts.{giving_start, giving_cell, giving_next, giving_end}
use Rattle.chains.proofs.give_all.Goals as goal

pub loop-report-init : goal.loop-report-init
loop-report-init c = giving_start _ _ _ c.requires.all_cells

pub give_back-requires-clause-has_cell : goal.give_back-requires-clause-has_cell
give_back-requires-clause-has_cell c = giving_cell _ _ _ _ _ _ _ c.loop-report.invariant c.loop-report-test.true

pub loop-report-preserved : goal.loop-report-preserved
loop-report-preserved c = giving_next _ _ _ _ _ _ _ c.loop-report.invariant c.loop-report-test.true _ _ c.give_back.ensures.meta_after c.give_back.ensures.cells_after

pub returns : goal.returns
returns c = giving_end _ _ _ _ _ _ _ c.loop-report.invariant (omega (arith, c.loop-report-test.false))
