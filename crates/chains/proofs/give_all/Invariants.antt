use lib.ListN.{length}
use Rattle.chains.specs.Fronts.{fronts, Giving}
use Rattle.chains.proofs.give_all.Given as goal

abbrev pub invariant-loop-report : goal.invariant-loop-report
invariant-loop-report l = Giving l.reports (fronts l.reports 0 (length l.reports)) l.initial.meta l.initial.cells l.report-index l.meta l.cells
