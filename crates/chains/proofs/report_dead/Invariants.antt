use Rattle.chains.specs.Reporting.{Reporting}
use Rattle.chains.specs.Lines.{line}
use lib.ListN.{length}
use Rattle.chains.proofs.report_dead.Given as goal

abbrev pub invariant-loop-c : goal.invariant-loop-c
invariant-loop-c l = Reporting l.cells l.horizon l.initial.c.0 l.initial.reports l.c.0 l.i l.reports

abbrev pub decreases-loop-c : goal.decreases-loop-c
decreases-loop-c l = length (line l.cells l.c.0)
