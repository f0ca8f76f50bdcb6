use Rattle.chains.specs.Linking.{Linking}
use Rattle.chains.specs.Lines.{line}
use lib.ListN.{length}
use Rattle.chains.proofs.relink.Given as goal

abbrev pub invariant-loop-c : goal.invariant-loop-c
invariant-loop-c l = Linking l.initial.cells l.horizon l.initial.last.0 l.initial.c.0 l.last.0 l.c.0 l.cells

abbrev pub decreases-loop-c : goal.decreases-loop-c
decreases-loop-c l = length (line l.initial.cells l.c.0)
