use mathlib.Core.Path.{◌≡◌}
use Rattle.finds.specs.Marks.{candidate_test}
use Rattle.rules.specs.Verdicts.{verdict}
use Rattle.rules.specs.Outcome.{each}
use lib.ListN.{drop}
use Rattle.finds.proofs.check_candidates.Given as goal

abbrev pub invariant-loop-row : goal.invariant-loop-row
invariant-loop-row l = verdict (each (candidate_test l.r) (drop l.row-index l.candidates)) ≡ verdict (each (candidate_test l.r) l.candidates)
