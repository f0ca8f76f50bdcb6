use mathlib.Core.Path.{◌≡◌}
use Rattle.finds.specs.Marks.{marked}
use Rattle.words.specs.Lists.{fold}
use lib.ListN.{drop}
use Rattle.finds.proofs.mark_all.Given as goal

abbrev pub invariant-loop-row : goal.invariant-loop-row
invariant-loop-row l = fold marked (drop l.row-index l.candidates) l.marks ≡ fold marked l.candidates l.initial.marks
