use mathlib.Core.Path.{sym, ap, ◌∙◌}
use Rattle.std.specs.Prelude.{[]}
use Rattle.finds.specs.Marks.{marked, marks_next, marks_end}
use Rattle.rules.specs.Lookup.{own_rows}
use Rattle.words.specs.Lists.{fold}
use Rattle.lists.specs.Triples.{entry}
use Rattle.lists.specs.Steps.{map_step, map_done}
use Rattle.finds.proofs.mark_own.Goals as goal

pub loop-row-preserved : goal.loop-row-preserved
loop-row-preserved c = ap (fold marked _) c.mark.ensures ∙ sym (marks_next _ _ _ (ap own_rows (map_step entry _ _ [] c.loop-row-test.true)) _) ∙ c.loop-row.invariant

pub returns : goal.returns
returns c = sym (marks_end _ _ (ap own_rows (map_done entry _ _ c.loop-row-test.false))) ∙ c.loop-row.invariant
