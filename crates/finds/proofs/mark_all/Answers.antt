use mathlib.Core.Path.{sym, ap, ◌∙◌}
use Rattle.std.proofs.lemmas.List.{drop_more, drop_all}
use Rattle.finds.specs.Marks.{marked, marks_next, marks_end}
use Rattle.words.specs.Lists.{fold}
use Rattle.finds.proofs.mark_all.Goals as goal

pub loop-row-preserved : goal.loop-row-preserved
loop-row-preserved c = ap (fold marked _) c.mark.ensures ∙ sym (marks_next _ _ _ (drop_more _ _ 0 c.loop-row-test.true) _) ∙ c.loop-row.invariant

pub returns : goal.returns
returns c = sym (marks_end _ _ (drop_all _ _ c.loop-row-test.false)) ∙ c.loop-row.invariant
