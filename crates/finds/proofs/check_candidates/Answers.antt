use mathlib.Core.Path.{refl, sym, ◌∙◌}
use Rattle.std.proofs.lemmas.List.{drop_more, drop_all}
use Rattle.finds.specs.Marks.{candidate_test, tests_next, tests_stop, tests_end}
use borrow.Author.Tests.{le-leb, lt-leb}
use Rattle.finds.proofs.check_candidates.Goals as goal

pub returns-then-r-row : goal.returns-then-r-row
returns-then-r-row c = sym (tests_stop _ _ _ (drop_more _ _ 0 c.loop-row-test.true) (candidate_test c.args.r) _ _ _ refl (le-leb _ _ c.if-r-row.true)) ∙ c.loop-row.invariant

pub loop-row-preserved : goal.loop-row-preserved
loop-row-preserved c = sym (tests_next _ _ _ (drop_more _ _ 0 c.loop-row-test.true) (candidate_test c.args.r) _ _ _ refl (lt-leb _ _ c.if-r-row.false)) ∙ c.loop-row.invariant

pub returns : goal.returns
returns c = sym (tests_end _ _ (drop_all _ _ c.loop-row-test.false)) ∙ c.loop-row.invariant
