use mathlib.Core.Path.{refl, sym, ap, ◌∙◌}
use Rattle.std.specs.Prelude.{[]}
use Rattle.finds.specs.Marks.{own_row_test, tests_next, tests_stop, tests_end}
use borrow.Author.Tests.{le-leb, lt-leb}
use Rattle.rules.specs.Lookup.{own_rows}
use Rattle.lists.specs.Triples.{entry}
use Rattle.lists.specs.Steps.{map_step, map_done}
use Rattle.finds.proofs.check_own.Goals as goal

pub returns-then-r-own : goal.returns-then-r-own
returns-then-r-own c = sym (tests_stop _ _ _ (ap own_rows (map_step entry _ _ [] c.loop-own-test.true)) (own_row_test c.args.r) _ _ _ refl (le-leb _ _ c.if-r-own.true)) ∙ c.loop-own.invariant

pub loop-own-preserved : goal.loop-own-preserved
loop-own-preserved c = sym (tests_next _ _ _ (ap own_rows (map_step entry _ _ [] c.loop-own-test.true)) (own_row_test c.args.r) _ _ _ refl (lt-leb _ _ c.if-r-own.false)) ∙ c.loop-own.invariant

pub returns : goal.returns
returns c = sym (tests_end _ _ (ap own_rows (map_done entry _ _ c.loop-own-test.false))) ∙ c.loop-own.invariant
