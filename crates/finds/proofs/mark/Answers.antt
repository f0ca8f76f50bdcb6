use borrow.Author.Tests.{le-leb, lt-leb}
use Rattle.words.specs.Sizes.{base}
use Rattle.finds.specs.Marks.{marked}
use Rattle.finds.proofs.mark.Goals as goal

pub returns-then-row : goal.returns-then-row
unfolding marked
returns-then-row c = rw (lt-leb base.rows c.args.row c.if-row.true)

pub returns-else-row : goal.returns-else-row
unfolding marked
returns-else-row c = rw (le-leb base.rows c.args.row c.if-row.false)
