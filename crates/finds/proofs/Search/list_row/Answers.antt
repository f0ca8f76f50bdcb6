use mathlib.Core.Path.{sym, ◌∙◌}
use borrow.Author.Tests.{le-leb, lt-leb}
use Rattle.finds.specs.Sweep.{list_at}
use Rattle.finds.proofs.Search.list_row.Goals as goal

pub returns-then-not-has_key : goal.returns-then-not-has_key
unfolding list_at
returns-then-not-has_key c = rw (sym c.has_key.ensures ∙ c.if-not-has_key.true)

pub returns-then-self-found : goal.returns-then-self-found
unfolding list_at
returns-then-self-found c = rw (sym c.has_key.ensures ∙ c.if-not-has_key.false, le-leb _ _ c.if-self-found.true)

pub returns : goal.returns
unfolding list_at
returns c = rw (sym c.has_key.ensures ∙ c.if-not-has_key.false, lt-leb _ _ c.if-self-found.false)
