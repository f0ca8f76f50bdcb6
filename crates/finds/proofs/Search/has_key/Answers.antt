use borrow.Author.Tests.{eq-eqb, ne_eqb}
use native.Mathlib.Omega.{arith}
use mathlib.Core.Path.{sym}
use Rattle.rules.specs.Lookup.{is_key}
use Rattle.rules.specs.Read.{answer_at}
use Rattle.finds.proofs.Search.has_key.Goals as goal

pub returns-then-c-eq0 : goal.returns-then-c-eq0
unfolding answer_at is_key
returns-then-c-eq0 c = rw (eq-eqb _ _ c.if-c-eq0.true)

pub returns-then-v-ne0 : goal.returns-then-v-ne0
unfolding answer_at is_key
returns-then-v-ne0 c = rw (ne_eqb _ _ c.if-c-eq0.false, sym c.version_at-v.ensures, ne_eqb _ _ c.if-v-ne0.true) (grind arith)

pub returns-else-v-ne0 : goal.returns-else-v-ne0
unfolding answer_at is_key
returns-else-v-ne0 c = rw (ne_eqb _ _ c.if-c-eq0.false, sym c.version_at-v.ensures, eq-eqb _ _ c.if-v-ne0.false)
