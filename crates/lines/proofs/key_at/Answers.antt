use Rattle.lines.proofs.Others.{others_end}
use Rattle.lines.specs.Calls.{ending}
use Rattle.lines.specs.Fields.{key_empty, key_bad, key_last, key_more}
use Rattle.lines.proofs.key_at.Goals as goal

pub returns-in_default : goal.returns-in_default
returns-in_default c = others_end _ c.in_default.not-Write _ _ _ c.args.s.now c.args.at c.requires

pub returns-then-at-s : goal.returns-then-at-s
unfolding ending
returns-then-at-s c = rw c.in-Write.is (key_empty _ _ _ c.args.s.now c.args.at c.if-at-s.true)

pub returns-in-Some : goal.returns-in-Some
unfolding ending
returns-in-Some c = rw c.in-Write.is (key_last _ _ _ c.args.s.now c.args.at c.requires c.if-at-s.false _ c.in-Some.ensures c.if-end-s.true)

pub returns-in_default-number_at : goal.returns-in_default-number_at
unfolding ending
returns-in_default-number_at c = rw c.in-Write.is (key_more _ _ _ c.args.s.now c.args.at c.requires c.if-at-s.false _ c.in-Some.ensures c.if-end-s.false)

pub returns-in_default-number_at-2 : goal.returns-in_default-number_at-2
unfolding ending
returns-in_default-number_at-2 c = rw c.in-Write.is (key_bad _ _ _ c.args.s.now c.args.at c.requires c.if-at-s.false (rw (c.in_default-number_at.is) at c.number_at.ensures))
