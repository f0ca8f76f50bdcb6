use Rattle.std.proofs.Common.{sym}
use Rattle.lines.specs.Fields.{field_none, field_is, field_bad}
use Rattle.lines.proofs.number_at.Goals as goal

pub returns-then-at-s : goal.returns-then-at-s
returns-then-at-s c = field_none c.args.s.now c.args.at c.if-at-s.true

pub returns-in_err-value : goal.returns-in_err-value
returns-in_err-value c = rw (c.from_residual.ensures) (field_bad c.args.s.now c.args.at c.comma-end.result c.if-at-s.false c.comma-end.ensures (sym c.in_err-value.ensures))

pub returns : goal.returns
returns c = field_is c.args.s.now c.args.at _ c.if-at-s.false c.comma-end.ensures (sym c.in_ok-value.ensures)
