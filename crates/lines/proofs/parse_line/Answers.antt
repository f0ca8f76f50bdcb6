use Rattle.std.proofs.Common.{◌∙◌, None, Some}
use Rattle.lines.specs.Calls.{means, means_all}
use Rattle.lines.proofs.parse_line.Goals as goal

pub returns-in_default : goal.returns-in_default
returns-in_default c = means c.args.s.now _ c.comma-e.ensures _ c.word_of-w.ensures _ c.numbers_of.ensures None c.in_default.ensures

pub returns-then-end-s : goal.returns-then-end-s
returns-then-end-s c = c.made.ensures ∙ means_all c.args.s.now _ c.comma-e.ensures _ c.word_of-w.ensures _ c.numbers_of.ensures _ c.in-Some.ensures c.if-end-s.true

pub returns-else-end-s : goal.returns-else-end-s
returns-else-end-s c = c.key_at.ensures ∙ means c.args.s.now _ c.comma-e.ensures _ c.word_of-w.ensures _ c.numbers_of.ensures (Some _) c.in-Some.ensures
