use Rattle.std.proofs.Common.{sym, arith}
use Rattle.answers.specs.Laws.{laid_none, laid_then, laid_as, field_fits, fields_none, fields_more}
use Rattle.answers.proofs.put_fields.Goals as goal

pub loop-n-init : goal.loop-n-init
loop-n-init c = record { room = omega arith; laid = laid_as (laid_none c.args.buf.now c.args.at) (sym (fields_none c.args.ns.now)) }

pub loop-n-preserved : goal.loop-n-preserved
loop-n-preserved c = record {
  room = omega (arith, field_fits _ c.put_field-p.ensures);
  laid = laid_as (laid_then c.loop-n.invariant.laid c.put_field-p.ensures) (fields_more c.args.ns.now c.loop-n.n-index c.loop-n-test.true);
}
