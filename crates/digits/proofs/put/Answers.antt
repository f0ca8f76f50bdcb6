use Rattle.std.proofs.Common.{ℕ, ◌+◌, sym, ap, ◌∙◌, arith}
use Rattle.digits.specs.Laws.{put_step, put_done, put_start}
use Rattle.digits.proofs.put.Goals as goal

pub loop-i-init : goal.loop-i-init
loop-i-init c = record { low = omega arith; laid = put_start c.args.buf.now c.args.at c.args.n c.count-k.result c.count-k.ensures.0 }

pub loop-i-preserved : goal.loop-i-preserved
loop-i-preserved c = record { low = omega arith; laid = put_step c.loop-i.buf c.args.at c.loop-i.i c.loop-i.rest c.loop-i-test.true ∙ c.loop-i.invariant.laid }

pub returns : goal.returns
returns c = record { bytes = sym (put_done c.loop-i.buf c.args.at c.loop-i.i c.loop-i.rest c.loop-i-test.false) ∙ c.loop-i.invariant.laid; past = ap (λ (k : ℕ). c.args.at + k) c.count-k.ensures.0 }
