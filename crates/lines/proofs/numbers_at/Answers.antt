use Rattle.std.proofs.Common.{◌-◌, ◌+◌, arith}
use Rattle.lines.specs.Fields.{going_end, going_bad, going_more}
use Rattle.lines.proofs.numbers_at.Goals as goal

pub returns-in_err-value : goal.returns-in_err-value
returns-in_err-value c =
    rw (c.from_residual.ensures)
    (going_bad _ _ _ _ _ c.loop.invariant.going (c.args.n - (c.loop.counter + 1)) (omega arith) c.in_err-value.ensures)

pub loop-preserved : goal.loop-preserved
loop-preserved c = record {
  within = c.in_ok-value.ensures.within;
  going = going_more _ _ _ _ _ c.loop.invariant.going (c.args.n - (c.loop.counter + 1)) (omega arith) _ c.in_ok-value.ensures;
}

pub returns : goal.returns
returns c = going_end _ _ _ _ _ c.loop.invariant.going (omega arith) c.loop.invariant.within
