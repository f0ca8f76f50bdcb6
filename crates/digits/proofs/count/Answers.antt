use native.Mathlib.Omega.{arith}
use Prim.Native.Nat.{◌-◌}
use Rattle.digits.specs.Numbers.{most}
use Rattle.digits.specs.Laws.{count_done, again, enough}
use Rattle.digits.proofs.count.Goals as goal

pub loop-rest-preserved : goal.loop-rest-preserved
loop-rest-preserved c = let h = enough c.loop-rest.k c.loop-rest.rest c.loop-rest.invariant.1 c.loop-rest.invariant.2 c.loop-rest-test.true in again _ c.loop-rest.k c.loop-rest.rest h c.loop-rest.invariant.2 c.loop-rest-test.true c.loop-rest.invariant.3

pub returns : goal.returns
returns c = omega (arith, count_done (most - c.loop-rest.k) c.loop-rest.rest c.loop-rest-test.false)
