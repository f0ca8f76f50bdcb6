use Rattle.std.proofs.Common.{arith, refl, sym, ◌∙◌}
use Rattle.std.proofs.Math.Nat.{sub-zero, sub-add-eq}
use Rattle.chains.specs.Tallies.{tally_end, tally_limit, tally_broken, tally_next, bit_le}
use Rattle.chains.proofs.count_dead.Goals as goal

pub loop-init : goal.loop-init
loop-init c = (omega arith, rw (sub-zero c.args.most) refl)

pub returns-then-c-eq0 : goal.returns-then-c-eq0
returns-then-c-eq0 c = sym (tally_end _ _ _ _ _ _ c.if-c-eq0.true) ∙ c.loop.invariant.1

pub returns-then-n-c : goal.returns-then-n-c
returns-then-n-c c = sym (tally_broken _ _ _ _ _ _ (λ e. omega (arith, c.loop-test.true)) c.if-c-eq0.false c.if-n-c.true) ∙ c.loop.invariant.1

pub overflow_add-count : goal.overflow_add-count
overflow_add-count c = omega (arith, bit_le c.is_reclaimable.result, c.loop.invariant.0, c.loop-test.true, c.ranges.most)

pub loop-preserved : goal.loop-preserved
loop-preserved c = (
  omega (arith, bit_le c.is_reclaimable.result, c.loop.invariant.0),
  rw (c.is_reclaimable.ensures, c.version_at-v.ensures, sub-add-eq c.args.most c.loop.counter 1)
      (sym (tally_next _ _ _ _ _ _ (λ e. omega (arith, c.loop-test.true)) c.if-c-eq0.false (omega (arith, c.if-n-c.false))) ∙ c.loop.invariant.1),
)

pub returns-then-c-eq0-2 : goal.returns-then-c-eq0-2
returns-then-c-eq0-2 c = sym (tally_end _ _ _ _ _ _ c.if-c-eq0-2.true) ∙ c.loop.invariant.1

pub returns-else-c-eq0-2 : goal.returns-else-c-eq0-2
returns-else-c-eq0-2 c = sym (tally_limit _ _ _ _ _ _ (omega (arith, c.loop-test.false)) c.if-c-eq0-2.false) ∙ c.loop.invariant.1
