use Rattle.std.proofs.Common.{◌∙◌, ap, arith, length, length-set, length-take}
use Rattle.words.specs.Sizes.{ID}
use Rattle.rules.specs.Snapshot.{occupied}
use Rattle.opens.proofs.PlaceLaws.{one_at_most, gathered_more, gathered_all}
use Rattle.opens.proofs.gather.Goals as goal

pub loop-slot-preserved : goal.loop-slot-preserved
loop-slot-preserved c = (
  omega (arith, one_at_most _ _ c.from-k.ensures),
  simp length-set c.loop-slot.invariant.1,
  rw c.from-k.ensures (gathered_more _ _ _ _ c.loop-slot-test.true (omega (arith, simp length-take at (ap length c.counted-slot-items.ensures))) ∙ c.loop-slot.invariant.2),
)

pub returns : goal.returns
returns c = record { few = omega (arith, simp length-take at (ap length c.counted-slot-items.ensures)); all = gathered_all _ _ _ _ c.loop-slot-test.false c.loop-slot.invariant.2 ∙ ap (occupied ID) c.counted-slot-items.ensures }
