use Rattle.std.proofs.Common.{replicate}
use Rattle.words.specs.Sizes.{base}
use Rattle.words.specs.Slots.{emptied}
use Rattle.fresh.proofs.FrontLaws.{front_fill, at_end}
use Rattle.fresh.proofs.clear_slots.Goals as goal

pub returns : goal.returns
returns c =
    front_fill c.args.slots.now (emptied base) 16 _ _ c.min-k.ensures
    (at_end (λ i. replicate i (emptied base)) _ _ _ c.loop-slot.auto.slot-items c.loop-slot.auto.slot-index-end c.loop-slot-test.false c.loop-slot.invariant)
