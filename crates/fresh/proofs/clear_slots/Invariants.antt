use Rattle.std.proofs.Common.{◌≡◌, take, replicate}
use Rattle.words.specs.Sizes.{base}
use Rattle.words.specs.Slots.{emptied}
use Rattle.fresh.proofs.clear_slots.Given as goal

abbrev pub invariant-loop-slot : goal.invariant-loop-slot
invariant-loop-slot l = take l.slot-index l.slot-items ≡ replicate l.slot-index (emptied base)
