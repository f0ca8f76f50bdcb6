use Rattle.std.proofs.Common.{◌≤◌, ◌+◌, arith, length, set, length-set}
use Rattle.words.specs.Slots.{opened}
use Rattle.opens.proofs.PlaceLaws.{put_mid-sets}
use Rattle.opens.proofs.open_slot.Goals as goal

pub returns : goal.returns
unfolding opened
returns c =
    let t = set (set (set (set c.args.slot.now 0 c.args.id.0) 1 c.args.snapshot.low) 2 c.args.snapshot.top) 3 (length c.args.ids.now) in
    let h : 4 + length c.args.ids.now ≤ length t = simp length-set (omega (arith, c.told-slot)) in
    rw (put_mid-sets t c.args.ids.now _ 4 c.copy_from_slice.ensures.after h)
