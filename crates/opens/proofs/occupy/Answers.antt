use Rattle.opens.specs.OpenedAt.{ids_at, opened_at_lem}
use Rattle.opens.proofs.occupy.Goals as goal

pub returns : goal.returns
unfolding ids_at
returns c = rw c.open_slot.ensures (opened_at_lem c.args.slots.now c.args.s c.args.id _ _ _ c.requires.0 c.snapshot_of-snapshot.ensures.0 c.snapshot_of-snapshot.ensures.1 c.gather-count.ensures.all)
