use Rattle.std.proofs.Common.{◌≡◌, ◌≤◌, ◌++◌, length, take, drop}
use Rattle.words.specs.Sizes.{ID}
use Rattle.rules.specs.Snapshot.{occupied}
use Rattle.opens.proofs.gather.Given as goal

abbrev pub invariant-loop-slot : goal.invariant-loop-slot
invariant-loop-slot l =
    (l.k ≤ l.slot-index)
    × (length l.ids ≡ length l.initial.ids)
    × (take l.k l.ids ++ occupied ID (drop l.slot-index l.slot-items) ≡ occupied ID l.slot-items)
