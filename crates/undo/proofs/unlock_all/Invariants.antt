use Rattle.std.specs.Prelude.{◌≡◌, drop}
use Rattle.words.specs.Sizes.{base}
use Rattle.words.specs.Lists.{fold}
use Rattle.words.specs.Slots.{slot_of}
use Rattle.lists.specs.Triples.{entries}
use Rattle.rules.specs.Abort.{unlock_base}
use Rattle.rules.specs.Theory.Bridge.{BasesIn}
use Rattle.undo.proofs.unlock_all.Given as goal

abbrev pub invariant-loop-base : goal.invariant-loop-base
invariant-loop-base l =
    BasesIn l.initial.cells (entries (drop l.base-index l.base-items))
    × (fold (unlock_base l.id.0) (entries (drop l.base-index l.base-items)) l.cells ≡ fold (unlock_base l.id.0) (slot_of base l.slot).writes l.initial.cells)
