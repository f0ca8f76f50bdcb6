use Rattle.std.specs.Prelude.{◌≡◌, drop}
use Rattle.words.specs.Sizes.{base}
use Rattle.words.specs.Lists.{fold}
use Rattle.words.specs.Slots.{slot_of}
use Rattle.lists.specs.Triples.{entries}
use Rattle.rules.specs.Abort.{news, give_back}
use Rattle.rules.specs.Theory.Bridge.{AllCells}
use Rattle.undo.specs.UndoLaws.{lent}
use Rattle.undo.proofs.give_all.Given as goal

abbrev pub invariant-loop-new : goal.invariant-loop-new
invariant-loop-new l =
    AllCells l.initial.cells (news (entries (drop l.new-index l.new-items)))
    × (fold give_back (news (entries (drop l.new-index l.new-items))) (lent l.meta l.cells) ≡ fold give_back (news (slot_of base l.slot).writes) (lent l.initial.meta l.initial.cells))
