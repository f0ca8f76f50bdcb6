use mathlib.Core.Path.{◌≡◌}
use lib.ListN.{drop}
use Rattle.finds.specs.Marks.{marked}
use Rattle.words.specs.Sizes.{base}
use Rattle.words.specs.Slots.{slot_of}
use Rattle.rules.specs.Lookup.{own_rows}
use Rattle.words.specs.Lists.{fold}
use Rattle.lists.specs.Triples.{entries}
use Rattle.finds.proofs.mark_own.Given as goal

abbrev pub invariant-loop-row : goal.invariant-loop-row
invariant-loop-row l = fold marked (own_rows (entries (drop l.row-index l.row-items))) l.marks ≡ fold marked (own_rows (slot_of base l.slot).writes) l.initial.marks
