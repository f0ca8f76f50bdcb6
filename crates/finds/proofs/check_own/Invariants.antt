use mathlib.Core.Path.{◌≡◌}
use lib.ListN.{drop}
use Rattle.finds.specs.Marks.{own_row_test}
use Rattle.words.specs.Sizes.{base}
use Rattle.words.specs.Slots.{slot_of}
use Rattle.rules.specs.Lookup.{own_rows}
use Rattle.rules.specs.Verdicts.{verdict}
use Rattle.rules.specs.Outcome.{each}
use Rattle.lists.specs.Triples.{entries}
use Rattle.finds.proofs.check_own.Given as goal

abbrev pub invariant-loop-own : goal.invariant-loop-own
invariant-loop-own l = verdict (each (own_row_test l.r) (own_rows (entries (drop l.own-index l.own-items)))) ≡ verdict (each (own_row_test l.r) (own_rows (slot_of base l.slot).writes))
