use Rattle.std.specs.Prelude.{[], ◌≡◌, drop}
use Rattle.words.specs.Sizes.{base}
use Rattle.words.specs.Slots.{slot_of}
use Rattle.lists.specs.Triples.{records}
use Rattle.rules.specs.Outcome.{each}
use Rattle.rules.specs.Verdicts.{verdict}
use Rattle.rules.specs.Commit.{record_tests}
use Rattle.validate.specs.Arenas.{lent, sized}
use Rattle.validate.proofs.check_records.Given as goal

-- what is left decides
abbrev pub invariant-loop-row : goal.invariant-loop-row
invariant-loop-row l =
    verdict (each (record_tests (sized 0 l.n [] l.cells) (slot_of base l.slot)) (records (drop l.row-index l.row-items)))
    ≡ verdict (each (record_tests (lent l.meta [] l.cells) (slot_of base l.slot)) (slot_of base l.slot).recs)
