use Rattle.std.specs.Prelude.{◌≡◌, drop}
use Rattle.words.specs.Sizes.{base}
use Rattle.words.specs.Slots.{slot_of}
use Rattle.lists.specs.Triples.{entries}
use Rattle.rules.specs.Outcome.{each}
use Rattle.rules.specs.Verdicts.{verdict}
use Rattle.rules.specs.Commit.{base_tests}
use Rattle.validate.specs.Arenas.{lent, sized}
use Rattle.validate.proofs.check_bases.Given as goal

-- what is left decides
abbrev pub invariant-loop-row : goal.invariant-loop-row
invariant-loop-row l =
    verdict (each (base_tests (sized l.r l.n l.rows l.cells)) (entries (drop l.row-index l.row-items)))
    ≡ verdict (each (base_tests (lent l.meta l.rows l.cells)) (slot_of base l.slot).writes)
