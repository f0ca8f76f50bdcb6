use Rattle.std.specs.Prelude.{[], ◌≡◌, drop}
use Rattle.words.specs.Sizes.{base}
use Rattle.words.specs.Slots.{slot_of}
use Rattle.lists.specs.Triples.{entries}
use Rattle.rules.specs.Outcome.{each}
use Rattle.rules.specs.Verdicts.{verdict}
use Rattle.rules.specs.Commit.{new_tests}
use Rattle.validate.specs.Arenas.{lent, sized}
use Rattle.validate.proofs.check_news.Given as goal

-- what is left decides
abbrev pub invariant-loop-new : goal.invariant-loop-new
invariant-loop-new l =
    verdict (each (new_tests (sized 0 l.n [] [])) (entries (drop l.new-index l.new-items)))
    ≡ verdict (each (new_tests (lent l.meta [] [])) (slot_of base l.slot).writes)
