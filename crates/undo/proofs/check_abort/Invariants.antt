use Rattle.std.specs.Prelude.{[], ◌∷◌, ◌≡◌, drop}
use Rattle.words.specs.Sizes.{base}
use Rattle.words.specs.Slots.{slot_of}
use Rattle.lists.specs.Triples.{entries}
use Rattle.rules.specs.Outcome.{each}
use Rattle.rules.specs.Verdicts.{verdict}
use Rattle.rules.specs.Abort.{abort_tests}
use Rattle.undo.specs.UndoLaws.{lent}
use Rattle.undo.proofs.check_abort.Given as goal

-- what is left decides
abbrev pub invariant-loop-base : goal.invariant-loop-base
invariant-loop-base l =
    verdict (each (abort_tests (lent (0 ∷ l.n ∷ []) [])) (entries (drop l.base-index l.base-items)))
    ≡ verdict (each (abort_tests (lent l.meta [])) (slot_of base l.slot).writes)
