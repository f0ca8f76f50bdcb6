-- 000's three witnesses, with their numbers, on hand-made memory and by our calls: a write published over a base, a vacuum that keeps the
-- anchor and a later one that takes it, a locked version that survives.
use Rattle.std.specs.Prelude.{[], ◌∷◌, ◌≡◌, refl}
use Rattle.kinds.specs.Answer.{Done, Vacuumed}
use Rattle.kinds.specs.ReadAnswer.{Key}
use Rattle.words.specs.Lists.{has, keep, first, fold, least}
use Rattle.kinds.specs.Versions.{version, version_of, words_of, cell_at, version_at, put_cell}
use Rattle.words.specs.Slots.{words, threes, slot_of}
use Rattle.rules.specs.Memory.{head_at}
use Rattle.kinds.specs.Visible.{conflict}
use Rattle.rules.specs.Chain.{chain}
use Rattle.rules.specs.Snapshot.{occupied, horizon_of}
use Rattle.rules.specs.Outcome.{guard, each, fits, store_tests, slot_tests}
use Rattle.rules.specs.Commit.{mark_base, commit_tests, publish, commit_out}
use Rattle.rules.specs.Abort.{give_back}
use Rattle.rules.specs.Vacuum.{relink, reports, swept, vacuum_now, vacuum_out}
use Rattle.kinds.specs.Versions.{reclaimable}
use Rattle.upstream.specs.Witnesses.{ready, three, once}

pub native_publication_witness : ((commit_out ready 0 9).answer ≡ Done) × (head_at (commit_out ready 0 9).after 0 ≡ 2) × (version_at (commit_out ready 0 9).after.cells 1 ≡ version 1 9 0 1 42 0 0) × (version_at (commit_out ready 0 9).after.cells 2 ≡ version 9 0 1 1 77 0 0)
unfolding has keep first fold least version_of words_of cell_at put_cell words threes slot_of conflict chain guard each fits store_tests slot_tests mark_base commit_tests publish commit_out
native_publication_witness = (refl, refl, refl, refl)

-- horizon 4 takes version 1 and keeps the anchor 2; horizon 12 takes the anchor
pub retained_anchor_and_later_reclaim : ((vacuum_out (three 0 0) 0 4 3).answer ≡ Vacuumed 1 (Key 30)) × ((vacuum_out (three 0 0) 0 4 3).front ≡ (1 ∷ 1 ∷ 10 ∷ []) ∷ []) × (version_at once.cells 2 ≡ version 2 9 0 1 20 0 0)
    × ((vacuum_out once 0 12 3).answer ≡ Vacuumed 1 (Key 30)) × ((vacuum_out once 0 12 3).front ≡ (2 ∷ 1 ∷ 20 ∷ []) ∷ []) × (version_at (vacuum_out once 0 12 3).after.cells 3 ≡ version 9 0 0 1 30 0 0)
unfolding has keep first fold least version_of words_of cell_at put_cell chain occupied horizon_of guard fits store_tests give_back reclaimable relink reports swept vacuum_now vacuum_out
retained_anchor_and_later_reclaim = (refl, refl, refl, refl, refl, refl)

-- version 1 locked by 7: nothing is taken
pub locked_version_survives : ((vacuum_out (three 1 7) 0 4 3).answer ≡ Vacuumed 0 (Key 30)) × (version_at (vacuum_out (three 1 7) 0 4 3).after.cells 1 ≡ version 1 2 0 1 10 1 7) × ((version_at (vacuum_out (three 1 7) 0 4 3).after.cells 2).next.0 ≡ 1)
unfolding has keep first fold least version_of words_of cell_at put_cell chain occupied horizon_of guard fits store_tests give_back reclaimable relink reports swept vacuum_now vacuum_out
locked_version_survives = (refl, refl, refl)
