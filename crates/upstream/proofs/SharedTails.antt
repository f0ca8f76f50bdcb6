-- Gap 5: 000's `image_valid` lets two rows share a tail, so that freeing for one row can hurt the other. No reachable store has one.
use Rattle.std.specs.Prelude.{ℕ, zero, suc, ◌<◌, true, ◌≡◌, refl, ◌≢◌}
use Rattle.std.proofs.Common.{inl, inr, arith}
use Rattle.kinds.specs.Answer.{Vacuumed}
use Rattle.kinds.specs.ReadAnswer.{Key}
use Rattle.words.specs.Sizes.{Sizes, Roomy, last_id}
use Rattle.words.specs.Lists.{keep, first, fold, least}
use Rattle.kinds.specs.Versions.{empty_version, words_of, version_of, cell_at, version_at, put_cell}
use Rattle.rules.specs.Memory.{Mem}
use Rattle.rules.specs.Chain.{chain}
use Rattle.rules.specs.Snapshot.{occupied, horizon_of}
use Rattle.rules.specs.Outcome.{guard, fits, store_tests}
use Rattle.rules.specs.Abort.{give_back}
use Rattle.rules.specs.Vacuum.{relink, reports, swept, vacuum_now, vacuum_out}
use Rattle.kinds.specs.Versions.{reclaimable}
use Rattle.rules.specs.History.{Log, rows_in}
use Rattle.rules.specs.Reachable.{Reachable, chain_at}
use Rattle.rules.specs.Exactly.{In}
use Rattle.rules.proofs.Terms.{is_cell_lem}
use Rattle.rules.proofs.Demand3.{chained_cell_is_nowhere_else, sizes_are_the_creations}
use Rattle.upstream.specs.Images.{image_of, stored, Points, ImageValid}
use Rattle.upstream.proofs.Safe.{in_times}
use Rattle.upstream.specs.SharedTails.{sharing}

-- its image is valid in 000's sense
pub valid_image_may_share : ImageValid (image_of sharing)
unfolding version_of words_of cell_at
valid_image_may_share = record { heads = heads; links = links; rank = λ p. p; falls = falls }
  where
    heads : (r : ℕ) → r < 2 → Points (image_of sharing) ((image_of sharing).heads r)
    heads zero b = inr refl
    heads (suc zero) b = inr refl
    heads (suc (suc r)) b = absurd (omega arith)

    links : (p : ℕ) → stored (image_of sharing) p ≡ true → Points (image_of sharing) ((image_of sharing).rows p).next.0
    links zero e = absurd (omega (arith, ((is_cell_lem 3 0).yes e).low))
    links (suc zero) e = inl refl
    links (suc (suc zero)) e = inr refl
    links (suc (suc (suc zero))) e = inr refl
    links (suc (suc (suc (suc p)))) e = absurd (omega (arith, ((is_cell_lem 3 (suc (suc (suc (suc p))))).yes e).high))

    falls : (p : ℕ) → stored (image_of sharing) p ≡ true → ((image_of sharing).rows p).next.0 ≢ 0 → ((image_of sharing).rows p).next.0 < p
    falls zero e n = absurd (omega (arith, ((is_cell_lem 3 0).yes e).low))
    falls (suc zero) e n = absurd (n refl)
    falls (suc (suc zero)) e n = omega arith
    falls (suc (suc (suc zero))) e n = omega arith
    falls (suc (suc (suc (suc p)))) e n = absurd (omega (arith, ((is_cell_lem 3 (suc (suc (suc (suc p))))).yes e).high))

-- and a vacuum of row 0 takes the tail away from row 1: the head of row 1 still points at the cell, which is cleared and free
pub sharing_hurts : ((vacuum_out sharing 0 last_id 1).answer ≡ Vacuumed 1 (Key 70)) × ((version_at (vacuum_out sharing 0 last_id 1).after.cells 3).next.0 ≡ 1) × (version_at (vacuum_out sharing 0 last_id 1).after.cells 1 ≡ empty_version)
unfolding keep first fold least version_of words_of cell_at put_cell chain occupied horizon_of guard fits store_tests give_back reclaimable relink reports swept vacuum_now vacuum_out
sharing_hurts = (refl, refl, refl)

-- in a reachable store no cell is in the chains of two rows
pub no_tail_is_shared : {z : Sizes} (rm : Roomy z) (m : Mem z) (l : Log) → Reachable m l → (a b c : ℕ) → a < rows_in l → b < rows_in l → a ≢ b → In c (chain_at m a).cells → In c (chain_at m b).cells → ⊥
no_tail_is_shared rm m l rc a b c ia ib n i j =
    let R = (sizes_are_the_creations rm m l rc).0 in
    in_times c (chain_at m b).cells j ((chained_cell_is_nowhere_else rm m l rc a c ia (in_times c (chain_at m a).cells i)).others b (omega (arith, R)) (λ e. n (omega (arith, e))))
