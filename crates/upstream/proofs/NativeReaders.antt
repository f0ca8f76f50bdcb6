-- A reachable store in which 000's vacuum contract speaks of one open reader and not of the other: the store of the run in which the reader
-- (slot 0) has no writes and the writer (slot 1) has prepared one. Vacuum removes a version there, and ours speaks of both.
use Rattle.std.specs.Prelude.{ℕ, refl, ◌≢◌}
use Rattle.std.proofs.Common.{sym, subst, inl, arith}
use Rattle.words.specs.Sizes.{last_id}
use Rattle.words.specs.Lists.{last, fold, has, keep, first, least, greatest, from}
use Rattle.kinds.specs.Versions.{version_of, words_of, cell_at, put_cell}
use Rattle.words.specs.Slots.{words, threes, slot_of, push, opened}
use Rattle.rules.specs.Memory.{slot_at}
use Rattle.kinds.specs.Visible.{creator_visible, visible, conflict}
use Rattle.rules.specs.Chain.{look, chain}
use Rattle.rules.specs.Snapshot.{occupied, vacant, horizon_of, horizon}
use Rattle.rules.specs.Outcome.{guard, each, fits, store_tests, slot_tests}
use Rattle.rules.specs.Create.{create_out, fresh_cells, created}
use Rattle.rules.specs.Begin.{ids_with, begin_words, begin_out}
use Rattle.rules.specs.Read.{own}
use Rattle.rules.specs.Write.{lock_base, prepared, head_tests, write_now, write_out}
use Rattle.rules.specs.Commit.{mark_base, commit_tests, publish, commit_out}
use Rattle.rules.specs.Abort.{give_back}
use Rattle.rules.specs.Vacuum.{swept, relink, reports, vacuum_now, vacuum_out}
use Rattle.kinds.specs.Versions.{reclaimable}
use Rattle.rules.specs.Run.{run, step}
use Rattle.rules.specs.History.{log_of, logged, commits, writes_in, who_in, rows_in}
use Rattle.rules.specs.Reachable.{Reachable}
use Rattle.rules.proofs.Demand3.{base_is_roomy}
use Rattle.rules.specs.Exactly.{In}
use Rattle.upstream.specs.Images.{image_of, snapshot}
use Rattle.upstream.specs.Publication.{Prepared}
use Rattle.upstream.specs.RetentionTerms.{Admissible}
use Rattle.upstream.specs.Protected.{sees01}
use Rattle.upstream.proofs.Safe.{Safe, reader_without_writes_is_admissible, vacuum_row_acquired_is_safe}
use Rattle.upstream.proofs.PreparedWrites.{open_write_is_prepared, reader_with_a_write_is_not_admissible}
use Rattle.upstream.specs.NativeRun.{lent, to_written, written}
use Rattle.upstream.proofs.NativeRun.{story}
use Rattle.words.specs.Slots as S
use Rattle.upstream.specs.NativeReaders.{log, Here}

pub written_is_reachable : Reachable written log
written_is_reachable = record { lent = lent; n = 4; r = 2; calls = to_written; accepted = story.created; memory = refl; log = refl }

pub here : Here
unfolding run step has keep first last fold least greatest from version_of words_of cell_at put_cell words threes slot_of push opened creator_visible visible conflict chain look occupied vacant horizon_of guard each fits store_tests slot_tests fresh_cells created create_out ids_with begin_words begin_out own lock_base prepared head_tests write_now write_out mark_base commit_tests publish commit_out give_back reclaimable relink reports swept vacuum_now vacuum_out log_of logged commits writes_in who_in rows_in
here = record { reader = refl; writer = refl; rows = refl; unwritten = refl; headed = refl; sweeps = refl }

reader_is_open : who_in log 0 ≢ 0
reader_is_open e = omega (arith, here.reader, e)

writer_is_open : who_in log 1 ≢ 0
writer_is_open e = omega (arith, here.writer, e)

entry_is_there : In (S.write 0 2 3) (slot_at written 1).writes
entry_is_there = subst (In (S.write 0 2 3)) (sym story.entry) (inl refl)

-- 000's premise holds of the reader
pub the_reader_is_admissible : Admissible (image_of written) (snapshot (slot_at written 0)) (horizon written last_id)
the_reader_is_admissible = reader_without_writes_is_admissible base_is_roomy written log written_is_reachable 0 reader_is_open here.unwritten last_id

-- and not of the writer, at any horizon
pub the_writer_is_not_admissible : (hz : ℕ) → Admissible (image_of written) (snapshot (slot_at written 1)) hz → ⊥
the_writer_is_not_admissible = reader_with_a_write_is_not_admissible base_is_roomy written log written_is_reachable 1 writer_is_open (S.write 0 2 3) entry_is_there

-- ours is of both, under 01's rule and under 000's
pub the_vacuum_is_safe_for_both : Safe base_is_roomy written log written_is_reachable 0 last_id 1 (omega (arith, here.rows)) (sees01 (slot_at written 0)) (vacuum_out written 0 last_id 1).after
    × Safe base_is_roomy written log written_is_reachable 0 last_id 1 (omega (arith, here.rows)) (sees01 (slot_at written 1)) (vacuum_out written 0 last_id 1).after
the_vacuum_is_safe_for_both = (
  vacuum_row_acquired_is_safe base_is_roomy written log written_is_reachable 0 last_id 1 (omega (arith, here.rows)) 0 reader_is_open,
  vacuum_row_acquired_is_safe base_is_roomy written log written_is_reachable 0 last_id 1 (omega (arith, here.rows)) 1 writer_is_open,
)

-- its write is prepared
pub the_write_is_prepared : Prepared (image_of written) (S.write 0 2 3) (who_in log 1)
the_write_is_prepared = open_write_is_prepared base_is_roomy written log written_is_reachable 1 writer_is_open (S.write 0 2 3) entry_is_there here.headed
