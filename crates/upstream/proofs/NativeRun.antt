-- The story of 001 by our calls, computed: two commits of row 0, then the reader (slot 0, id 3) begins; a writer (slot 1, id 4) commits over
-- it; vacuum takes the tail; its cell is handed out again; the reader reads the anchor, its commit is refused with 9; once it is gone, vacuum
-- takes the anchor. The layout is tail 1, anchor 2, fresh 3; the birth is 2, the writer 4, the reuser 5.
use Rattle.std.specs.Prelude.{[], ◌∷◌, ◌≡◌, refl}
use Rattle.std.proofs.Math.Option.{none}
use Rattle.std.proofs.Common.{inl, arith}
use Rattle.kinds.specs.Answer.{Vacuumed}
use Rattle.kinds.specs.ReadAnswer.{Key, Empty, None}
use Rattle.words.specs.Sizes.{last_id}
use Rattle.words.specs.Lists.{last, fold, has, keep, first, least, greatest, from}
use Rattle.kinds.specs.Versions.{version, empty_version, version_of, words_of, cell_at, put_cell}
use Rattle.words.specs.Slots.{words, threes, slot_of, push, opened}
use Rattle.rules.specs.Memory.{slot_at}
use Rattle.kinds.specs.Visible.{creator_visible, visible, conflict}
use Rattle.rules.specs.Chain.{look, chain}
use Rattle.rules.specs.Snapshot.{occupied, vacant, horizon_of}
use Rattle.rules.specs.Outcome.{guard, each, fits, store_tests, slot_tests}
use Rattle.rules.specs.Create.{create_out, fresh_cells, created}
use Rattle.rules.specs.Begin.{ids_with, begin_words, begin_out}
use Rattle.rules.specs.Read.{own, answer_at, recorded, sight_of, own_sight, read_row, read_end, read_out}
use Rattle.rules.specs.Write.{lock_base, prepared, head_tests, write_now, write_out}
use Rattle.rules.specs.Commit.{mark_base, commit_tests, publish, commit_out}
use Rattle.rules.specs.Abort.{unlock_base, give_back, abort_out}
use Rattle.rules.specs.Vacuum.{swept, relink, reports, vacuum_now, vacuum_out}
use Rattle.kinds.specs.Versions.{reclaimable}
use Rattle.rules.specs.Run.{begin, write, commit, run, step}
use Rattle.upstream.specs.Images.{image_of, snapshot}
use Rattle.upstream.specs.Story.{Distinct, OldReader, published, pruned, reused, Agree, AgreeButTail}
use Rattle.upstream.specs.Native.{Inside}
use Rattle.upstream.proofs.Native.{Seeded}
use Rattle.upstream.specs.Publication.{publication_prefix}
use Rattle.words.specs.Slots as S
use Rattle.upstream.specs.Seen as Up
use Rattle.upstream.specs.NativeRun.{fresh, written, after_commit, after_vacuum, reusing, after_reuse, after_write, at_end, layout, Told}

pub story : Told
unfolding run step has keep first last fold least greatest from version_of words_of cell_at put_cell words threes slot_of push opened creator_visible visible conflict chain look occupied vacant horizon_of guard each fits store_tests slot_tests fresh_cells created create_out ids_with begin_words begin_out own answer_at recorded sight_of own_sight read_row read_end read_out lock_base prepared head_tests write_now write_out mark_base commit_tests publish commit_out unlock_base give_back abort_out reclaimable relink reports swept vacuum_now vacuum_out
story =
    record {
      created = refl;
      start = refl;
      entry = refl;
      locked_base = refl;
      prepared = refl;
      commits = refl;
      reader = refl;
      sweeps = refl;
      reports = refl;
      horizon_then = refl;
      free_links = (refl, refl, refl, refl);
      free_before = refl;
      reuser_writes = refl;
      reuser_slot = refl;
      reuser_heads = (refl, refl, refl);
      sizes = (refl, refl, refl, refl, refl);
      free_after = refl;
      cleared = refl;
      reuses = refl;
      reader_then = refl;
      reads = refl;
      records = refl;
      reader_writes = refl;
      reader_refused = refl;
      reader_stands = refl;
      end = refl;
      horizon_end = refl;
      releases = refl;
      released = refl;
      free_end = refl;
    }

-- ---- 001's pictures are those of the run: what each `native_` function requires is met
pub layout_is_distinct : Distinct layout
layout_is_distinct = record { tail = λ e. omega (arith, e); anchor = λ e. omega (arith, e); fresh = λ e. omega (arith, e); tail_anchor = λ e. omega (arith, e); tail_fresh = λ e. omega (arith, e); anchor_fresh = λ e. omega (arith, e) }

pub layout_is_inside : Inside 4 layout
layout_is_inside = record { tail = record { low = omega arith; high = omega arith }; anchor = record { low = omega arith; high = omega arith }; fresh = record { low = omega arith; high = omega arith } }

-- the reader of the run is an old reader of the writer
pub reader_is_old : OldReader (snapshot (slot_at after_commit 0)) 2 4
unfolding Up.creator_visible has
reader_is_old = rw story.reader (record { born = omega arith; early = omega arith; lowest = omega arith; inside = omega arith; foreign = λ e. omega (arith, e); hidden = refl; later = inl (omega arith); active = (omega arith, tt) })

pub record Pictures : Type 0 where
  -- but for the base's lock and the prepared cell's next: `seeded` itself is no reachable memory
  pub is_seeded : Seeded written layout layout_is_distinct 2 4 70 75
  pub is_published : Agree layout (published layout 2 4 70 75 4) (image_of after_commit)
  pub is_pruned : AgreeButTail layout (pruned layout 2 4 70 75 4) (image_of after_vacuum)
  pub is_pruned_before_reuse : AgreeButTail layout (pruned layout 2 4 70 75 4) (image_of reusing)
  pub is_pruned_while_writing : AgreeButTail layout (pruned layout 2 4 70 75 4) (image_of after_write)
  pub is_pruned_after_reuse : AgreeButTail layout (pruned layout 2 4 70 75 4) (image_of after_reuse)
  pub is_reused : Agree layout (reused layout 2 4 70 75 4 5 5) (image_of after_reuse)
  pub is_pruned_still : AgreeButTail layout (pruned layout 2 4 70 75 4) (image_of at_end)

pub pictures : Pictures
unfolding run step has keep first last fold least greatest from version_of words_of cell_at put_cell words threes slot_of push opened creator_visible visible conflict chain look occupied vacant horizon_of guard each fits store_tests slot_tests fresh_cells created create_out ids_with begin_words begin_out own answer_at recorded sight_of own_sight read_row read_end read_out lock_base prepared head_tests write_now write_out mark_base commit_tests publish commit_out unlock_base give_back abort_out reclaimable relink reports swept vacuum_now vacuum_out
pictures =
    record {
      is_seeded = record { head = refl; tail = refl; anchor = refl; fresh = refl };
      is_published = record { head = refl; tail = refl; anchor = refl; fresh = refl };
      is_pruned = record { head = refl; anchor = refl; fresh = refl };
      is_pruned_before_reuse = record { head = refl; anchor = refl; fresh = refl };
      is_pruned_while_writing = record { head = refl; anchor = refl; fresh = refl };
      is_pruned_after_reuse = record { head = refl; anchor = refl; fresh = refl };
      is_reused = record { head = refl; tail = refl; anchor = refl; fresh = refl };
      is_pruned_still = record { head = refl; anchor = refl; fresh = refl };
    }

-- ---- the smallest examples where an image of ours parts from 000's
-- after a commit: 000 keeps the base's lock and owner, here they are cleared
pub part_at_the_base's_lock_after_commit : ((publication_prefix (image_of written) (S.write 0 2 3) 4 3).rows 2 ≡ version 2 4 1 1 70 1 4) × ((image_of after_commit).rows 2 ≡ version 2 4 1 1 70 0 0)
unfolding run step has keep first last fold least greatest from version_of words_of cell_at put_cell words threes slot_of push opened creator_visible visible conflict chain look occupied vacant horizon_of guard each fits store_tests slot_tests fresh_cells created create_out ids_with begin_words begin_out own answer_at recorded sight_of own_sight read_row read_end read_out lock_base prepared head_tests write_now write_out mark_base commit_tests publish commit_out
part_at_the_base's_lock_after_commit = (refl, refl)

-- after a vacuum: 000 keeps the metadata of a reclaimed cell, here it is cleared
pub part_at_the_reclaimed_cell : ((image_of after_commit).rows 1 ≡ version 1 2 0 0 0 0 0) × ((image_of after_vacuum).rows 1 ≡ empty_version)
unfolding run step has keep first last fold least greatest from version_of words_of cell_at put_cell words threes slot_of push opened creator_visible visible conflict chain look occupied vacant horizon_of guard each fits store_tests slot_tests fresh_cells created create_out ids_with begin_words begin_out own answer_at recorded sight_of own_sight read_row read_end read_out lock_base prepared head_tests write_now write_out mark_base commit_tests publish commit_out unlock_base give_back reclaimable relink reports swept vacuum_now vacuum_out
part_at_the_reclaimed_cell = (refl, refl)

-- the live head's value: a row never written answers no value, a row whose head has no key an empty one
pub live_head_value_of_three_rows : ((vacuum_out after_commit 0 last_id 1).answer ≡ Vacuumed 1 (Key 75)) × ((vacuum_out after_commit 1 last_id 0).answer ≡ Vacuumed 0 None) × ((vacuum_out (run (begin ∷ write 0 1 0 none ∷ commit 0 1 ∷ []) fresh).1 0 last_id 0).answer ≡ Vacuumed 0 Empty)
unfolding run step has keep first last fold least greatest from version_of words_of cell_at put_cell words threes slot_of push opened creator_visible visible conflict chain look occupied vacant horizon_of guard each fits store_tests slot_tests fresh_cells created create_out ids_with begin_words begin_out own answer_at recorded sight_of own_sight read_row read_end read_out lock_base prepared head_tests write_now write_out mark_base commit_tests publish commit_out unlock_base give_back reclaimable relink reports swept vacuum_now vacuum_out
live_head_value_of_three_rows = (refl, refl, refl)
