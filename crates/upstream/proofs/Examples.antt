-- Upstream's premises can be met: one reachable store, with an open reader that has a record and an open writer with a prepared cell, that
-- meets them. And the smallest examples, computed, where our calls and upstream's bodies part.
use Rattle.std.specs.Prelude.{◌<◌, true, List, [], ◌∷◌, ◌≡◌, refl}
use Rattle.std.proofs.Common.{ap, arith}
use Rattle.kinds.specs.Answer.{Answer, Done}
use Rattle.kinds.specs.ReadAnswer.{ReadAnswer, Key}
use Rattle.words.specs.Sizes.{last_id}
use Rattle.words.specs.Lists.{last, fold, has, keep, first, least, greatest, from}
use Rattle.kinds.specs.Versions.{version_of, words_of, cell_at, put_cell, version_at, version, locked_for, locked_by_other}
use Rattle.words.specs.Slots.{words, threes, slot_of, push, opened, rec}
use Rattle.words.specs.Slots as S
use Rattle.rules.specs.Memory.{clock, free, slot_at}
use Rattle.kinds.specs.Visible.{creator_visible, visible, conflict}
use Rattle.rules.specs.Chain.{look, chain}
use Rattle.rules.specs.Snapshot.{occupied, vacant, horizon_of}
use Rattle.rules.specs.Outcome.{guard, each, fits, store_tests, slot_tests}
use Rattle.rules.specs.Create.{create_out, fresh_cells, created}
use Rattle.rules.specs.Begin.{ids_with, begin_words, begin_out}
use Rattle.rules.specs.Read.{own, answer_at, recorded, sight_of, own_sight, read_row, read_end, read_out}
use Rattle.rules.specs.Write.{lock_base, prepared, head_tests, write_now, write_out}
use Rattle.rules.specs.Commit.{mark_base, commit_tests, publish, commit_out}
use Rattle.rules.specs.Run.{Reply, run, step}
use Rattle.rules.specs.History.{log_of, made, logged, commits, writes_in, who_in, rows_in}
use Rattle.rules.specs.Reachable.{Reachable}
use Rattle.rules.proofs.Demand3.{base_is_roomy}
use Rattle.upstream.specs.Images.{ImageValid, image_of}
use Rattle.upstream.specs.Transactions.{TransactionValid}
use Rattle.upstream.specs.LifecycleTerms.{WellFormed}
use Rattle.upstream.specs.Frames.{Permitted}
use Rattle.upstream.proofs.Frames.{first_free_cell_is_permitted}
use Rattle.upstream.proofs.Standing.{reachable_image_is_valid, open_transaction_is_valid}
use Rattle.upstream.proofs.Lifecycle.{reachable_state_is_well_formed}
use Rattle.upstream.specs.Examples.{lent, calls, replies, store, log, full}

creation_accepted : (create_out lent 4 2).answer ≡ Done
unfolding run step has keep first last fold least greatest from version_of words_of cell_at put_cell words threes slot_of push opened creator_visible visible conflict chain look occupied vacant horizon_of guard each fits store_tests slot_tests fresh_cells created create_out ids_with begin_words begin_out own answer_at recorded sight_of own_sight read_row read_end read_out lock_base prepared head_tests write_now write_out mark_base commit_tests publish commit_out
creation_accepted = refl

run_replies : (run calls (create_out lent 4 2).after).0 ≡ replies
unfolding run step has keep first last fold least greatest from version_of words_of cell_at put_cell words threes slot_of push opened creator_visible visible conflict chain look occupied vacant horizon_of guard each fits store_tests slot_tests fresh_cells created create_out ids_with begin_words begin_out own answer_at recorded sight_of own_sight read_row read_end read_out lock_base prepared head_tests write_now write_out mark_base commit_tests publish commit_out
run_replies = refl

pub store_is_reachable : Reachable store log
store_is_reachable = record { lent = lent; n = 4; r = 2; calls = calls; accepted = creation_accepted; memory = refl; log = ap (λ (x : List Reply). log_of calls x (made 4 2 ∷ [])) run_replies }

pub both_are_open : (who_in log 0 ≡ 2) × (who_in log 1 ≡ 3) × (rows_in log ≡ 2)
unfolding log_of logged commits writes_in who_in rows_in
both_are_open = (refl, refl, refl)

-- the reader's record, the writer's entries, the next free cell, the clock
pub store_holds : ((slot_at store 0).recs ≡ rec 0 1 1 ∷ []) × ((slot_at store 1).writes ≡ S.write 0 1 2 ∷ S.write 1 0 3 ∷ []) × (free store ≡ 4) × (clock store ≡ 4)
unfolding run step has keep first last fold least greatest from version_of words_of cell_at put_cell words threes slot_of push opened creator_visible visible conflict chain look occupied vacant horizon_of guard each fits store_tests slot_tests fresh_cells created create_out ids_with begin_words begin_out own answer_at recorded sight_of own_sight read_row read_end read_out lock_base prepared head_tests write_now write_out mark_base commit_tests publish commit_out
store_holds = (refl, refl, refl, refl)

-- ---- upstream's premises, met
pub some_image_is_valid : ImageValid (image_of store)
some_image_is_valid = reachable_image_is_valid base_is_roomy store log store_is_reachable

-- of a reader with a record, and of a writer with prepared cells
pub some_reader_is_valid : TransactionValid (image_of store) (slot_at store 0)
some_reader_is_valid = open_transaction_is_valid base_is_roomy store log store_is_reachable 0 (λ e. omega (arith, both_are_open.0))

pub some_writer_is_valid : TransactionValid (image_of store) (slot_at store 1)
some_writer_is_valid = open_transaction_is_valid base_is_roomy store log store_is_reachable 1 (λ e. omega (arith, both_are_open.1))

pub some_state_is_well_formed : WellFormed store × (clock store < last_id)
some_state_is_well_formed = (reachable_state_is_well_formed base_is_roomy store log store_is_reachable, omega (arith, store_holds.3))

pub some_cell_is_permitted : Permitted store (free store) 0
some_cell_is_permitted = first_free_cell_is_permitted base_is_roomy store log store_is_reachable (λ e. omega (arith, store_holds.2))

-- ---- where we part
-- the version that transaction 2 reads is locked by transaction 3: upstream's body answers an error, ours the key
pub part_at_a_locked_version : (locked_by_other (version_at store.cells 1) 2 ≡ true) × ((read_out store 0 2 0).answer ≡ Key 70)
unfolding run step has keep first last fold least greatest from version_of words_of cell_at put_cell words threes slot_of push opened creator_visible visible conflict chain look occupied vacant horizon_of guard each fits store_tests slot_tests fresh_cells created create_out ids_with begin_words begin_out own answer_at recorded sight_of own_sight read_row read_end read_out lock_base prepared head_tests write_now write_out mark_base commit_tests publish commit_out
part_at_a_locked_version = (refl, refl)

-- slot 16 is a slot upstream, and is refused here
pub part_at_slot_16 : (read_out store 16 2 0).answer ≡ ReadAnswer.Refused 4 0
unfolding run step has keep first last fold least greatest from version_of words_of cell_at put_cell words threes slot_of push opened creator_visible visible conflict chain look occupied vacant horizon_of guard each fits store_tests slot_tests fresh_cells created create_out ids_with begin_words begin_out own answer_at recorded sight_of own_sight read_row read_end read_out lock_base prepared head_tests write_now write_out mark_base commit_tests publish commit_out
part_at_slot_16 = refl

pub part_at_a_refused_begin : (clock full ≡ 17) × ((begin_out full).answer ≡ Answer.Refused 3 0) × (clock (begin_out full).after ≡ 17)
unfolding run step has keep first last fold least greatest from version_of words_of cell_at put_cell words threes slot_of push opened creator_visible visible conflict chain look occupied vacant horizon_of guard each fits store_tests slot_tests fresh_cells created create_out ids_with begin_words begin_out own answer_at recorded sight_of own_sight read_row read_end read_out lock_base prepared head_tests write_now write_out mark_base commit_tests publish commit_out
part_at_a_refused_begin = (refl, refl, refl)

-- transaction 3 began while 2 was open: its snapshot xmin is 2 at once, where upstream has 3 until a snapshot is taken
pub part_at_the_first_xmin : ((slot_at store 1).id ≡ 3) × ((slot_at store 1).low ≡ 2)
unfolding run step has keep first last fold least greatest from version_of words_of cell_at put_cell words threes slot_of push opened creator_visible visible conflict chain look occupied vacant horizon_of guard each fits store_tests slot_tests fresh_cells created create_out ids_with begin_words begin_out own answer_at recorded sight_of own_sight read_row read_end read_out lock_base prepared head_tests write_now write_out mark_base commit_tests publish commit_out
part_at_the_first_xmin = (refl, refl)

-- transaction 3 has written row 0: its version is locked for 3, all else of it is as it was
pub part_at_a_write's_lock : version_at store.cells 1 ≡ locked_for (version 1 0 0 1 70 0 0) 3
unfolding run step has keep first last fold least greatest from version_of words_of cell_at put_cell words threes slot_of push opened creator_visible visible conflict chain look occupied vacant horizon_of guard each fits store_tests slot_tests fresh_cells created create_out ids_with begin_words begin_out own answer_at recorded sight_of own_sight read_row read_end read_out lock_base prepared head_tests write_now write_out mark_base commit_tests publish commit_out
part_at_a_write's_lock = refl
