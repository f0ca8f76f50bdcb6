-- 01's "Slips we have seen", and slips beside them: a run and three stores, computed, whose answers each slip would change.
use Rattle.std.specs.Prelude.{List, ◌∷◌, [], ◌≡◌, refl, replicate}
use Rattle.std.proofs.Math.Option.{some}
use Rattle.kinds.specs.Answer.{Answer, Begun, Wrote, Done, Vacuumed}
use Rattle.kinds.specs.ReadAnswer.{Key}
use Rattle.words.specs.Sizes.{base, last_id}
use Rattle.words.specs.Lists.{last, fold, has, keep, first, least, greatest, from}
use Rattle.kinds.specs.Versions.{at, tx, version_of, words_of, cell_at, put_cell, version_at, put_version, with_xmax, reclaimable}
use Rattle.words.specs.Slots.{words, threes, slot_of, push, opened, add_write}
use Rattle.words.specs.Slots as S
use Rattle.rules.specs.Memory.{Mem, mem, words_at, with_slot, with_cells}
use Rattle.kinds.specs.Visible.{creator_visible, visible, conflict}
use Rattle.rules.specs.Chain.{look, chain}
use Rattle.rules.specs.Snapshot.{occupied, vacant, horizon_of}
use Rattle.rules.specs.Outcome.{guard, each, fits, store_tests, slot_tests}
use Rattle.rules.specs.Create.{create_out, fresh_cells, created}
use Rattle.rules.specs.Begin.{ids_with, begin_words, begin_out}
use Rattle.rules.specs.Read.{own, answer_at, recorded, sight_of, own_sight, read_row, read_end, read_out}
use Rattle.rules.specs.Write.{lock_base, prepared, head_tests, write_now, write_out}
use Rattle.rules.specs.Commit.{mark_base, commit_tests, publish, commit_out}
use Rattle.rules.specs.Abort.{unlock_base, give_back, abort_out}
use Rattle.rules.specs.Vacuum.{swept, relink, reports, vacuum_now, vacuum_out}
use Rattle.rules.specs.Lookup.{is_key, list_row, find_row, lookup_end, rows_to_read, lookup_out, lookup_all_out}
use Rattle.rules.specs.Run.{Call, create, begin, write, commit, abort, vacuum, read, lookup, Reply, gave, looked, run, step}
use Rattle.rules.specs.Run as R

abbrev lent : Mem base
lent = mem (replicate 4 0) (replicate 3 0) (replicate 6 (replicate 8 0)) (replicate base.slots (replicate base.width 0))

-- An older writer (id 2) and a reader (id 3): the writer's lock does not stop the reader, its commit is not seen by the reader, and the
-- version that it superseded stays while the reader is open: the horizon is the least snapshot xmin, and the reader's is 2.
-- Two writers of the empty row 1 (ids 4 and 5): there is nothing to lock, and the second commit gets 8; the base of its first write, in
-- row 0, is not marked, so row 0 is read as before. A lookup names the first candidate past the rows, not the largest.
abbrev calls : List Call
calls =
    create 6 3
    ∷ begin
    ∷ write 0 1 0 (some 70)
    ∷ commit 0 1
    ∷ begin
    ∷ begin
    ∷ write 0 2 0 (some 75)
    ∷ read 1 3 0
    ∷ commit 0 2
    ∷ read 1 3 0
    ∷ vacuum 0 last_id 6
    ∷ read 1 3 0
    ∷ begin
    ∷ begin
    ∷ write 0 4 1 (some 5)
    ∷ write 2 5 0 (some 80)
    ∷ write 2 5 1 (some 6)
    ∷ commit 0 4
    ∷ commit 2 5
    ∷ abort 2 5
    ∷ begin
    ∷ read 0 6 0
    ∷ read 0 6 1
    ∷ lookup 0 6 75 (1 ∷ 9 ∷ 12 ∷ []) 3
    ∷ []

abbrev replies : List Reply
replies =
    gave Done []
    ∷ gave (Begun 0 (tx 1)) []
    ∷ gave (Wrote (at 1)) []
    ∷ gave Done []
    ∷ gave (Begun 0 (tx 2)) []
    ∷ gave (Begun 1 (tx 3)) []
    ∷ gave (Wrote (at 2)) []
    ∷ looked (Key 70)
    ∷ gave Done []
    ∷ looked (Key 70)
    ∷ R.swept (Vacuumed 0 (Key 75)) []
    ∷ looked (Key 70)
    ∷ gave (Begun 0 (tx 4)) []
    ∷ gave (Begun 2 (tx 5)) []
    ∷ gave (Wrote (at 3)) []
    ∷ gave (Wrote (at 4)) []
    ∷ gave (Wrote (at 5)) []
    ∷ gave Done []
    ∷ gave (Answer.Refused 8 1) []
    ∷ gave Done []
    ∷ gave (Begun 0 (tx 6)) []
    ∷ looked (Key 75)
    ∷ looked (Key 5)
    ∷ gave (Answer.Refused 6 9) []
    ∷ []

pub slips_are_not_made : (run calls lent).0 ≡ replies
unfolding run step has keep first last fold least greatest from version_of words_of cell_at put_cell words threes slot_of push opened creator_visible visible conflict chain look occupied vacant horizon_of guard each fits store_tests slot_tests fresh_cells created create_out ids_with begin_words begin_out own answer_at recorded sight_of own_sight read_row read_end read_out lock_base prepared head_tests write_now write_out mark_base commit_tests publish commit_out unlock_base give_back abort_out reclaimable relink reports swept vacuum_now vacuum_out is_key list_row find_row lookup_end rows_to_read lookup_out lookup_all_out
slips_are_not_made = refl

-- two committed versions of row 0, keys 60 and 70, and an open reader, id 3
abbrev two : Mem base
two = (run (create 6 3 ∷ begin ∷ write 0 1 0 (some 60) ∷ commit 0 1 ∷ begin ∷ write 0 2 0 (some 70) ∷ commit 0 2 ∷ begin ∷ []) lent).1

-- damaged: the older of the two is not superseded, so the reader sees both. "the first visible version from the head"
abbrev both_seen : Mem base
both_seen = with_cells two (put_version two.cells 1 (with_xmax (version_at two.cells 1) 0))

-- damaged: two own entries of row 0, cells 1 and 2. The last of them counts (000, `last_write`)
abbrev two_entries : Mem base
two_entries = with_slot two 0 (add_write base (S.write 0 0 2) (add_write base (S.write 0 0 1) (words_at two 0)))

pub first_visible_is_read : (read_out both_seen 0 3 0).answer ≡ Key 70
unfolding run step has keep first last fold least greatest from version_of words_of cell_at put_cell words threes slot_of push opened creator_visible visible conflict chain look occupied vacant horizon_of guard each fits store_tests slot_tests fresh_cells created create_out ids_with begin_words begin_out own answer_at recorded sight_of own_sight read_row read_end read_out lock_base prepared head_tests write_now write_out mark_base commit_tests publish commit_out unlock_base give_back abort_out reclaimable relink reports swept vacuum_now vacuum_out is_key list_row find_row lookup_end rows_to_read lookup_out lookup_all_out
first_visible_is_read = refl

pub last_own_entry_is_read : (read_out two_entries 0 3 0).answer ≡ Key 70
unfolding run step has keep first last fold least greatest from version_of words_of cell_at put_cell words threes slot_of push opened creator_visible visible conflict chain look occupied vacant horizon_of guard each fits store_tests slot_tests fresh_cells created create_out ids_with begin_words begin_out own answer_at recorded sight_of own_sight read_row read_end read_out lock_base prepared head_tests write_now write_out mark_base commit_tests publish commit_out unlock_base give_back abort_out reclaimable relink reports swept vacuum_now vacuum_out is_key list_row find_row lookup_end rows_to_read lookup_out lookup_all_out
last_own_entry_is_read = refl

-- a vacuum gives a cell back once: the one handed out after it is another
pub given_back_once : (run (commit 0 3 ∷ vacuum 0 last_id 6 ∷ begin ∷ write 0 4 1 (some 5) ∷ write 0 4 2 (some 6) ∷ []) two).0
    ≡ gave Done [] ∷ R.swept (Vacuumed 1 (Key 70)) ((1 ∷ 1 ∷ 60 ∷ []) ∷ []) ∷ gave (Begun 0 (tx 4)) [] ∷ gave (Wrote (at 1)) [] ∷ gave (Wrote (at 3)) [] ∷ []
unfolding run step has keep first last fold least greatest from version_of words_of cell_at put_cell words threes slot_of push opened creator_visible visible conflict chain look occupied vacant horizon_of guard each fits store_tests slot_tests fresh_cells created create_out ids_with begin_words begin_out own answer_at recorded sight_of own_sight read_row read_end read_out lock_base prepared head_tests write_now write_out mark_base commit_tests publish commit_out unlock_base give_back abort_out reclaimable relink reports swept vacuum_now vacuum_out is_key list_row find_row lookup_end rows_to_read lookup_out lookup_all_out
given_back_once = refl
