-- Paper 01's whole run, computed from memory in which every word is 0.
use Rattle.std.specs.Prelude.{◌≡◌, refl, List, [], ◌∷◌, replicate}
use Rattle.std.proofs.Math.Option.{some}
use Rattle.kinds.specs.ReadAnswer.{Key}
use Rattle.kinds.specs.Answer.{Done, Begun, Wrote, Vacuumed, Listed, Refused}
use Rattle.words.specs.Sizes.{base, last_id}
use Rattle.words.specs.Lists.{has, keep, first, last, fold, least, greatest, from}
use Rattle.kinds.specs.Versions.{tx, at, version_of, words_of, cell_at, put_cell}
use Rattle.words.specs.Slots.{words, threes, slot_of, push, opened}
use Rattle.rules.specs.Memory.{Mem, mem}
use Rattle.kinds.specs.Visible.{creator_visible, visible, conflict}
use Rattle.rules.specs.Chain.{chain, look}
use Rattle.rules.specs.Snapshot.{occupied, vacant, horizon_of}
use Rattle.rules.specs.Outcome.{guard, each, fits, store_tests, slot_tests}
use Rattle.rules.specs.Create.{fresh_cells, created, create_out}
use Rattle.rules.specs.Begin.{ids_with, begin_words, begin_out}
use Rattle.rules.specs.Read.{own, answer_at, recorded, sight_of, own_sight, read_row, read_end, read_out}
use Rattle.rules.specs.Write.{lock_base, prepared, head_tests, write_now, write_out}
use Rattle.rules.specs.Commit.{mark_base, commit_tests, publish, commit_out}
use Rattle.rules.specs.Abort.{unlock_base, give_back, abort_out}
use Rattle.rules.specs.Vacuum.{relink, reports, swept, vacuum_now, vacuum_out}
use Rattle.kinds.specs.Versions.{reclaimable}
use Rattle.rules.specs.Lookup.{is_key, list_row, find_row, lookup_end, rows_to_read, lookup_out, lookup_all_out}
use Rattle.rules.specs.Run.{Call, create, begin, read, write, commit, abort, vacuum, lookup, lookup_all, Reply, looked, gave, step, run}
use Rattle.rules.specs.Run as R

abbrev zero_mem : Mem base
zero_mem = mem (replicate 4 0) (replicate 2 0) (replicate 4 (replicate 8 0)) (replicate base.slots (replicate base.width 0))

-- the run of the paper, then the lookups that its rows answer
abbrev calls : List Call
calls =
    create 4 2
    ∷ begin
    ∷ write 0 1 0 (some 70)
    ∷ commit 0 1
    ∷ begin
    ∷ read 0 2 0
    ∷ begin
    ∷ write 1 3 0 (some 75)
    ∷ commit 1 3
    ∷ read 0 2 0
    ∷ vacuum 0 last_id 3
    ∷ write 0 2 0 (some 71)
    ∷ abort 0 2
    ∷ vacuum 0 last_id 3
    ∷ begin
    ∷ read 0 4 0
    ∷ write 0 4 1 (some 5)
    ∷ lookup_all 0 4 5 3
    ∷ lookup 0 4 75 (0 ∷ []) 3
    ∷ []

abbrev replies : List Reply
replies =
    gave Done []
    ∷ gave (Begun 0 (tx 1)) []
    ∷ gave (Wrote (at 1)) []
    ∷ gave Done []
    ∷ gave (Begun 0 (tx 2)) []
    ∷ looked (Key 70)
    ∷ gave (Begun 1 (tx 3)) []
    ∷ gave (Wrote (at 2)) []
    ∷ gave Done []
    ∷ looked (Key 70)
    ∷ R.swept (Vacuumed 0 (Key 75)) []
    ∷ gave (Refused 8 0) []
    ∷ gave Done []
    ∷ R.swept (Vacuumed 1 (Key 75)) ((1 ∷ 1 ∷ 70 ∷ []) ∷ [])
    ∷ gave (Begun 0 (tx 4)) []
    ∷ looked (Key 75)
    ∷ gave (Wrote (at 1)) []
    ∷ gave (Listed 1) (1 ∷ [])
    ∷ gave (Listed 1) (0 ∷ [])
    ∷ []

pub whole_run : (run calls zero_mem).0 ≡ replies
unfolding run step has keep first last fold least greatest from version_of words_of cell_at put_cell words threes slot_of push opened creator_visible visible conflict chain look occupied vacant horizon_of guard each fits store_tests slot_tests fresh_cells created create_out ids_with begin_words begin_out own answer_at recorded sight_of own_sight read_row read_end read_out lock_base prepared head_tests write_now write_out mark_base commit_tests publish commit_out unlock_base give_back abort_out reclaimable relink reports swept vacuum_now vacuum_out is_key list_row find_row lookup_end rows_to_read lookup_out lookup_all_out
whole_run = refl
