-- The theorems of demand 3 are not empty: a run with a reader open across commits, a vacuum and the reuse of a cell, computed. What the
-- reader is answered is what the log says.
use Rattle.std.specs.Prelude.{List, ◌∷◌, [], ◌≢◌, ◌≡◌, refl, ℕ, ◌≤◌, replicate}
use Rattle.std.proofs.Math.Option.{some, none}
use Rattle.std.proofs.Common.{ap}
use Rattle.kinds.specs.Answer.{Begun, Wrote, Done, Vacuumed, Listed}
use Rattle.kinds.specs.ReadAnswer.{Key, None}
use Rattle.words.specs.Sizes.{base, last_id}
use Rattle.words.specs.Lists.{last, fold, has, keep, first, least, greatest, from}
use Rattle.kinds.specs.Versions.{at, tx, version_of, words_of, cell_at, put_cell}
use Rattle.words.specs.Slots.{words, threes, slot_of, push, opened}
use Rattle.rules.specs.Memory.{Mem, mem}
use Rattle.kinds.specs.Visible.{creator_visible, visible, conflict}
use Rattle.rules.specs.Chain.{look, chain}
use Rattle.rules.specs.Snapshot.{occupied, vacant, horizon_of}
use Rattle.rules.specs.Outcome.{guard, each, fits, store_tests, slot_tests}
use Rattle.rules.specs.Create.{create_out, fresh_cells, created}
use Rattle.rules.specs.Begin.{ids_with, begin_words, begin_out}
use Rattle.rules.specs.Read.{own, answer_at, recorded, sight_of, own_sight, read_row, read_end, read_out}
use Rattle.rules.specs.Write.{lock_base, prepared, head_tests, write_now, write_out}
use Rattle.rules.specs.Commit.{mark_base, commit_tests, publish, commit_out}
use Rattle.rules.specs.Abort.{unlock_base, give_back, abort_out}
use Rattle.rules.specs.Vacuum.{swept, relink, reports, vacuum_now, vacuum_out}
use Rattle.kinds.specs.Versions.{reclaimable}
use Rattle.rules.specs.Lookup.{is_key, list_row, find_row, lookup_end, rows_to_read, lookup_out, lookup_all_out}
use Rattle.rules.specs.Run.{Call, begin, write, commit, vacuum, read, lookup_all, Reply, gave, looked, run, step}
use Rattle.rules.specs.History.{Log, log_of, made, value_in, said, logged, commits, writes_in, view_in, last_in, own_in, who_in, rows_in, cells_in}
use Rattle.rules.specs.Reachable.{Reachable, times, everywhere}
use Rattle.rules.proofs.Demand3.{each_cell_in_one_place, base_is_roomy}
use Rattle.rules.specs.Run as R

abbrev lent : Mem base
lent = mem (replicate 4 0) (replicate 2 0) (replicate 3 (replicate 8 0)) (replicate base.slots (replicate base.width 0))

-- two commits of row 0, then the reader (slot 0, id 3) begins; another commit of row 0; vacuum takes the oldest version, and its cell 1 is
-- handed out again for row 1, which is committed; the reader reads both rows, and so does a transaction that began last
abbrev calls : List Call
calls =
    begin
    ∷ write 0 1 0 (some 60)
    ∷ commit 0 1
    ∷ begin
    ∷ write 0 2 0 (some 70)
    ∷ commit 0 2
    ∷ begin
    ∷ begin
    ∷ write 1 4 0 (some 75)
    ∷ commit 1 4
    ∷ vacuum 0 last_id 3
    ∷ begin
    ∷ write 1 5 1 (some 5)
    ∷ commit 1 5
    ∷ begin
    ∷ read 0 3 0
    ∷ read 0 3 1
    ∷ read 1 6 0
    ∷ read 1 6 1
    ∷ lookup_all 1 6 5 2
    ∷ []

abbrev replies : List Reply
replies =
    gave (Begun 0 (tx 1)) []
    ∷ gave (Wrote (at 1)) []
    ∷ gave Done []
    ∷ gave (Begun 0 (tx 2)) []
    ∷ gave (Wrote (at 2)) []
    ∷ gave Done []
    ∷ gave (Begun 0 (tx 3)) []
    ∷ gave (Begun 1 (tx 4)) []
    ∷ gave (Wrote (at 3)) []
    ∷ gave Done []
    ∷ R.swept (Vacuumed 1 (Key 75)) ((1 ∷ 1 ∷ 60 ∷ []) ∷ [])
    ∷ gave (Begun 1 (tx 5)) []
    ∷ gave (Wrote (at 1)) []
    ∷ gave Done []
    ∷ gave (Begun 1 (tx 6)) []
    ∷ looked (Key 70)
    ∷ looked None
    ∷ looked (Key 75)
    ∷ looked (Key 5)
    ∷ gave (Listed 1) (1 ∷ [])
    ∷ []

abbrev log : Log
log = log_of calls replies (made 3 2 ∷ [])

-- the creation is accepted, and the run replies so
pub creation_accepted : (create_out lent 3 2).answer ≡ Done
unfolding run step has keep first last fold least greatest from version_of words_of cell_at put_cell words threes slot_of push opened creator_visible visible conflict chain look occupied vacant horizon_of guard each fits store_tests slot_tests fresh_cells created create_out ids_with begin_words begin_out own answer_at recorded sight_of own_sight read_row read_end read_out lock_base prepared head_tests write_now write_out mark_base commit_tests publish commit_out unlock_base give_back abort_out reclaimable relink reports swept vacuum_now vacuum_out is_key list_row find_row lookup_end rows_to_read lookup_out lookup_all_out
creation_accepted = refl

pub reader_run : (run calls (create_out lent 3 2).after).0 ≡ replies
unfolding run step has keep first last fold least greatest from version_of words_of cell_at put_cell words threes slot_of push opened creator_visible visible conflict chain look occupied vacant horizon_of guard each fits store_tests slot_tests fresh_cells created create_out ids_with begin_words begin_out own answer_at recorded sight_of own_sight read_row read_end read_out lock_base prepared head_tests write_now write_out mark_base commit_tests publish commit_out unlock_base give_back abort_out reclaimable relink reports swept vacuum_now vacuum_out is_key list_row find_row lookup_end rows_to_read lookup_out lookup_all_out
reader_run = refl

-- what the log says of the two readers, creator and all: the reader's values are those of before it began
pub log_says : (value_in log 0 0 ≡ some (said (some 70) 2)) × (value_in log 0 1 ≡ none) × (value_in log 1 0 ≡ some (said (some 75) 4)) × (value_in log 1 1 ≡ some (said (some 5) 5))
unfolding log_of logged commits writes_in view_in last_in own_in
log_says = (refl, refl, refl, refl)

-- the store after the run is reachable, so every theorem of demand 3 holds of it; both slots are open in it
pub run_is_reachable : Reachable (run calls (create_out lent 3 2).after).1 log
run_is_reachable = record {
  lent = lent;
  n = 3;
  r = 2;
  calls = calls;
  accepted = creation_accepted;
  memory = refl;
  log = ap (λ (x : List Reply). log_of calls x (made 3 2 ∷ [])) reader_run;
}

pub both_are_open : (who_in log 0 ≡ 3) × (who_in log 1 ≡ 6) × (rows_in log ≡ 2)
unfolding log_of logged commits writes_in who_in rows_in
both_are_open = (refl, refl, refl)

-- so, for one: each of its three cells is in one place
pub each_of_the_three_cells_in_one_place : (c : ℕ) → c ≢ 0 → c ≤ 3 → times c (everywhere (run calls (create_out lent 3 2).after).1) ≡ 1
unfolding log_of logged commits writes_in cells_in
each_of_the_three_cells_in_one_place c nz le = each_cell_in_one_place base_is_roomy (run calls (create_out lent 3 2).after).1 log run_is_reachable c nz le
