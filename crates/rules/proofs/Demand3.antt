-- Demand 3: every reader, any history. Each theorem is of every reachable store: any lent memory, an accepted creation, any calls
-- after it (Reachable.antt), with the log of those calls and their replies (History.antt). The functions are those that the public
-- contracts cite, at any sizes z whose slots are wide enough. What a longer walk limit changes stands in LongerWalk.antt.
use Rattle.std.specs.Prelude.{true, false, ◌∷◌, [], List, ◌≢◌, ◌⊎◌, ◌≡◌, refl, ℕ, ◌<◌, ◌≤◌, suc, length}
use Rattle.std.proofs.Math.Option.{Option}
use Rattle.std.proofs.Common.{◌∙◌, ap, sym, arith}
use Rattle.kinds.specs.Answer.{Answer, Done}
use Rattle.kinds.specs.ReadAnswer.{ReadAnswer}
use Rattle.words.specs.Sizes.{base, Roomy, Sizes}
use Rattle.rules.specs.Numbers.{read_number, number_of}
use Rattle.words.specs.Lists.{or_else, keep, from}
use Rattle.kinds.specs.Versions.{version_at}
use Rattle.words.specs.Slots.{Rec, Slot}
use Rattle.rules.specs.Memory.{Mem, slot_at, size_r, size_n, clock, head_at}
use Rattle.rules.specs.Chain.{ends, Chain}
use Rattle.rules.specs.Snapshot.{horizon}
use Rattle.rules.specs.Outcome.{refuse, slot_tests}
use Rattle.rules.specs.Create.{create_out}
use Rattle.rules.specs.Read.{read_out, read_at, sees}
use Rattle.rules.specs.Commit.{commit_out}
use Rattle.rules.specs.Vacuum.{vacuum_out}
use Rattle.kinds.specs.Versions.{reclaimable}
use Rattle.rules.specs.Lookup.{own_rows, lookup_out, lookup_all_out}
use Rattle.rules.specs.Run.{run, Call, reply_number, step}
use Rattle.rules.specs.History.{made, log_of, Log, who_in, rows_in, cells_in, answer_of, value_in, Val, own_in, view_in, last_in}
use Rattle.rules.specs.Reachable.{Reachable, In, TooLong, ReadSetFull, says_at, StillOpen, times, everywhere, chain_at, NowhereElse, free_at, InOrder, behind, All, LockedFor, sees_at, BaseOf, rows_read, TrueStill, Swept, Overtaken}
use Rattle.rules.specs.Listing.{Comes, rows_of}
use Rattle.rules.proofs.Validation.{commit_tested, accepted_commit_read_what_stands}
use Rattle.rules.specs.Theory.View.{view_of}
use Rattle.rules.proofs.Theory.View.{get_slots}
use Rattle.rules.proofs.Theory.Places.{inb_zero}
use Rattle.rules.proofs.Theory.SlotSteps.{ids_differ}
use Rattle.rules.proofs.Theory.Guard.{passed_split}
use Rattle.rules.specs.Theory.Good.{Owner}
use Rattle.rules.proofs.Theory.Good.{owner}
use Rattle.rules.proofs.Theory.CommitCall.{commit_facts}
use Rattle.rules.proofs.Theory.VacuumCall.{row_chain_lem}
use Rattle.rules.specs.Theory.Steps.{hist_of}
use Rattle.rules.proofs.Theory.Steps.{Sound}
use Rattle.rules.proofs.Theory.Never.{open_slot, never_damaged}
use Rattle.rules.proofs.Theory.ReadLaw.{reachable_sound, ReadIs, read_is, tells, found_says, ten, thirteen}
use Rattle.rules.proofs.Theory.OnePlace.{once_everywhere, inb_one, inb_none, nowhere_else, free_chain}
use Rattle.rules.proofs.Theory.Facts.{id_past, snapshot_order, head_live, later_superseded, bases_locked, locked_based, one_entry, one_record, records_true, reclaimed_unseen}
use Rattle.rules.proofs.Theory.CommitRefused.{commit_eight}
use Rattle.rules.proofs.Theory.Validated.{standing_are_heads}
use Rattle.rules.proofs.Theory.Replaced.{bases_seen, tested_saw}
use Rattle.rules.proofs.Theory.VacuumLaw.{vacuum_comes, vacuum_full}
use Rattle.rules.specs.Theory.LookupLaw.{OneOf}
use Rattle.rules.proofs.Theory.LookupLaw.{lookup_comes, lookup_all_comes, comes_known}
use Rattle.rules.proofs.Theory.NeverFull.{read_set_has_room, lookup_has_room, lookup_all_has_room}
use Rattle.rules.proofs.Theory.Later.{later_is, later_records}
use Rattle.rules.proofs.Theory.Extending.{reachable_after}

-- 16 slots of 504 words, and so on, are such sizes
pub base_is_roomy : Roomy base
base_is_roomy = record { room = omega arith }

-- an accepted creation is reachable, and what any calls lead to from a reachable store
pub creation_is_reachable : {z : Sizes} (m : Mem z) (n r : ℕ) → (create_out m n r).answer ≡ Done → Reachable (create_out m n r).after (made n r ∷ [])
unfolding run log_of
creation_is_reachable m n r e = record { lent = m; n = n; r = r; calls = []; accepted = e; memory = refl; log = refl }

pub calls_lead_to_reachable_stores : {z : Sizes} (m : Mem z) (l : Log) → Reachable m l → (cs : List Call) → Reachable (run cs m).1 (log_of cs (run cs m).0 l)
calls_lead_to_reachable_stores m l rc cs = reachable_after m l rc cs

module _ {z : Sizes} (rm : Roomy z) (m : Mem z) (l : Log) (rc : Reachable m l) where
  abbrev so : Sound m l
  so = reachable_sound rm m l rc

  abbrev owns : (s : ℕ) → who_in l s ≢ 0 → Owner m s (who_in l s)
  owns s op = open_slot (rows_in l) (cells_in l) m (hist_of l) so s (who_in l s) op refl

  -- ---- 1 and 2: reads follow history, and are refused only so
  module _ (s row : ℕ) (op : who_in l s ≢ 0) (in_r : row < rows_in l) where
    abbrev answer : ReadAnswer
    answer = (read_out m s (who_in l s) row).answer

    abbrev is : ReadIs m l so s row op in_r answer
    is = read_is m l so s row op in_r

    -- A read by an open transaction of a row in range answers its own last accepted write of that row, else the last commit of that row
    -- made before it began, else nothing. It is refused instead only with 10, where none of the versions that the walk limit allows is
    -- visible and the chain is longer; or with 13, where a new record is needed and the read set is full.
    pub read_is_own_else_last_commit_before_begin :
        (answer ≡ answer_of (value_in l s row)) ⊎ (((answer ≡ ReadAnswer.Refused 10 row) × TooLong m l s row) ⊎ ((answer ≡ ReadAnswer.Refused 13 row) × ReadSetFull m l s row))
    read_is_own_else_last_commit_before_begin = tells m l so s row op in_r answer is

    -- And the version that it finds (cell 0: none) carries the value and the creator that history says.
    pub version_read_has_the_creator_of_history : (c : ℕ) (new : List Rec) → read_at m (slot_at m s) (slot_at m s).recs row ≡ sees c new → says_at m c ≡ value_in l s row
    version_read_has_the_creator_of_history c new e = found_says m l so s row op in_r c new e

    -- the answer is 10 exactly when none of the versions walked is visible and the chain is longer (and the row has no own write)
    pub read_refused_10_exactly_when_too_long : (answer ≡ ReadAnswer.Refused 10 row → TooLong m l s row) × (TooLong m l s row → answer ≡ ReadAnswer.Refused 10 row)
    read_refused_10_exactly_when_too_long = ten m l so s row op in_r answer is

    -- the answer is 13 exactly when the version found is not recorded and the read set is full (and the row has no own write)
    pub read_refused_13_exactly_when_full : (answer ≡ ReadAnswer.Refused 13 row → ReadSetFull m l s row) × (ReadSetFull m l s row → answer ≡ ReadAnswer.Refused 13 row)
    read_refused_13_exactly_when_full = thirteen m l so s row op in_r answer is

  -- where the read set has room for a record of every row, no read is refused with 13: a reader has at most one record a row
  pub no_13_with_room_for_every_row : rows_in l ≤ z.reads → (s row : ℕ) → who_in l s ≢ 0 → row < rows_in l → ReadSetFull m l s row → ⊥
  no_13_with_room_for_every_row enough s row op in_r f = read_set_has_room m l so enough s op row in_r f

  -- ---- 3: nobody changes it
  module _ (s row : ℕ) (op : who_in l s ≢ 0) (in_r : row < rows_in l) where
    -- what the transaction of slot s is answered after further calls, and its own last write of the row by then
    abbrev later_read : List Call → ReadAnswer
    later_read cs = (read_out (run cs m).1 s (who_in l s) row).answer

    abbrev later_own : List Call → Option Val
    later_own cs = own_in (log_of cs (run cs m).0 l) s row

    -- Two continuations of one history, any calls by others in them: where the transaction is open after both, its own accepted writes of
    -- the row are equal, and both reads answer a value, they answer the same value.
    pub no_call_turns_one_value_into_another : (cs ds : List Call) → StillOpen m l s cs → StillOpen m l s ds → later_own cs ≡ later_own ds
        → read_number (later_read cs) ≡ 0 → read_number (later_read ds) ≡ 0 → later_read cs ≡ later_read ds
    no_call_turns_one_value_into_another cs ds a b same p q =
        later_is m l so s op row in_r cs a p ∙ ap (λ (x : Option Val). answer_of (or_else x (view_in l s row))) same ∙ sym (later_is m l so s op row in_r ds b q)

  -- ---- 4: one place
  -- Each cell from 1 to N stands once in one of the places where a cell can stand: the free list, a row's chain, an open write set.
  pub each_cell_in_one_place : (c : ℕ) → c ≢ 0 → c ≤ cells_in l → times c (everywhere m) ≡ 1
  each_cell_in_one_place c nz le = once_everywhere (rows_in l) (cells_in l) m (hist_of l) so c ∙ inb_one (cells_in l) c nz le

  -- no other number stands there
  pub no_other_cell_anywhere : (times 0 (everywhere m) ≡ 0) × ((c : ℕ) → cells_in l < c → times c (everywhere m) ≡ 0)
  no_other_cell_anywhere = (
    once_everywhere (rows_in l) (cells_in l) m (hist_of l) so 0 ∙ inb_zero (suc (cells_in l)),
    λ c lt. once_everywhere (rows_in l) (cells_in l) m (hist_of l) so c ∙ inb_none (cells_in l) c lt,
  )

  -- So a cell of a row's chain stands there once, in no other row's chain (gap 5), not in the free list and in no write set.
  pub chained_cell_is_nowhere_else : (row c : ℕ) → row < rows_in l → times c (chain_at m row).cells ≢ 0 → NowhereElse m row c
  chained_cell_is_nowhere_else row c in_r nz = nowhere_else (rows_in l) (cells_in l) m (hist_of l) so row c in_r nz

  -- the free list and every chain end
  pub free_list_ends : (free_at m).after ≡ ends
  free_list_ends = ap (λ (c : Chain). c.after) (free_chain (rows_in l) (cells_in l) m (hist_of l) so)

  pub every_chain_ends : (row : ℕ) → row < rows_in l → (chain_at m row).after ≡ ends
  every_chain_ends row in_r = ap (λ (c : Chain). c.after) (row_chain_lem (rows_in l) (cells_in l) m (hist_of l) so row in_r)

  -- ---- 5: what else holds of every reachable store
  -- no call, with any arguments, answers 15
  pub reachable_store_never_answers_15 : (c : Call) → reply_number (step c m).reply ≢ 15
  reachable_store_never_answers_15 c = never_damaged (rows_in l) (cells_in l) m (hist_of l) so c

  -- the memory's sizes are those of the creation, and its slots are occupied by the transactions that the log has open
  pub sizes_are_the_creations : (size_r m ≡ rows_in l) × (size_n m ≡ cells_in l)
  sizes_are_the_creations = (so.rows, so.cells)

  pub slot_has_the_open_id : (s : ℕ) → s < z.slots → (slot_at m s).id ≡ who_in l s
  slot_has_the_open_id s lt = ap (λ (t : Slot). t.id) (sym (get_slots z m.slots s lt)) ∙ so.inv.known s

  -- an id is below the clock, and in one slot only
  pub id_is_below_the_clock : (s : ℕ) → who_in l s ≢ 0 → who_in l s < clock m
  id_is_below_the_clock s op = id_past (rows_in l) (cells_in l) m (hist_of l) so s (who_in l s) (owns s op)

  pub id_is_in_one_slot : (s t : ℕ) → who_in l s ≢ 0 → t ≢ s → who_in l t ≢ who_in l s
  id_is_in_one_slot s t op ne e =
      ids_differ (rows_in l) (suc (cells_in l)) (view_of m) so.ghost (hist_of l) [] s so.inv (rw (so.inv.known s) op) t ne (so.inv.known t ∙ e ∙ sym (so.inv.known s))

  -- a snapshot's xmin is the least of its active ids, its own among them; its xmax is above them all and at most the clock
  pub snapshot_is_in_order : (s : ℕ) → who_in l s ≢ 0 → InOrder (slot_at m s) (clock m)
  snapshot_is_in_order s op = snapshot_order (rows_in l) (cells_in l) m (hist_of l) so s (who_in l s) (owns s op)

  -- a head has xmax 0
  pub head_is_not_superseded : (row : ℕ) → row < rows_in l → head_at m row ≢ 0 → (version_at m.cells (head_at m row)).xmax.0 ≡ 0
  head_is_not_superseded row in_r nz = head_live (rows_in l) (cells_in l) m (hist_of l) so row in_r nz

  -- every version behind a head has an xmax other than 0 and is unlocked
  pub later_version_is_superseded_and_unlocked : (row c : ℕ) → row < rows_in l → times c (behind (chain_at m row).cells) ≢ 0
      → ((version_at m.cells c).xmax.0 ≢ 0) × ((version_at m.cells c).locked ≡ 0)
  later_version_is_superseded_and_unlocked row c in_r nz = later_superseded (rows_in l) (cells_in l) m (hist_of l) so row c in_r nz

  -- a nonzero base of an open write is its row's head, locked by that id, and its writer sees it
  pub base_is_head_and_locked : (s : ℕ) → who_in l s ≢ 0 → All (λ w. w.base ≢ 0 → LockedFor m (who_in l s) w) (slot_at m s).writes
  base_is_head_and_locked s op = bases_locked (rows_in l) (cells_in l) m (hist_of l) so s (who_in l s) (owns s op)

  pub base_is_seen_by_its_writer : (s : ℕ) → who_in l s ≢ 0 → All (λ w. w.base ≢ 0 → sees_at m s w.base ≡ true) (slot_at m s).writes
  base_is_seen_by_its_writer s op = bases_seen (rows_in l) (cells_in l) m (hist_of l) so s (who_in l s) (owns s op)

  -- nothing else is locked: a locked cell is a base of an open write
  pub nothing_else_is_locked : (c : ℕ) → c ≢ 0 → c ≤ cells_in l → (version_at m.cells c).locked ≢ 0 → BaseOf m l c
  nothing_else_is_locked c nz le f = locked_based (rows_in l) (cells_in l) m (hist_of l) so l (λ i. refl) c nz le f

  -- one entry a row in a write set; at most one record a row
  pub one_entry_a_row : (s r : ℕ) → who_in l s ≢ 0 → times r (own_rows (slot_at m s).writes) ≤ 1
  one_entry_a_row s r op = one_entry (rows_in l) (cells_in l) m (hist_of l) so s (who_in l s) (owns s op) r

  pub one_record_a_row : (s r : ℕ) → who_in l s ≢ 0 → times r (rows_read (slot_at m s).recs) ≤ 1
  one_record_a_row s r op = one_record (rows_in l) (cells_in l) m (hist_of l) so s (who_in l s) (owns s op) r

  -- Gap 6: as long as a record stands, its cell is in its row's chain with the xmin that was read, and the reader sees it. So the cell
  -- was not reused since, and "recorded already" by the cell alone is right.
  pub recorded_cell_is_never_reused : (s : ℕ) → who_in l s ≢ 0 → All (TrueStill m s) (slot_at m s).recs
  recorded_cell_is_never_reused s op = records_true (rows_in l) (cells_in l) m (hist_of l) so s (who_in l s) (owns s op)

  -- And a record stands as long as its reader is open: whatever calls come after, it is among the reader's records still, its cell in its
  -- row's chain with its xmin.
  pub record_stays_true_while_its_reader_is_open : (s : ℕ) → who_in l s ≢ 0 → (cs : List Call) → StillOpen m l s cs → (q : Rec) → In q (slot_at m s).recs
      → In q (slot_at (run cs m).1 s).recs × TrueStill (run cs m).1 s q
  record_stays_true_while_its_reader_is_open s op cs k q i = later_records m l so s op cs k q i

  -- what vacuum may reclaim, with any request, no open reader sees: for all open snapshots at once
  pub vacuum_removes_nothing_that_a_reader_sees : (request c : ℕ) → reclaimable (horizon m request) (version_at m.cells c) ≡ true → (s : ℕ) → who_in l s ≢ 0 → sees_at m s c ≡ false
  vacuum_removes_nothing_that_a_reader_sees request c e s op = reclaimed_unseen (rows_in l) (cells_in l) m (hist_of l) so s (who_in l s) (owns s op) request c e

  -- and it removes exactly that, behind the head: counted, reported in chain order, with the head's value; the rest of the row's chain stays
  -- in order, every other chain as it was. Where the buffer is too short it is refused with 14
  pub vacuum_removes_exactly_what_is_reclaimable : (row request room : ℕ) → row < rows_in l
      → length (keep (λ c. reclaimable (horizon m request) (version_at m.cells c)) (behind (chain_at m row).cells)) ≤ room
      → Swept m row request (chain_at m row).cells (vacuum_out m row request room)
  vacuum_removes_exactly_what_is_reclaimable row request room in_r fit = vacuum_comes (rows_in l) (cells_in l) m (hist_of l) so row in_r request room fit

  pub vacuum_refused_14_where_the_buffer_is_too_short : (row request room : ℕ) → row < rows_in l
      → room < length (keep (λ c. reclaimable (horizon m request) (version_at m.cells c)) (behind (chain_at m row).cells))
      → vacuum_out m row request room ≡ refuse m 14 0
  vacuum_refused_14_where_the_buffer_is_too_short row request room in_r lt = vacuum_full (rows_in l) (cells_in l) m (hist_of l) so row in_r request room lt

  -- a commit is refused with 8 only for a row that had no version when it was written, and has one now
  pub commit_refused_8_only_for_base_0 : (s id row : ℕ) → (commit_out m s id).answer ≡ Answer.Refused 8 row → Overtaken m s row
  commit_refused_8_only_for_base_0 s id row e = commit_eight (rows_in l) (cells_in l) m (hist_of l) so s id row e

  -- an accepted commit of a transaction with writes: every version that it read is its row's head still, the last commit of the row
  pub accepted_commit_read_the_last_commits : (s id : ℕ) → (commit_out m s id).answer ≡ Done → (slot_at m s).writes ≢ [] → All (λ q. q.cell ≡ head_at m q.row) (slot_at m s).recs
  accepted_commit_read_the_last_commits s id e ne =
      standing_are_heads (rows_in l) (cells_in l) m (hist_of l) so s id (owner m s id (passed_split (slot_tests m s id) _ (commit_tested m s id e)).0) (accepted_commit_read_what_stands m s id e ne)

  -- nor is an update lost: of every row that an accepted commit replaces, the last commit is still the one made before it began
  pub accepted_commit_replaces_what_it_saw : (s id : ℕ) → (commit_out m s id).answer ≡ Done → All (λ w. last_in l w.row ≡ view_in l s w.row) (slot_at m s).writes
  accepted_commit_replaces_what_it_saw s id e =
      let p = passed_split (slot_tests m s id) _ (commit_tested m s id e) in
      tested_saw (rows_in l) (cells_in l) m (hist_of l) so s id (owner m s id p.0) (commit_facts m m so.shaped.rows so.shaped.cells (slot_at m s) (slot_at m s).writes p.1).0

  -- ---- 6: lookups follow history
  module _ (s key room : ℕ) (op : who_in l s ≢ 0) where
    -- A lookup by an open transaction, of candidates in range, lists exactly the candidate and own rows whose value by history is the key,
    -- ascending; or it is refused with the first trouble in row order, which is 10, 13 or 14 exactly when `trouble` says so.
    pub lookup_lists_exactly_the_rows_with_the_key : (cands : List ℕ) → All (λ r. r < rows_in l) cands
        → Comes m l s key room (rows_of m l s cands) (lookup_out m s (who_in l s) key cands room)
    lookup_lists_exactly_the_rows_with_the_key cands a = lookup_comes m l so s op key room cands a

    -- the same of all rows
    pub lookup_all_lists_exactly_the_rows_with_the_key : Comes m l s key room (from 0 (rows_in l)) (lookup_all_out m s (who_in l s) key room)
    lookup_all_lists_exactly_the_rows_with_the_key = lookup_all_comes m l so s op key room

    -- nor, where the read set has room for a record of every row, is a lookup refused with 13
    pub no_lookup_13_with_room_for_every_row : rows_in l ≤ z.reads → (cands : List ℕ) → All (λ r. r < rows_in l) cands
        → (number_of (lookup_out m s (who_in l s) key cands room).answer ≢ 13) × (number_of (lookup_all_out m s (who_in l s) key room).answer ≢ 13)
    no_lookup_13_with_room_for_every_row enough cands a = (lookup_has_room m l so enough s op key room cands a, lookup_all_has_room m l so enough s op key room)

    -- so it is refused only with 10, 13 or 14
    pub lookup_refused_only_with_10_13_14 : (cands : List ℕ) → All (λ r. r < rows_in l) cands → OneOf (number_of (lookup_out m s (who_in l s) key cands room).answer)
    lookup_refused_only_with_10_13_14 cands a = comes_known m l so s op key room _ _ (lookup_comes m l so s op key room cands a)

    pub lookup_all_refused_only_with_10_13_14 : OneOf (number_of (lookup_all_out m s (who_in l s) key room).answer)
    lookup_all_refused_only_with_10_13_14 = comes_known m l so s op key room _ _ (lookup_all_comes m l so s op key room)
