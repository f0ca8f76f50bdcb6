-- Each theorem with a premise has a store that meets it. The stores are states of short runs, computed from memory in which every word is
-- 0, and one that is lent damaged.
use Rattle.std.specs.Prelude.{ℕ, ◌<◌, ◌≡◌, refl, ◌≢◌, get_or, take}
use mathlib.Core.List.{List, [], ◌∷◌, reverse_aux}
use Rattle.std.proofs.Math.Option.{some}
use Rattle.std.proofs.Common.{sym, ◌∙◌, subst, inl, inr, arith}
use Rattle.kinds.specs.ReadAnswer.{ReadAnswer, None, Key}
use Rattle.kinds.specs.Answer.{Done, Begun, Wrote, Vacuumed, Listed}
use Rattle.words.specs.Sizes.{base, last_id, ID}
use Rattle.words.specs.Lists.{has, keep, first, last, fold, least, greatest, from}
use Rattle.kinds.specs.Versions.{tx, at, version_of, words_of, cell_at, version_at, with_xmax, with_next, locked_for, unlocked, put_cell}
use Rattle.words.specs.Slots.{words, threes, slot_of, push, opened}
use Rattle.words.specs.Slots as S
use Rattle.rules.specs.Memory.{size_r, size_n, head_at, words_at, slot_at}
use Rattle.kinds.specs.Visible.{creator_visible, visible, conflict}
use Rattle.rules.specs.Chain.{chain, look}
use Rattle.rules.specs.Snapshot.{occupied, vacant, horizon_of}
use Rattle.rules.specs.Outcome.{out, refuse, guard, each, fits, store_tests, slot_tests}
use Rattle.rules.specs.Create.{fresh_cells, created, create_out}
use Rattle.rules.specs.Begin.{ids_with, begin_words, begin_out}
use Rattle.rules.specs.Read.{own, answer_at, recorded, sight_of, own_sight, read_row, read_end, read_out}
use Rattle.rules.specs.Write.{lock_base, prepared, head_tests, write_now, write_out}
use Rattle.rules.specs.Commit.{mark_base, commit_tests, publish, commit_out}
use Rattle.rules.specs.Abort.{news, unlock_base, give_back, abort_out}
use Rattle.rules.specs.Vacuum.{relink, reports, swept, vacuum_now, vacuum_out}
use Rattle.kinds.specs.Versions.{reclaimable}
use Rattle.rules.specs.Lookup.{is_key, list_row, find_row, lookup_end, rows_to_read, lookup_out, lookup_all_out}
use Rattle.rules.specs.Run.{begin, step, run}
use Rattle.rules.specs.Exactly.{In, NoneOf}
use Rattle.rules.proofs.Exactly.{in_answer, in_read, accepted_none, not_refused, none_append}
use Rattle.rules.proofs.CommitRefuses.{commit_lines}
use Rattle.rules.proofs.CommitRefusedWhen.{Validating, commit_refused_8_exactly_when}
use Rattle.rules.proofs.CommitAllOrNothing.{published, commit_refused_keeps_every_head_mark_and_lock, commit_accepted_when, commit_accepted_leaves_exactly, commit_refused_for_its_last_write, commit_refused_for_damage_in_its_last_entry}
use Rattle.rules.proofs.RefusedChangesNothing.{refused_call_changes_nothing}
use Rattle.rules.proofs.ReadRefuses.{sight_lines_at, read_refuses_exactly}
use Rattle.rules.proofs.ReadRefusedWhen.{read_refused_10_when_the_chain_is_longer}
use Rattle.rules.proofs.WriteRefuses.{write_refuses_exactly}
use Rattle.rules.proofs.AbortRefuses.{abort_lines, abort_refuses_exactly}
use Rattle.rules.proofs.VacuumRefuses.{vacuum_refuses_exactly}
use Rattle.rules.proofs.VacuumRemoves.{Removed, vacuum_removes_exactly_the_reclaimable, vacuum_of_an_empty_row}
use Rattle.rules.specs.AbortUndoes.{bases}
use Rattle.rules.proofs.AbortUndoes.{abort_unlocks_each_base_it_owns, abort_gives_cells_back_in_write_order}
use Rattle.rules.specs.HandedOut.{FreeList}
use Rattle.rules.proofs.HandedOut.{write_leaves_the_rest_of_the_free_list, cells_are_handed_out_in_order, a_cell_given_back_is_the_next_handed_out}
use Rattle.rules.proofs.WritePrepares.{write_locks_the_base}
use Rattle.rules.specs.LongerWalk.{lent, Same}
use Rattle.rules.proofs.LongerWalk.{Turned, longer_walk_changes_no_answer, longer_walk_turns_10_into}
use Rattle.rules.proofs.CommitPublishes.{commit_moves_each_head, commit_marks_each_base, commit_links_each_new}
use Rattle.rules.specs.Published.{Apart}
use Rattle.rules.proofs.CreateRefuses.{begin_refuses_exactly}
use Rattle.rules.proofs.BeginTakes.{begin_takes_the_lowest_empty_slot}
use Rattle.rules.proofs.LookupRefuses.{lookup_refuses_exactly, lookup_all_refuses_exactly}
use Rattle.rules.proofs.LookupLists.{ListsKey, lookup_lists_exactly_the_rows_with_the_key, lookup_all_lists_exactly_the_rows_with_the_key}
use Rattle.rules.proofs.Terms.{is_fitting}
use Rattle.rules.specs.Along.{Way}
use Rattle.rules.proofs.SharedLines.{slot_lines, row_line, row_lines}
use Rattle.rules.specs.NotEmpty.{zero_mem, writing, updated, locking, overtaken, harmed, behind, idle, ready, Computed}

pub computed : Computed
unfolding run step has keep first last fold least greatest from version_of words_of cell_at put_cell words threes slot_of push opened creator_visible visible conflict chain look occupied vacant horizon_of guard each fits store_tests slot_tests fresh_cells created create_out ids_with begin_words begin_out own answer_at recorded sight_of own_sight read_row read_end read_out lock_base prepared head_tests write_now write_out mark_base commit_tests publish commit_out unlock_base give_back abort_out reclaimable relink reports swept vacuum_now vacuum_out is_key list_row find_row lookup_end rows_to_read lookup_out lookup_all_out
computed =
    record {
      refused_begin = refl;
      fits_creation = refl;
      commits = refl;
      sweeps = refl;
      live = refl;
      sweeps_none = refl;
      bare = refl;
      aborts = refl;
      locking_writes = refl;
      locking_owner = refl;
      locking_free = refl;
      locking_links = (refl, refl);
      overtakes = refl;
      overtaken_writes = refl;
      overtaken_recs = refl;
      overtaken_rows = refl;
      overtaken_heads = (refl, refl);
      harmed_reads = refl;
      harmed_writes = refl;
      harmed_recs = refl;
      harmed_sizes = (refl, refl);
      harmed_heads = (refl, refl);
      one_step = refl;
      two_steps = refl;
      behind_size = refl;
      behind_chain = (refl, refl, refl);
      commits_over = refl;
      looks_up = refl;
      looks_up_some = refl;
      overwrites = refl;
      ready_writes = refl;
      ready_head = refl;
      ready_free = refl;
      begins = refl;
      idle_free = refl;
      idle_links = (refl, refl, refl, refl);
      writes = refl;
      idle_writes = refl;
      writes_back = refl;
      back_writes = refl;
      idle_meta = refl;
    }

-- ---- each law put to its store
pub a_refused_call_changes_nothing : (step begin zero_mem).after ≡ zero_mem
a_refused_call_changes_nothing = refused_call_changes_nothing begin zero_mem (omega (arith, computed.refused_begin))

pub a_commit_is_accepted : NoneOf (commit_lines writing 0 1)
a_commit_is_accepted = commit_accepted_when writing 0 1 computed.commits

pub a_commit_leaves_exactly : commit_out writing 0 1 ≡ published writing 0 1
a_commit_leaves_exactly = commit_accepted_leaves_exactly writing 0 1 a_commit_is_accepted

-- the second write is overtaken: the first is not published either
pub a_commit_is_refused_for_its_last_write : commit_out overtaken 0 1 ≡ refuse overtaken 8 1
a_commit_is_refused_for_its_last_write =
    let h = (commit_refused_8_exactly_when overtaken 0 1 1).0 computed.overtakes in
    let f = computed.overtaken_heads in
    commit_refused_for_its_last_write overtaken 0 1 h.0 (S.write 0 0 1 ∷ []) (S.write 1 0 2) computed.overtaken_writes
    (rw computed.overtaken_recs tt)
    (record { of_store = omega (arith, computed.overtaken_rows); head_is_base = f.0; base_of = omega arith; unmarked = λ n. absurd (n refl) }, tt)
    (omega (arith, computed.overtaken_rows))
    (inl (λ e. omega (arith, f.1, e)))

-- the new cell of the second entry is 0: the first is not published either
pub a_commit_is_refused_for_damage_in_its_last_entry : commit_out harmed 0 1 ≡ refuse harmed 15 0
a_commit_is_refused_for_damage_in_its_last_entry =
    let n = accepted_none in_read harmed _ _ _ (read_refuses_exactly harmed 0 1 0) (λ k x e. not_key k x (sym computed.harmed_reads ∙ e)) in
    let r = (none_append (slot_lines harmed 0 1) (row_line harmed 0 ∷ [])).0 ((none_append (row_lines harmed 0 1 0) (sight_lines_at harmed 0 1 0)).0 n).0 in
    let f = computed.harmed_heads in
    let g = computed.harmed_sizes in
    let v : Validating harmed 0 1 = record { earlier = r.0; writes = λ e. not_empty (S.write 0 0 1) (S.write 1 0 0 ∷ []) (sym computed.harmed_writes ∙ e) } in
    commit_refused_for_damage_in_its_last_entry harmed 0 1 v (S.write 0 0 1 ∷ []) (S.write 1 0 0) computed.harmed_writes
    (rw computed.harmed_recs tt)
    (rw computed.harmed_writes (
      record { of_store = omega (arith, g.0); head_is_base = f.0; base_of = omega arith; unmarked = λ n. absurd (n refl) },
      (record { of_store = omega (arith, g.0); head_is_base = f.1; base_of = omega arith; unmarked = λ n. absurd (n refl) }, tt),
    ))
    (record { low = omega arith; high = omega (arith, g.1) }, tt)
    (λ c. omega (arith, c.low))
  where
    not_key : (k x : ℕ) → Key 70 ≡ ReadAnswer.Refused k x → ⊥
    not_key k x e = let q : ◌≡◌ {A = ℕ} 0 1 = cc in omega arith

    not_empty : (w : S.Write) (l : List S.Write) → w ∷ l ≡ [] → ⊥
    not_empty w l e = let q : ◌≡◌ {A = ℕ} 0 1 = cc in omega arith

-- one version is removed
pub a_vacuum_removes : Removed updated 0 last_id 1
a_vacuum_removes =
    vacuum_removes_exactly_the_reclaimable updated 0 last_id 1
    (accepted_none in_answer updated _ _ _ (vacuum_refuses_exactly updated 0 last_id 1) (λ k x e. not_refused (Vacuumed 1 (Key 75)) refl k x (sym computed.sweeps ∙ e)))
    (λ e. omega (arith, computed.live, e))

pub a_vacuum_of_an_empty_row : vacuum_out updated 1 last_id 0 ≡ out (Vacuumed 0 None) [] updated
a_vacuum_of_an_empty_row =
    vacuum_of_an_empty_row updated 1 last_id 0
    (accepted_none in_answer updated _ _ _ (vacuum_refuses_exactly updated 1 last_id 0) (λ k x e. not_refused (Vacuumed 0 None) refl k x (sym computed.sweeps_none ∙ e)))
    computed.bare

an_abort_is_accepted : NoneOf (abort_lines locking 0 2)
an_abort_is_accepted = accepted_none in_answer locking _ _ _ (abort_refuses_exactly locking 0 2) (λ k x e. not_refused Done refl k x (sym computed.aborts ∙ e))

-- the base is unlocked
pub an_abort_unlocks : version_at (abort_out locking 0 2).after.cells 1 ≡ unlocked (version_at locking.cells 1)
an_abort_unlocks =
    abort_unlocks_each_base_it_owns locking 0 2 an_abort_is_accepted 1
    (λ i. not_in (subst (λ (l : List S.Write). In 1 (news l)) computed.locking_writes i))
    (subst (λ (l : List S.Write). In 1 (bases l)) (sym computed.locking_writes) (inl refl))
    (record { some = λ e. omega (arith, e); owner = computed.locking_owner })
  where
    not_in : In {A = ℕ} 1 (2 ∷ []) → ⊥
    not_in (inl e) = omega (arith, e)
    not_in (inr i) = i

-- the cell is the next handed out again
pub an_abort_gives_back : FreeList (abort_out locking 0 2).after (2 ∷ 3 ∷ 4 ∷ [])
an_abort_gives_back =
    let l = computed.locking_links in
    subst (λ (w : List S.Write). FreeList (abort_out locking 0 2).after (reverse_aux (news w) (3 ∷ 4 ∷ []))) computed.locking_writes
    (abort_gives_cells_back_in_write_order locking 0 2 an_abort_is_accepted (3 ∷ 4 ∷ [])
    (computed.locking_free, ((λ e. omega (arith, e)), (l.0, ((λ e. omega (arith, e)), l.1))))
    (rw computed.locking_writes ((λ i. i), tt))
    (λ c i j. apart c (subst (λ (w : List S.Write). In c (news w)) computed.locking_writes i) j))
  where
    apart : (c : ℕ) → In c (2 ∷ []) → In c (3 ∷ 4 ∷ []) → ⊥
    apart c (inl e) (inl f) = omega (arith, e, f)
    apart c (inl e) (inr (inl f)) = omega (arith, e, f)
    apart c (inl e) (inr (inr f)) = f
    apart c (inr i) j = i

pub a_creation_hands_out_in_order : FreeList (created zero_mem 4 2) (from 1 4)
a_creation_hands_out_in_order = cells_are_handed_out_in_order zero_mem 4 2 ((is_fitting zero_mem 2 4).yes computed.fits_creation)

pub a_cell_given_back_is_handed_out : (write_out (give_back 2 idle) 0 1 0 (some 5)).answer ≡ Wrote (at 2)
a_cell_given_back_is_handed_out =
    a_cell_given_back_is_the_next_handed_out idle 2 0 1 0 (some 5) (omega (arith, computed.idle_meta))
    (accepted_none in_answer (give_back 2 idle) _ _ _ (write_refuses_exactly (give_back 2 idle) 0 1 0 (some 5)) (λ k x e. not_refused (Wrote (at 2)) refl k x (sym computed.writes_back ∙ e)))
    (rw computed.back_writes tt)

-- the chain is 2, 1: longer than one step, and the first of it is not seen
pub a_chain_is_too_long : (read_out (lent 1 behind) 0 2 0).answer ≡ ReadAnswer.Refused 10 0
a_chain_is_too_long =
    let c = computed.behind_chain in
    let w : Way (size_n behind) (version_at behind.cells) (head_at behind 0) (2 ∷ 1 ∷ []) 0 =
    record { along = (c.0, (c.1, c.2)); cells = (record { low = omega arith; high = omega (arith, computed.behind_size) }, (record { low = omega arith; high = omega (arith, computed.behind_size) }, tt)) } in
    let i = read_refused_10_when_the_chain_is_longer (lent 1 behind) 0 2 0 (2 ∷ 1 ∷ []) w in
    i.1 (i.0 computed.one_step)

pub a_longer_walk_changes_nothing : Same (read_out (lent 3 behind) 0 2 0) (read_out (lent 2 behind) 0 2 0)
a_longer_walk_changes_nothing =
    longer_walk_changes_no_answer behind 0 2 0 2 3 (omega arith)
    (λ e.
    let g : Key 70 ≡ ReadAnswer.Refused 10 0 = sym computed.two_steps ∙ e in
    let q : ◌≡◌ {A = ℕ} 0 1 = cc in
    omega arith)

pub a_10_turns_into_an_answer : Turned behind 0 2 0 1 2 (omega arith) (read_out (lent 2 behind) 0 2 0).answer × ((read_out (lent 2 behind) 0 2 0).answer ≡ Key 70)
a_10_turns_into_an_answer = (longer_walk_turns_10_into behind 0 2 0 1 2 (omega arith) computed.one_step, computed.two_steps)

pub a_begin_takes_the_lowest_empty_slot : (j : ℕ) → j < vacant (take base.slots idle.slots) → get_or (words_at idle j) ID 0 ≢ 0
a_begin_takes_the_lowest_empty_slot = begin_takes_the_lowest_empty_slot idle (accepted_none in_answer idle _ _ _ (begin_refuses_exactly idle) (λ k x e. not_refused (Begun 1 (tx 2)) refl k x (sym computed.begins ∙ e)))

-- the first free cell is taken, the rest of the free list stays
pub a_write_leaves_the_rest : FreeList (write_out idle 0 1 0 (some 5)).after (2 ∷ 3 ∷ 4 ∷ [])
a_write_leaves_the_rest =
    let l = computed.idle_links in
    write_leaves_the_rest_of_the_free_list idle 0 1 0 (some 5)
    (accepted_none in_answer idle _ _ _ (write_refuses_exactly idle 0 1 0 (some 5)) (λ k x e. not_refused (Wrote (at 1)) refl k x (sym computed.writes ∙ e)))
    (rw computed.idle_writes tt) 1 (2 ∷ 3 ∷ 4 ∷ [])
    (computed.idle_free, ((λ e. omega (arith, e)), (l.0, ((λ e. omega (arith, e)), (l.1, ((λ e. omega (arith, e)), (l.2, ((λ e. omega (arith, e)), l.3))))))))
    not_in
  where
    not_in : In {A = ℕ} 1 (2 ∷ 3 ∷ 4 ∷ []) → ⊥
    not_in (inl e) = omega (arith, e)
    not_in (inr (inl e)) = omega (arith, e)
    not_in (inr (inr (inl e))) = omega (arith, e)
    not_in (inr (inr (inr i))) = i

over : NoneOf (commit_lines locking 0 2)
over = commit_accepted_when locking 0 2 computed.commits_over

-- row 0's head is the new cell, its base is marked and unlocked, the new cell is linked to it
pub a_commit_publishes : (head_at (commit_out locking 0 2).after 0 ≡ 2) × (version_at (commit_out locking 0 2).after.cells 1 ≡ unlocked (with_xmax (version_at locking.cells 1) 2)) × (version_at (commit_out locking 0 2).after.cells 2 ≡ with_next (version_at locking.cells 2) 1)
a_commit_publishes =
    let w = S.write 0 1 2 in
    let apart : Apart (slot_at locking 0).writes = rw computed.locking_writes ((λ e. omega (arith, e)), tt, tt) in
    let here : In w (slot_at locking 0).writes = rw computed.locking_writes (inl refl) in (
      commit_moves_each_head locking 0 2 over 0 w (record { before = []; after = []; parts = computed.locking_writes; of_row = refl; none = tt }),
      commit_marks_each_base locking 0 2 over apart w here (λ e. omega (arith, e)),
      commit_links_each_new locking 0 2 over apart w here,
    )

pub a_refused_commit_keeps_every_head : (r : ℕ) → head_at (commit_out overtaken 0 1).after r ≡ head_at overtaken r
a_refused_commit_keeps_every_head = (commit_refused_keeps_every_head_mark_and_lock overtaken 0 1 8 1 computed.overtakes).0

pub a_lookup_lists_the_key : ListsKey locking 0 75 1 (from 0 (size_r locking)) (lookup_all_out locking 0 2 75 1)
a_lookup_lists_the_key =
    lookup_all_lists_exactly_the_rows_with_the_key locking 0 2 75 1
    (accepted_none in_answer locking _ _ _ (lookup_all_refuses_exactly locking 0 2 75 1) (λ k x e. not_refused (Listed 1) refl k x (sym computed.looks_up ∙ e)))

pub a_lookup_of_candidates_lists_the_key : ListsKey locking 0 75 1 (rows_to_read locking (slot_at locking 0).writes (1 ∷ 0 ∷ 1 ∷ [])) (lookup_out locking 0 2 75 (1 ∷ 0 ∷ 1 ∷ []) 1)
a_lookup_of_candidates_lists_the_key =
    lookup_lists_exactly_the_rows_with_the_key locking 0 2 75 (1 ∷ 0 ∷ 1 ∷ []) 1
    (accepted_none in_answer locking _ _ _ (lookup_refuses_exactly locking 0 2 75 (1 ∷ 0 ∷ 1 ∷ []) 1) (λ k x e. not_refused (Listed 1) refl k x (sym computed.looks_up_some ∙ e)))

-- the head is locked for the writer
pub a_write_locks_the_base : version_at (write_out ready 0 2 0 (some 75)).after.cells (head_at ready 0) ≡ locked_for (version_at ready.cells (head_at ready 0)) 2
a_write_locks_the_base =
    write_locks_the_base ready 0 2 0 (some 75)
    (accepted_none in_answer ready _ _ _ (write_refuses_exactly ready 0 2 0 (some 75)) (λ k x e. not_refused (Wrote (at 2)) refl k x (sym computed.overwrites ∙ e)))
    (rw computed.ready_writes tt)
    (λ e. omega (arith, e, computed.ready_head))
    (λ e. omega (arith, e, computed.ready_head, computed.ready_free))
