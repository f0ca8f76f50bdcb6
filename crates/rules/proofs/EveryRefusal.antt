-- Every refusal of every call: one table for each call, in the paper's order, and one theorem. "Order: sizes and clock, slot, owner,
-- counts, row, then the call's steps as told." Then 4, 5, 1, 3 and 2, each alone; 6 stands with 15.
use Rattle.std.specs.Prelude.{ℕ, ◌≤◌, ◌<◌, List, [], ◌∷◌, ◌++◌, ◌≡◌, refl, ◌≢◌, ◌↔◌, ◌⊎◌}
use Rattle.std.proofs.Common.{subst, inl, inr, arith}
use Rattle.std.proofs.Math.Logic.Iff
use Rattle.words.specs.Sizes.{Sizes, last_id}
use Rattle.rules.specs.Numbers.{bad_size, clock_spent, no_free_slot, bad_slot, not_owner}
use Rattle.rules.proofs.Theory.Cases.{by_le}
use Rattle.rules.specs.Memory.{Mem, size_r, clock, slot_at}
use Rattle.rules.specs.Lookup.{own_rows, rows_to_read}
use Rattle.words.specs.Lists.{from}
use Rattle.rules.specs.Run.{Call, create, begin, read, write, commit, abort, vacuum, lookup, lookup_all, step}
use Rattle.rules.specs.Exactly.{Line, Refuses, Lacks, each_of, under}
use Rattle.rules.proofs.Exactly.{FirstLine, in_answer, in_read, refused_iff, refuses_first_line, refuses_before, lacks_append, lacks_each, lacks_under}
use Rattle.rules.specs.Terms.{Fitting, AllOccupied}
use Rattle.rules.proofs.Terms.{StoreDamaged}
use Rattle.rules.proofs.SharedLines.{slot_lines, id_at, row_line}
use Rattle.rules.proofs.CreateRefuses.{create_lines, create_refuses_exactly, begin_lines, begin_refuses_exactly}
use Rattle.rules.proofs.ReadRefuses.{sight_lines_at, read_lines, read_refuses_exactly}
use Rattle.rules.proofs.WriteRefuses.{now_lines, write_lines, write_refuses_exactly}
use Rattle.rules.proofs.CommitRefuses.{record_lines, base_lines, new_lines, valid_lines, commit_lines, commit_refuses_exactly}
use Rattle.rules.proofs.AbortRefuses.{undo_lines, abort_lines, abort_refuses_exactly}
use Rattle.rules.proofs.VacuumRefuses.{vacuum_lines, vacuum_refuses_exactly}
use Rattle.rules.proofs.LookupRefuses.{find_lines, find_lacks, candidate_lines, own_row_lines, lookup_lines, lookup_refuses_exactly, lookup_all_lines, lookup_all_refuses_exactly}
use Rattle.rules.specs.EveryRefusal.{RefusedAs, NamesSlot}

module _ {z : Sizes} where
  abbrev pub table_of : Call → Mem z → List Line
  table_of (create n r) m = create_lines m n r
  table_of begin m = begin_lines m
  table_of (read s id row) m = read_lines m s id row
  table_of (write s id row v) m = write_lines m s id row
  table_of (commit s id) m = commit_lines m s id
  table_of (abort s id) m = abort_lines m s id
  table_of (vacuum row request room) m = vacuum_lines m row request room
  table_of (lookup s id key cands room) m = lookup_lines m s id key cands room
  table_of (lookup_all s id key room) m = lookup_all_lines m s id key room

  pub refused_exactly_by_the_table : (c : Call) (m : Mem z) (k x : ℕ) → RefusedAs (step c m).reply k x ↔ Refuses (table_of c m) k x
  unfolding step
  refused_exactly_by_the_table (create n r) m k x = refused_iff in_answer m _ _ _ (create_refuses_exactly m n r) k x
  refused_exactly_by_the_table begin m k x = refused_iff in_answer m _ _ _ (begin_refuses_exactly m) k x
  refused_exactly_by_the_table (read s id row) m k x = refused_iff in_read m _ _ _ (read_refuses_exactly m s id row) k x
  refused_exactly_by_the_table (write s id row v) m k x = refused_iff in_answer m _ _ _ (write_refuses_exactly m s id row v) k x
  refused_exactly_by_the_table (commit s id) m k x = refused_iff in_answer m _ _ _ (commit_refuses_exactly m s id) k x
  refused_exactly_by_the_table (abort s id) m k x = refused_iff in_answer m _ _ _ (abort_refuses_exactly m s id) k x
  refused_exactly_by_the_table (vacuum row request room) m k x = refused_iff in_answer m _ _ _ (vacuum_refuses_exactly m row request room) k x
  refused_exactly_by_the_table (lookup s id key cands room) m k x = refused_iff in_answer m _ _ _ (lookup_refuses_exactly m s id key cands room) k x
  refused_exactly_by_the_table (lookup_all s id key room) m k x = refused_iff in_answer m _ _ _ (lookup_all_refuses_exactly m s id key room) k x

  -- with the order said: a line of the call's table applies, and no earlier refusal applies
  pub refused_exactly_by_the_first_line : (c : Call) (m : Mem z) (k x : ℕ) → RefusedAs (step c m).reply k x ↔ FirstLine k x (table_of c m)
  refused_exactly_by_the_first_line c m k x = Iff.trans (refused_exactly_by_the_table c m k x) (refuses_first_line k x (table_of c m))

module _ {z : Sizes} (m : Mem z) where
  -- what such a call's table has after the slot, the owner and the counts
  abbrev rest_of : Call → List Line
  rest_of (create n r) = []
  rest_of begin = []
  rest_of (read s id row) = row_line m row ∷ sight_lines_at m s id row
  rest_of (write s id row v) = row_line m row ∷ now_lines m s id row
  rest_of (commit s id) = under ((slot_at m s).writes ≢ []) (valid_lines m (slot_at m s))
  rest_of (abort s id) = each_of (undo_lines m) (slot_at m s).writes
  rest_of (vacuum row request room) = []
  rest_of (lookup s id key cands room) = each_of (candidate_lines m) cands ++ (find_lines m (slot_at m s) key room [] [] (rows_to_read m (slot_at m s).writes cands) ++ each_of (own_row_lines m) (own_rows (slot_at m s).writes))
  rest_of (lookup_all s id key room) = find_lines m (slot_at m s) key room [] [] (from 0 (size_r m)) ++ []

  slot_first : (c : Call) (s id : ℕ) → NamesSlot c s id → table_of c m ≡ slot_lines m s id ++ rest_of c
  slot_first (create n r) s id h = absurd h
  slot_first begin s id h = absurd h
  slot_first (read s' id' row) s id h = rw (h.0, h.1)
  slot_first (write s' id' row v) s id h = rw (h.0, h.1)
  slot_first (commit s' id') s id h = rw (h.0, h.1)
  slot_first (abort s' id') s id h = rw (h.0, h.1)
  slot_first (vacuum row request room) s id h = absurd h
  slot_first (lookup s' id' key cands room) s id h = rw (h.0, h.1)
  slot_first (lookup_all s' id' key room) s id h = rw (h.0, h.1)

  rest_lacks : (c : Call) (k : ℕ) → k < 6 → Lacks k (rest_of c)
  rest_lacks (create n r) k b = tt
  rest_lacks begin k b = tt
  rest_lacks (read s id row) k b = ((λ e. omega (arith, e)), ((λ e. omega (arith, e)), ((λ e. omega (arith, e)), ((λ e. omega (arith, e)), ((λ e. omega (arith, e)), tt)))))
  rest_lacks (write s id row v) k b = ((λ e. omega (arith, e)), ((λ e. omega (arith, e)), ((λ e. omega (arith, e)), ((λ e. omega (arith, e)), ((λ e. omega (arith, e)), ((λ e. omega (arith, e)), ((λ e. omega (arith, e)), ((λ e. omega (arith, e)), tt))))))))
  rest_lacks (commit s id) k b =
      let t = slot_at m s in
      lacks_under k (t.writes ≢ []) (valid_lines m t)
      (lacks_append k (each_of (record_lines m t) t.recs ++ each_of (base_lines m) t.writes) (each_of (new_lines m) t.writes)
      (lacks_append k (each_of (record_lines m t) t.recs) (each_of (base_lines m) t.writes)
      (lacks_each k (record_lines m t) (λ q. ((λ e. omega (arith, e)), ((λ e. omega (arith, e)), tt))) t.recs)
      (lacks_each k (base_lines m) (λ w. ((λ e. omega (arith, e)), ((λ e. omega (arith, e)), ((λ e. omega (arith, e)), ((λ e. omega (arith, e)), tt))))) t.writes))
      (lacks_each k (new_lines m) (λ w. ((λ e. omega (arith, e)), tt)) t.writes))
  rest_lacks (abort s id) k b = lacks_each k (undo_lines m) (λ w. ((λ e. omega (arith, e)), ((λ e. omega (arith, e)), tt))) (slot_at m s).writes
  rest_lacks (vacuum row request room) k b = tt
  rest_lacks (lookup s id key cands room) k b =
      let rows = find_lines m (slot_at m s) key room [] [] (rows_to_read m (slot_at m s).writes cands) in
      let late = each_of (own_row_lines m) (own_rows (slot_at m s).writes) in
      lacks_append k (each_of (candidate_lines m) cands) (rows ++ late) (lacks_each k (candidate_lines m) (λ r. ((λ e. omega (arith, e)), tt)) cands)
      (lacks_append k rows late (find_lacks m (slot_at m s) key room k (omega arith) (rows_to_read m (slot_at m s).writes cands) [] []) (lacks_each k (own_row_lines m) (λ r. ((λ e. omega (arith, e)), tt)) (own_rows (slot_at m s).writes)))
  rest_lacks (lookup_all s id key room) k b = lacks_append k (find_lines m (slot_at m s) key room [] [] (from 0 (size_r m))) [] (find_lacks m (slot_at m s) key room k (omega arith) (from 0 (size_r m)) [] []) tt

  of_slot : (c : Call) (s id k x : ℕ) → NamesSlot c s id → k < 6 → RefusedAs (step c m).reply k x ↔ Refuses (slot_lines m s id) k x
  of_slot c s id k x h b =
      Iff.trans (refused_exactly_by_the_table c m k x)
      (Iff.trans (subst (λ (l : List Line). Refuses (table_of c m) k x ↔ Refuses l k x) (slot_first c s id h) (λ q. q, λ q. q)) (refuses_before k x (slot_lines m s id) (rest_of c) (rest_lacks c k b)))

  -- the store is sound: its sizes fit and its clock is not 0
  abbrev pub Sound : Type 0
  Sound = StoreDamaged m → ⊥

  -- 4: "slot 16 or more"
  pub refused_4_exactly_when : (c : Call) (s id x : ℕ) → NamesSlot c s id → RefusedAs (step c m).reply bad_slot x ↔ (Sound × (z.slots ≤ s) × (x ≡ 0))
  refused_4_exactly_when c s id x h = Iff.trans (of_slot c s id bad_slot x h (omega arith)) (to, λ q. inr (q.0, inl (q.1, refl, q.2)))
    where
      to : Refuses (slot_lines m s id) bad_slot x → Sound × (z.slots ≤ s) × (x ≡ 0)
      to (inl q) = absurd (omega (arith, q.1))
      to (inr (a, inl q)) = (a, q.0, q.2)
      to (inr (_, inr (_, inl q))) = absurd (omega (arith, q.1))
      to (inr (_, inr (_, inr (_, inl q)))) = absurd (omega (arith, q.1))
      to (inr (_, inr (_, inr (_, inr q)))) = absurd q.1

  -- 5: "presented id is 0 or not the slot's", with the "id found"
  pub refused_5_exactly_when : (c : Call) (s id x : ℕ) → NamesSlot c s id → RefusedAs (step c m).reply not_owner x ↔ (Sound × (s < z.slots) × ((id ≡ 0) ⊎ (id ≢ id_at m s)) × (x ≡ id_at m s))
  refused_5_exactly_when c s id x h = Iff.trans (of_slot c s id not_owner x h (omega arith)) (to, λ q. inr (q.0, inr (λ b. omega (arith, q.1), inl (q.2, refl, q.3))))
    where
      to : Refuses (slot_lines m s id) not_owner x → Sound × (s < z.slots) × ((id ≡ 0) ⊎ (id ≢ id_at m s)) × (x ≡ id_at m s)
      to (inl q) = absurd (omega (arith, q.1))
      to (inr (_, inl q)) = absurd (omega (arith, q.1))
      to (inr (a, inr (b, inl q))) = (a, by_le z.slots s (λ y. absurd (b y)) (λ y. y), q.0, q.2)
      to (inr (_, inr (_, inr (_, inl q)))) = absurd (omega (arith, q.1))
      to (inr (_, inr (_, inr (_, inr q)))) = absurd q.1

  -- ---- 1, 3 and 2
  -- 1: "R or N out of range, or a lent length too short for them"
  pub create_refused_1_exactly_when : (n r x : ℕ) → RefusedAs (step (create n r) m).reply bad_size x ↔ ((Fitting m r n → ⊥) × (x ≡ 0))
  create_refused_1_exactly_when n r x = Iff.trans (refused_exactly_by_the_table (create n r) m bad_size x) (to, λ q. inl (q.0, refl, q.1))
    where
      to : Refuses (create_lines m n r) bad_size x → (Fitting m r n → ⊥) × (x ≡ 0)
      to (inl q) = (q.0, q.2)
      to (inr q) = absurd q.1

  -- 3: "begin, 16 occupied"
  pub begin_refused_3_exactly_when : (x : ℕ) → RefusedAs (step begin m).reply no_free_slot x ↔ (Sound × AllOccupied z.slots m.slots × (x ≡ 0))
  begin_refused_3_exactly_when x = Iff.trans (refused_exactly_by_the_table begin m no_free_slot x) (to, λ q. inr (q.0, inl (q.1, refl, q.2)))
    where
      to : Refuses (begin_lines m) no_free_slot x → Sound × AllOccupied z.slots m.slots × (x ≡ 0)
      to (inl q) = absurd (omega (arith, q.1))
      to (inr (a, inl q)) = (a, q.0, q.2)
      to (inr (_, inr (_, inl q))) = absurd (omega (arith, q.1))
      to (inr (_, inr (_, inr q))) = absurd q.1

  -- 2: "begin, clock is 2^64-1", "3 before 2"
  pub begin_refused_2_exactly_when : (x : ℕ) → RefusedAs (step begin m).reply clock_spent x ↔ (Sound × (AllOccupied z.slots m.slots → ⊥) × (clock m ≡ last_id) × (x ≡ 0))
  begin_refused_2_exactly_when x = Iff.trans (refused_exactly_by_the_table begin m clock_spent x) (to, λ q. inr (q.0, inr (q.1, inl (q.2, refl, q.3))))
    where
      to : Refuses (begin_lines m) clock_spent x → Sound × (AllOccupied z.slots m.slots → ⊥) × (clock m ≡ last_id) × (x ≡ 0)
      to (inl q) = absurd (omega (arith, q.1))
      to (inr (_, inl q)) = absurd (omega (arith, q.1))
      to (inr (a, inr (b, inl q))) = (a, b, q.0, q.2)
      to (inr (_, inr (_, inr q))) = absurd q.1
