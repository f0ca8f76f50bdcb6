-- A commit's refusals 9 and 8, each alone: 9 names the first conflicting record, in record order; 8 the first write whose head or base
-- test fails, in write order.
use Rattle.std.specs.Prelude.{ℕ, ◌≤◌, ◌<◌, List, [], ◌∷◌, ◌++◌, ◌≡◌, refl, ◌≢◌, ◌↔◌, ◌⊎◌}
use Rattle.std.proofs.Math.Logic.Iff
use Rattle.std.proofs.Common.{inl, inr, arith}
use Rattle.kinds.specs.Answer.{Answer}
use Rattle.words.specs.Sizes.{Sizes}
use Rattle.rules.specs.Numbers.{write_conflict, read_conflict}
use Rattle.rules.proofs.Theory.Cases.{by_bool, by_eq, by_le}
use Rattle.kinds.specs.Versions.{version_at}
use Rattle.words.specs.Slots.{Write, Rec, Slot}
use Rattle.rules.specs.Memory.{Mem, size_r, size_n, head_at, slot_at}
use Rattle.rules.specs.Outcome.{is_cell}
use Rattle.rules.specs.Commit.{commit_out}
use Rattle.rules.specs.Exactly.{All, Line, Refuses, NoneOf, each_of, Lacks, under}
use Rattle.rules.proofs.Exactly.{all_map, FirstOf, in_answer, refused_iff, refuses_past, refuses_before, refuses_each, refuses_under, none_each, lacks_each}
use Rattle.rules.specs.Terms.{CellOf, Conflicts}
use Rattle.rules.proofs.Terms.{is_cell_lem}
use Rattle.rules.proofs.SharedLines.{slot_lines, slots_lack}
use Rattle.rules.proofs.CommitRefuses.{record_lines, base_lines, new_lines, valid_lines, commit_refuses_exactly}

module _ {z : Sizes} (m : Mem z) (s id : ℕ) where
  abbrev t : Slot
  t = slot_at m s

  -- a record that stands: its cell is of the store and nothing conflicts
  pub record Stands (q : Rec) : Type 0 where
    pub cell : CellOf (size_n m) q.cell
    pub agrees : Conflicts t (version_at m.cells q.cell) q.xmin → ⊥

  -- q is the first record that does not stand, and it conflicts
  pub record FirstConflict (x : ℕ) : Type 0 where
    pub before : List Rec
    pub conflicting : Rec
    pub after : List Rec
    pub parts : t.recs ≡ before ++ conflicting ∷ after
    pub stand : All Stands before
    pub cell : CellOf (size_n m) conflicting.cell
    pub conflicts : Conflicts t (version_at m.cells conflicting.cell) conflicting.xmin
    pub names : x ≡ conflicting.row

  -- a write that can be published: its row is of the store, the head is its base, and a nonzero base has xmax 0
  pub record Ready (w : Write) : Type 0 where
    pub of_store : w.row < size_r m
    pub head_is_base : head_at m w.row ≡ w.base
    pub base_of : w.base ≤ size_n m
    pub unmarked : w.base ≢ 0 → (version_at m.cells w.base).xmax.0 ≡ 0

  -- "head or base test fails"
  abbrev pub HeadOrBase : Write → Type 0
  HeadOrBase w = (head_at m w.row ≢ w.base) ⊎ ((head_at m w.row ≡ w.base) × (w.base ≤ size_n m) × (w.base ≢ 0) × ((version_at m.cells w.base).xmax.0 ≢ 0))

  pub record FirstUnready (x : ℕ) : Type 0 where
    pub before : List Write
    pub failing : Write
    pub after : List Write
    pub parts : t.writes ≡ before ++ failing ∷ after
    pub ready : All Ready before
    pub of_store : failing.row < size_r m
    pub fails : HeadOrBase failing
    pub names : x ≡ failing.row

  -- no earlier refusal applies, and there are writes
  pub record Validating : Type 0 where
    pub earlier : NoneOf (slot_lines m s id)
    pub writes : t.writes ≢ []

  pub cell_of : (c : ℕ) → ((CellOf (size_n m) c → ⊥) → ⊥) → CellOf (size_n m) c
  cell_of c n = by_bool (is_cell (size_n m) c) (λ e. (is_cell_lem (size_n m) c).yes e) (λ e. absurd (n ((is_cell_lem (size_n m) c).no e)))

  pub stands : (q : Rec) → NoneOf (record_lines m t q) → Stands q
  stands q n = record { cell = cell_of q.cell n.0; agrees = n.1.0 }

  pub stood : (q : Rec) → Stands q → NoneOf (record_lines m t q)
  stood q h = (λ n. n h.cell, (h.agrees, tt))

  is_zero : (a : ℕ) → (a ≢ 0 → ⊥) → a ≡ 0
  is_zero a n = by_eq a 0 (λ e. e) (λ e. absurd (n e))

  pub is_ready : (w : Write) → NoneOf (base_lines m w) → Ready w
  is_ready w n =
      record {
        of_store = by_le (size_r m) w.row (λ b. absurd (n.0 b)) (λ b. b);
        head_is_base = by_eq (head_at m w.row) w.base (λ e. e) (λ e. absurd (n.1.0 e));
        base_of = by_le w.base (size_n m) (λ b. b) (λ b. absurd (n.1.1.0 b));
        unmarked = λ b. is_zero _ (λ e. n.1.1.1.0 (b, e));
      }

  pub ready_is : (w : Write) → Ready w → NoneOf (base_lines m w)
  ready_is w h = (λ b. omega (arith, h.of_store), (λ e. e h.head_is_base, (λ b. omega (arith, h.base_of), (λ q. q.1 (h.unmarked q.0), tt))))

  -- a number of the lines under "Otherwise validate"
  of_commit : (k x : ℕ) → (6 < k) × (k < 15) → ((commit_out m s id).answer ≡ Answer.Refused k x) ↔ (Validating × Refuses (valid_lines m t) k x)
  of_commit k x b =
      Iff.trans (refused_iff in_answer m _ _ _ (commit_refuses_exactly m s id) k x)
      (Iff.trans (refuses_past k x (slot_lines m s id) (under (t.writes ≢ []) (valid_lines m t)) (slots_lack m s id k b)) (to, from))
    where
      to : NoneOf (slot_lines m s id) × Refuses (under (t.writes ≢ []) (valid_lines m t)) k x → Validating × Refuses (valid_lines m t) k x
      to q =
          let r = (refuses_under (t.writes ≢ []) (valid_lines m t) k x).0 q.1 in
          (record { earlier = q.0; writes = r.0 }, r.1)

      from : Validating × Refuses (valid_lines m t) k x → NoneOf (slot_lines m s id) × Refuses (under (t.writes ≢ []) (valid_lines m t)) k x
      from q = (q.0.earlier, (refuses_under (t.writes ≢ []) (valid_lines m t) k x).1 (q.0.writes, q.1))

  abbrev rec_lines : List Line
  rec_lines = each_of (record_lines m t) t.recs

  abbrev whole_lines : List Line
  whole_lines = each_of (base_lines m) t.writes

  news_lack : (k : ℕ) → k < 15 → Lacks k (each_of (new_lines m) t.writes)
  news_lack k b = lacks_each k (new_lines m) (λ w. (λ e. omega (arith, b), tt)) t.writes

  bases_lack_9 : Lacks read_conflict whole_lines
  bases_lack_9 = lacks_each read_conflict (base_lines m) (λ w. (λ e. omega arith, (λ e. omega arith, (λ e. omega arith, (λ e. omega arith, tt))))) t.writes

  recs_lack_8 : Lacks write_conflict rec_lines
  recs_lack_8 = lacks_each write_conflict (record_lines m t) (λ q. (λ e. omega arith, (λ e. omega arith, tt))) t.recs

  conflict_of : (x : ℕ) → FirstOf read_conflict x (record_lines m t) t.recs ↔ FirstConflict x
  conflict_of x = (λ q. to q q.refuses, from)
    where
      to : (q : FirstOf read_conflict x (record_lines m t) t.recs) → Refuses (record_lines m t q.member) read_conflict x → FirstConflict x
      to q (inl r) = absurd (omega (arith, r.1))
      to q (inr (c, inl r)) =
          record {
            before = q.before;
            conflicting = q.member;
            after = q.after;
            parts = q.parts;
            stand = all_map _ Stands stands q.before q.fine;
            cell = cell_of q.member.cell c;
            conflicts = r.0;
            names = r.2;
          }
      to q (inr (c, inr r)) = absurd r.1

      from : FirstConflict x → FirstOf read_conflict x (record_lines m t) t.recs
      from q =
          record {
            before = q.before;
            member = q.conflicting;
            after = q.after;
            parts = q.parts;
            fine = all_map Stands _ stood q.before q.stand;
            refuses = inr (λ n. n q.cell, inl (q.conflicts, refl, q.names));
          }

  unready_of : (x : ℕ) → FirstOf write_conflict x (base_lines m) t.writes ↔ FirstUnready x
  unready_of x = (λ q. to q q.refuses, λ q. from q q.fails)
    where
      told : (q : FirstOf write_conflict x (base_lines m) t.writes) → (size_r m ≤ q.member.row → ⊥) → HeadOrBase q.member → x ≡ q.member.row → FirstUnready x
      told q a h e =
          record {
            before = q.before;
            failing = q.member;
            after = q.after;
            parts = q.parts;
            ready = all_map _ Ready is_ready q.before q.fine;
            of_store = by_le (size_r m) q.member.row (λ b. absurd (a b)) (λ b. b);
            fails = h;
            names = e;
          }

      to : (q : FirstOf write_conflict x (base_lines m) t.writes) → Refuses (base_lines m q.member) write_conflict x → FirstUnready x
      to q (inl r) = absurd (omega (arith, r.1))
      to q (inr (a, inl r)) = told q a (inl r.0) r.2
      to q (inr (_, inr (_, inl r))) = absurd (omega (arith, r.1))
      to q (inr (a, inr (b, inr (c, inl r)))) =
          told q a
          (inr (
            by_eq (head_at m q.member.row) q.member.base (λ e. e) (λ e. absurd (b e)),
            by_le q.member.base (size_n m) (λ e. e) (λ e. absurd (c e)),
            r.0.0,
            r.0.1,
          ))
          r.2
      to q (inr (_, inr (_, inr (_, inr r)))) = absurd r.1

      told_back : (q : FirstUnready x) → Refuses (base_lines m q.failing) write_conflict x → FirstOf write_conflict x (base_lines m) t.writes
      told_back q r = record { before = q.before; member = q.failing; after = q.after; parts = q.parts; fine = all_map Ready _ ready_is q.before q.ready; refuses = r }

      from : (q : FirstUnready x) → HeadOrBase q.failing → FirstOf write_conflict x (base_lines m) t.writes
      from q (inl h) = told_back q (inr (λ b. omega (arith, q.of_store), inl (h, refl, q.names)))
      from q (inr h) = told_back q (inr (λ b. omega (arith, q.of_store), inr (λ e. e h.0, inr (λ b. omega (arith, h.1), inl ((h.2, h.3), refl, q.names)))))

  nine : (x : ℕ) → Refuses (valid_lines m t) read_conflict x ↔ FirstConflict x
  nine x =
      Iff.trans (refuses_before read_conflict x (rec_lines ++ whole_lines) (each_of (new_lines m) t.writes) (news_lack read_conflict (omega arith)))
      (Iff.trans (refuses_before read_conflict x rec_lines whole_lines bases_lack_9) (Iff.trans (refuses_each read_conflict x (record_lines m t) t.recs) (conflict_of x)))

  eight : (x : ℕ) → Refuses (valid_lines m t) write_conflict x ↔ (All Stands t.recs × FirstUnready x)
  eight x =
      Iff.trans (refuses_before write_conflict x (rec_lines ++ whole_lines) (each_of (new_lines m) t.writes) (news_lack write_conflict (omega arith)))
      (Iff.trans (refuses_past write_conflict x rec_lines whole_lines recs_lack_8)
      (Iff.and
      (Iff.trans (none_each (record_lines m t) t.recs) (all_map _ Stands stands t.recs, all_map Stands _ stood t.recs))
      (Iff.trans (refuses_each write_conflict x (base_lines m) t.writes) (unready_of x))))

  -- 9: "validation", "first row": "records in order"
  pub commit_refused_9_names_first_conflicting_record : (x : ℕ) → ((commit_out m s id).answer ≡ Answer.Refused read_conflict x) ↔ (Validating × FirstConflict x)
  commit_refused_9_names_first_conflicting_record x = Iff.trans (of_commit read_conflict x (omega arith)) (Iff.and (λ e. e, λ e. e) (nine x))

  -- 8: "commit: head or base test fails", with the row; every record stands
  pub commit_refused_8_exactly_when : (x : ℕ) → ((commit_out m s id).answer ≡ Answer.Refused write_conflict x) ↔ (Validating × (All Stands t.recs × FirstUnready x))
  commit_refused_8_exactly_when x = Iff.trans (of_commit write_conflict x (omega arith)) (Iff.and (λ e. e, λ e. e) (eight x))
