-- Commit: several writes together or not at all. "All tests come before any change."
use Rattle.std.specs.Prelude.{ℕ, ◌<◌, List, [], ◌∷◌, ◌++◌, ◌≡◌, refl, ◌≢◌, ◌⊎◌}
use Rattle.std.proofs.Common.{ap, inl, inr, ⊎_elim, arith}
use Rattle.kinds.specs.Answer.{Answer, Done}
use Rattle.words.specs.Sizes.{Sizes}
use Rattle.rules.specs.Numbers.{write_conflict, damaged}
use Rattle.kinds.specs.Versions.{version_at}
use Rattle.words.specs.Slots.{Write, Slot, emptied}
use Rattle.rules.specs.Memory.{Mem, size_r, size_n, head_at, slot_at, with_slot}
use Rattle.rules.specs.Outcome.{Outcome, out, refuse}
use Rattle.rules.specs.Commit.{publish_all, commit_out}
use Rattle.rules.specs.Exactly.{All, NoneOf, each_of, under}
use Rattle.rules.proofs.Exactly.{all_map, refuses_each, refuses_under, refuses_append, none_append, none_each}
use Rattle.rules.specs.Terms.{CellOf}
use Rattle.rules.proofs.SharedLines.{slot_lines}
use Rattle.rules.proofs.CommitRefuses.{record_lines, base_lines, new_lines, valid_lines, commit_lines, commit_refuses_exactly}
use Rattle.rules.proofs.CommitRefusedWhen.{Stands, Ready, HeadOrBase, Validating, FirstUnready, stood, ready_is, commit_refused_8_exactly_when}

module _ {z : Sizes} (m : Mem z) (s id : ℕ) where
  abbrev t : Slot
  t = slot_at m s

  -- "for each write: base xmax = id and unlocked, new next = base, head = new. Then the slot is emptied"
  abbrev pub published : Outcome z Answer ℕ
  published = out Done [] (with_slot (publish_all id t.writes m) s (emptied z))

  -- every write is published and the slot emptied, or the commit is refused and nothing changes
  pub commit_all_or_nothing : (commit_out m s id ≡ published) ⊎ ((k : ℕ) × (x : ℕ) × (commit_out m s id ≡ refuse m k x))
  commit_all_or_nothing =
      let h = commit_refuses_exactly m s id in
      ⊎_elim (λ n. inl (h.otherwise n)) (λ q. inr (q.0, q.1, h.when q.0 q.1 q.2)) h.decided

  -- accepted, it leaves exactly this
  pub commit_accepted_leaves_exactly : NoneOf (commit_lines m s id) → commit_out m s id ≡ published
  commit_accepted_leaves_exactly n = (commit_refuses_exactly m s id).otherwise n

  -- a commit is accepted exactly when no line applies
  pub commit_accepted_when : (commit_out m s id).answer ≡ Done → NoneOf (commit_lines m s id)
  commit_accepted_when e = ⊎_elim (λ n. n)
      (λ q.
      let g : (commit_out m s id).answer ≡ Answer.Refused q.0 q.1 = ap (λ (o : Outcome z Answer ℕ). o.answer) ((commit_refuses_exactly m s id).when q.0 q.1 q.2) in
      let h : ◌≡◌ {A = ℕ} 0 1 = cc in
      absurd (omega arith))
      (commit_refuses_exactly m s id).decided

  -- refused, every head, mark and lock is as it was
  pub commit_refused_keeps_every_head_mark_and_lock : (k x : ℕ) → (commit_out m s id).answer ≡ Answer.Refused k x → ((r : ℕ) → head_at (commit_out m s id).after r ≡ head_at m r) × ((c : ℕ) → version_at (commit_out m s id).after.cells c ≡ version_at m.cells c)
  commit_refused_keeps_every_head_mark_and_lock k x e =
      let h = commit_refuses_exactly m s id in
      let g = h.when k x (h.only k x e) in
      (λ r. rw g, λ c. rw g)

  -- ---- refused for its last write
  module _ (v : Validating m s id) (before : List Write) (w : Write) (parts : t.writes ≡ before ++ w ∷ []) (recs : All (Stands m s id) t.recs) where
    -- the head or base test of the last write fails, all before it pass
    pub commit_refused_for_its_last_write : All (Ready m s id) before → w.row < size_r m → HeadOrBase m s id w → commit_out m s id ≡ refuse m write_conflict w.row
    commit_refused_for_its_last_write ready low fails =
        let u : FirstUnready m s id w.row = record { before = before; failing = w; after = []; parts = parts; ready = ready; of_store = low; fails = fails; names = refl } in
        let e = (commit_refused_8_exactly_when m s id w.row).1 (v, (recs, u)) in
        let h = commit_refuses_exactly m s id in
        h.when write_conflict w.row (h.only write_conflict w.row e)

    -- the new cell of the last entry is damaged, every test before it passes
    pub commit_refused_for_damage_in_its_last_entry : All (Ready m s id) t.writes → All (λ (y : Write). CellOf (size_n m) y.new) before → (CellOf (size_n m) w.new → ⊥) → commit_out m s id ≡ refuse m damaged 0
    commit_refused_for_damage_in_its_last_entry ready cells harm =
        (commit_refuses_exactly m s id).when damaged 0
        ((refuses_append damaged 0 (slot_lines m s id) (under (t.writes ≢ []) (valid_lines m t))).1
        (inr (
          v.earlier,
          (refuses_under (t.writes ≢ []) (valid_lines m t) damaged 0).1 (
            v.writes,
            (refuses_append damaged 0 (each_of (record_lines m t) t.recs ++ each_of (base_lines m) t.writes) (each_of (new_lines m) t.writes)).1
                (inr (
                  (none_append (each_of (record_lines m t) t.recs) (each_of (base_lines m) t.writes)).1
                      ((none_each (record_lines m t) t.recs).1 (all_map (Stands m s id) _ (stood m s id) t.recs recs), (none_each (base_lines m) t.writes).1 (all_map (Ready m s id) _ (ready_is m s id) t.writes ready)),
                  (refuses_each damaged 0 (new_lines m) t.writes).1
                      (record { before = before; member = w; after = []; parts = parts; fine = all_map (λ (y : Write). CellOf (size_n m) y.new) _ (λ y c. (λ n. n c, tt)) before cells; refuses = inl (harm, refl, refl) }),
                )),
          ),
        )))
