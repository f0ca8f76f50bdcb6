-- A write's refusals 7, 8, 12 and 11, each alone. "write tests 7 and 8 only where the row has no own entry, then 12 and 11 only where
-- an entry is added".
use Rattle.std.specs.Prelude.{ℕ, ◌≤◌, ◌<◌, ◌≡◌, refl, ◌≢◌, ◌↔◌}
use Rattle.std.proofs.Math.Option.{Option}
use Rattle.std.proofs.Math.Logic.Iff
use Rattle.std.proofs.Common.{inl, inr, arith}
use Rattle.kinds.specs.Answer.{Answer}
use Rattle.words.specs.Sizes.{Sizes, WRITES}
use Rattle.rules.specs.Numbers.{row_locked, write_conflict, no_room, write_set_full}
use Rattle.rules.proofs.Theory.Cases.{by_bool, by_le}
use Rattle.rules.specs.Memory.{Mem, size_n, free, head_at, slot_at}
use Rattle.kinds.specs.Visible.{visible}
use Rattle.rules.specs.Write.{write_out}
use Rattle.rules.specs.Exactly.{Refuses, NoneOf}
use Rattle.rules.proofs.Exactly.{in_answer, refused_iff, refuses_past, refuses_under}
use Rattle.rules.specs.Terms.{Sees, LockedByOther, NoEntry}
use Rattle.rules.proofs.Terms.{is_seen, entry_or_none}
use Rattle.rules.proofs.SharedLines.{row_lines, rows_lack, count_at}
use Rattle.rules.proofs.WriteRefuses.{head_version, add_lines, now_lines, write_refuses_exactly}

module _ {z : Sizes} (m : Mem z) (s id row : ℕ) where
  -- no earlier refusal applies, and an entry is to be added
  pub record Adding : Type 0 where
    pub earlier : NoneOf (row_lines m s id row)
    pub no_own : NoEntry (slot_at m s).writes row

  -- the head is of the store: 0, or one of its cells
  abbrev pub HeadSound : Type 0
  HeadSound = head_at m row ≤ size_n m

  -- the head can be a base: 0; or not locked by another id, and visible
  pub record HeadFine : Type 0 where
    pub sound : HeadSound
    pub unlocked : head_at m row ≢ 0 → LockedByOther (head_version m row) id → ⊥
    pub seen : head_at m row ≢ 0 → Sees (slot_at m s) (head_version m row)

  -- a number of an added entry's lines
  of_write : (v : Option ℕ) (k x : ℕ) → (6 < k) × (k < 15) → ((write_out m s id row v).answer ≡ Answer.Refused k x) ↔ (Adding × Refuses (add_lines m s id row) k x)
  of_write v k x b =
      Iff.trans (refused_iff in_answer m _ _ _ (write_refuses_exactly m s id row v) k x)
      (Iff.trans (refuses_past k x (row_lines m s id row) (now_lines m s id row) (rows_lack m s id row k b)) (to, from))
    where
      to : NoneOf (row_lines m s id row) × Refuses (now_lines m s id row) k x → Adding × Refuses (add_lines m s id row) k x
      to (e, inl q) = absurd (omega (arith, q.1, b.1))
      to (e, inr q) =
          let r = (refuses_under (NoEntry (slot_at m s).writes row) (add_lines m s id row) k x).0 q.1 in
          (record { earlier = e; no_own = r.0 }, r.1)

      from : Adding × Refuses (add_lines m s id row) k x → NoneOf (row_lines m s id row) × Refuses (now_lines m s id row) k x
      from q = (q.0.earlier, inr (λ w. entry_or_none _ row w.0 w.1 q.0.no_own, (refuses_under (NoEntry (slot_at m s).writes row) (add_lines m s id row) k x).1 (q.0.no_own, q.1)))

  sound : (size_n m < head_at m row → ⊥) → HeadSound
  sound n = by_le (head_at m row) (size_n m) (λ b. b) (λ b. absurd (n b))

  pub fine : (size_n m < head_at m row → ⊥) → ((head_at m row ≢ 0) × LockedByOther (head_version m row) id → ⊥) → ((head_at m row ≢ 0) × (Sees (slot_at m s) (head_version m row) → ⊥) → ⊥) → HeadFine
  fine a b c =
      record {
        sound = sound a;
        unlocked = λ h l. b (h, l);
        seen = λ h. by_bool (visible (slot_at m s) (head_version m row)) (λ e. (is_seen (slot_at m s) (head_version m row)).yes e) (λ e. absurd (c (h, (is_seen (slot_at m s) (head_version m row)).no e)));
      }

  seven : (x : ℕ) → Refuses (add_lines m s id row) row_locked x ↔ (HeadSound × (head_at m row ≢ 0) × LockedByOther (head_version m row) id × (x ≡ row))
  seven x = (to, λ q. inr (λ b. omega (arith, q.0), inl ((q.1, q.2), refl, q.3)))
    where
      to : Refuses (add_lines m s id row) row_locked x → HeadSound × (head_at m row ≢ 0) × LockedByOther (head_version m row) id × (x ≡ row)
      to (inl q) = absurd (omega (arith, q.1))
      to (inr (a, inl q)) = (sound a, q.0.0, q.0.1, q.2)
      to (inr (_, inr (_, inl q))) = absurd (omega (arith, q.1))
      to (inr (_, inr (_, inr (_, inl q)))) = absurd (omega (arith, q.1))
      to (inr (_, inr (_, inr (_, inr (_, inl q))))) = absurd (omega (arith, q.1))
      to (inr (_, inr (_, inr (_, inr (_, inr (_, inl q)))))) = absurd (omega (arith, q.1))
      to (inr (_, inr (_, inr (_, inr (_, inr (_, inr q)))))) = absurd q.1

  eight : (x : ℕ) → Refuses (add_lines m s id row) write_conflict x ↔ (HeadSound × (head_at m row ≢ 0) × (LockedByOther (head_version m row) id → ⊥) × (Sees (slot_at m s) (head_version m row) → ⊥) × (x ≡ row))
  eight x = (to, λ q. inr (λ b. omega (arith, q.0), inr (λ b. q.2 b.1, inl ((q.1, q.3), refl, q.4))))
    where
      to : Refuses (add_lines m s id row) write_conflict x → HeadSound × (head_at m row ≢ 0) × (LockedByOther (head_version m row) id → ⊥) × (Sees (slot_at m s) (head_version m row) → ⊥) × (x ≡ row)
      to (inl q) = absurd (omega (arith, q.1))
      to (inr (_, inl q)) = absurd (omega (arith, q.1))
      to (inr (a, inr (b, inl q))) = (sound a, q.0.0, λ l. b (q.0.0, l), q.0.1, q.2)
      to (inr (_, inr (_, inr (_, inl q)))) = absurd (omega (arith, q.1))
      to (inr (_, inr (_, inr (_, inr (_, inl q))))) = absurd (omega (arith, q.1))
      to (inr (_, inr (_, inr (_, inr (_, inr (_, inl q)))))) = absurd (omega (arith, q.1))
      to (inr (_, inr (_, inr (_, inr (_, inr (_, inr q)))))) = absurd q.1

  twelve : (x : ℕ) → Refuses (add_lines m s id row) write_set_full x ↔ (HeadFine × (z.writes ≤ count_at m s (WRITES z)) × (x ≡ 0))
  twelve x = (to, λ q. inr (λ b. omega (arith, q.0.sound), inr (λ b. q.0.unlocked b.0 b.1, inr (λ b. b.1 (q.0.seen b.0), inl (q.1, refl, q.2)))))
    where
      to : Refuses (add_lines m s id row) write_set_full x → HeadFine × (z.writes ≤ count_at m s (WRITES z)) × (x ≡ 0)
      to (inl q) = absurd (omega (arith, q.1))
      to (inr (_, inl q)) = absurd (omega (arith, q.1))
      to (inr (_, inr (_, inl q))) = absurd (omega (arith, q.1))
      to (inr (a, inr (b, inr (c, inl q)))) = (fine a b c, q.0, q.2)
      to (inr (_, inr (_, inr (_, inr (_, inl q))))) = absurd (omega (arith, q.1))
      to (inr (_, inr (_, inr (_, inr (_, inr (_, inl q)))))) = absurd (omega (arith, q.1))
      to (inr (_, inr (_, inr (_, inr (_, inr (_, inr q)))))) = absurd q.1

  eleven : (x : ℕ) → Refuses (add_lines m s id row) no_room x ↔ (HeadFine × (count_at m s (WRITES z) < z.writes) × (free m ≡ 0) × (x ≡ 0))
  eleven x = (to, λ q. inr (λ b. omega (arith, q.0.sound), inr (λ b. q.0.unlocked b.0 b.1, inr (λ b. b.1 (q.0.seen b.0), inr (λ b. omega (arith, q.1), inl (q.2, refl, q.3))))))
    where
      to : Refuses (add_lines m s id row) no_room x → HeadFine × (count_at m s (WRITES z) < z.writes) × (free m ≡ 0) × (x ≡ 0)
      to (inl q) = absurd (omega (arith, q.1))
      to (inr (_, inl q)) = absurd (omega (arith, q.1))
      to (inr (_, inr (_, inl q))) = absurd (omega (arith, q.1))
      to (inr (_, inr (_, inr (_, inl q)))) = absurd (omega (arith, q.1))
      to (inr (a, inr (b, inr (c, inr (d, inl q))))) = (fine a b c, by_le z.writes (count_at m s (WRITES z)) (λ y. absurd (d y)) (λ y. y), q.0, q.2)
      to (inr (_, inr (_, inr (_, inr (_, inr (_, inl q)))))) = absurd (omega (arith, q.1))
      to (inr (_, inr (_, inr (_, inr (_, inr (_, inr q)))))) = absurd q.1

  -- 7: "write, head locked by another id", with the row
  pub write_refused_7_exactly_when : (v : Option ℕ) (x : ℕ) → ((write_out m s id row v).answer ≡ Answer.Refused row_locked x) ↔ (Adding × (HeadSound × (head_at m row ≢ 0) × LockedByOther (head_version m row) id × (x ≡ row)))
  write_refused_7_exactly_when v x = Iff.trans (of_write v row_locked x (omega arith)) (Iff.and (λ e. e, λ e. e) (seven x))

  -- 8: "write: head nonzero and not visible", with the row
  pub write_refused_8_exactly_when : (v : Option ℕ) (x : ℕ) → ((write_out m s id row v).answer ≡ Answer.Refused write_conflict x) ↔ (Adding × (HeadSound × (head_at m row ≢ 0) × (LockedByOther (head_version m row) id → ⊥) × (Sees (slot_at m s) (head_version m row) → ⊥) × (x ≡ row)))
  write_refused_8_exactly_when v x = Iff.trans (of_write v write_conflict x (omega arith)) (Iff.and (λ e. e, λ e. e) (eight x))

  -- 12: "33rd entry"
  pub write_refused_12_exactly_when : (v : Option ℕ) (x : ℕ) → ((write_out m s id row v).answer ≡ Answer.Refused write_set_full x) ↔ (Adding × (HeadFine × (z.writes ≤ count_at m s (WRITES z)) × (x ≡ 0)))
  write_refused_12_exactly_when v x = Iff.trans (of_write v write_set_full x (omega arith)) (Iff.and (λ e. e, λ e. e) (twelve x))

  -- 11: "write, no free cell"
  pub write_refused_11_exactly_when : (v : Option ℕ) (x : ℕ) → ((write_out m s id row v).answer ≡ Answer.Refused no_room x) ↔ (Adding × (HeadFine × (count_at m s (WRITES z) < z.writes) × (free m ≡ 0) × (x ≡ 0)))
  write_refused_11_exactly_when v x = Iff.trans (of_write v no_room x (omega arith)) (Iff.and (λ e. e, λ e. e) (eleven x))
