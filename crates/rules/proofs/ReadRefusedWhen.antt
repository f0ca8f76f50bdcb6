-- A read's refusals 10 and 13, each alone: when it is given, with "and no earlier refusal applies" as `NoneOf` of the earlier lines.
-- Refusal 10 is also said of the row's chain taken whole.
use Rattle.std.specs.Prelude.{ℕ, zero, suc, ◌≤◌, ◌<◌, List, [], ◌∷◌, ◌≡◌, refl, ◌≢◌, ◌↔◌, length, take}
use Rattle.std.proofs.Common.{sym, ap, ◌∙◌, subst, inl, inr, arith}
use Rattle.std.proofs.Math.Logic.Iff
use Rattle.kinds.specs.declared.Version.{Version}
use Rattle.kinds.specs.ReadAnswer.{ReadAnswer}
use Rattle.words.specs.Sizes.{Sizes}
use Rattle.rules.specs.Numbers.{chain_too_long, read_set_full}
use Rattle.kinds.specs.Versions.{version_at}
use Rattle.words.specs.Slots.{Slot}
use Rattle.rules.specs.Memory.{Mem, size_n, head_at, slot_at}
use Rattle.rules.specs.Chain.{Look, found, too_long, harmed}
use Rattle.rules.specs.Read.{read_out}
use Rattle.rules.specs.Exactly.{All, Refuses, NoneOf}
use Rattle.rules.proofs.Exactly.{in_read, refused_iff, refuses_past}
use Rattle.rules.specs.Terms.{CellOf, Sees, NoEntry, Recorded}
use Rattle.rules.proofs.Terms.{entry_or_none}
use Rattle.rules.specs.Along.{Along, Way}
use Rattle.rules.proofs.Along.{Unseen, FirstSeen, TooLong, look_apart}
use Rattle.rules.proofs.SharedLines.{row_lines, rows_lack}
use Rattle.rules.specs.ReadRefuses.{look_number}
use Rattle.rules.proofs.ReadRefuses.{sight_lines_at, read_refuses_exactly}

-- ---- a chain longer than the limit
module _ (n : ℕ) (f : ℕ → Version) (t : Slot) where
  too_long_whole : (k : ℕ) (l : List ℕ) (h : ℕ) → Along f h l 0 → All (CellOf n) l → k < length l → Unseen n f t (take k l) → TooLong n f t k h
  too_long_whole k [] h a c b u = absurd (omega arith)
  too_long_whole zero (d ∷ l) h a c b u = record { passed = []; further = h; way = record { along = refl; cells = tt }; many = refl; goes = λ e. omega (arith, a.0, c.0.low); unseen = tt }
  too_long_whole (suc k) (d ∷ l) h a c b u =
      let i = too_long_whole k l (f d).next.0 a.1 c.1 (omega arith) u.1 in
      record {
        passed = d ∷ i.passed;
        further = i.further;
        way = record { along = (a.0, i.way.along); cells = (c.0, i.way.cells) };
        many = omega (arith, i.many);
        goes = i.goes;
        unseen = (u.0, i.unseen);
      }

  whole_too_long : (l : List ℕ) (h : ℕ) → Along f h l 0 → All (CellOf n) l → (passed : List ℕ) (p : ℕ) → Along f h passed p → All (CellOf n) passed → p ≢ 0 → Unseen n f t passed → (length passed < length l) × Unseen n f t (take (length passed) l)
  whole_too_long [] h a c [] p b o g u = absurd (g (sym b ∙ a))
  whole_too_long (d ∷ l) h a c [] p b o g u = (omega arith, tt)
  whole_too_long [] h a c (q ∷ r) p b o g u = absurd (omega (arith, a, b.0, o.0.low))
  whole_too_long (d ∷ l) h a c (q ∷ r) p b o g u =
      let e : q ≡ d = sym b.0 ∙ a.0 in
      let b' : Along f (f d).next.0 r p = subst (λ (y : ℕ). Along f (f y).next.0 r p) e b.1 in
      let i = whole_too_long l (f d).next.0 a.1 c.1 r p b' o.1 g u.1 in
      (omega (arith, i.0), (subst (λ (y : ℕ). Sees t (f y) → ⊥) e u.0, i.1))

  -- where the chain, to pointer 0, is l: longer than the limit, and none of its first k is seen
  pub too_long_exactly_when : (k : ℕ) (l : List ℕ) (h : ℕ) → Way n f h l 0 → TooLong n f t k h ↔ ((k < length l) × Unseen n f t (take k l))
  too_long_exactly_when k l h w = (
    (λ i.
        let r = whole_too_long l h w.along w.cells i.passed i.further i.way.along i.way.cells i.goes i.unseen in
        subst (λ (y : ℕ). (y < length l) × Unseen n f t (take y l)) i.many r),
    (λ q. too_long_whole k l h w.along w.cells q.0 q.1),
  )

-- ---- the calls
found_or_not : (c : ℕ) (b : Look) → look_number b ≢ 0 → found c ≡ b → ⊥
found_or_not c b n e = n (sym (ap look_number e))

module _ {z : Sizes} (m : Mem z) (s id row : ℕ) where
  -- no earlier refusal applies
  abbrev pub Earlier : Type 0
  Earlier = NoneOf (row_lines m s id row)

  abbrev pub NoOwn : Type 0
  NoOwn = NoEntry (slot_at m s).writes row

  ten_of_sight : (x : ℕ) → Refuses (sight_lines_at m s id row) chain_too_long x ↔ (NoOwn × TooLong (size_n m) (version_at m.cells) (slot_at m s) z.walk (head_at m row) × (x ≡ row))
  ten_of_sight x = (to, λ q. inr (λ w. entry_or_none _ row w.0 w.1 q.0, inl ((q.0, q.1), refl, q.2)))
    where
      to : Refuses (sight_lines_at m s id row) chain_too_long x → NoOwn × TooLong (size_n m) (version_at m.cells) (slot_at m s) z.walk (head_at m row) × (x ≡ row)
      to (inl q) = absurd (omega (arith, q.1))
      to (inr (_, inl q)) = (q.0.0, q.0.1, q.2)
      to (inr (_, inr (_, inl q))) = absurd (omega (arith, q.1))
      to (inr (_, inr (_, inr (_, inl q)))) = absurd (omega (arith, q.1))
      to (inr (_, inr (_, inr (_, inr q)))) = absurd q.1

  -- 13, of the version found and the records
  abbrev pub NoPlaceFor : ℕ → Type 0
  NoPlaceFor c = FirstSeen (size_n m) (version_at m.cells) (slot_at m s) z.walk (head_at m row) c × (Recorded c (slot_at m s).recs → ⊥) × (z.reads ≤ length (slot_at m s).recs)

  thirteen_of_sight : (x : ℕ) → Refuses (sight_lines_at m s id row) read_set_full x ↔ (NoOwn × ((c : ℕ) × NoPlaceFor c) × (x ≡ row))
  thirteen_of_sight x = (to, from)
    where
      to : Refuses (sight_lines_at m s id row) read_set_full x → NoOwn × ((c : ℕ) × NoPlaceFor c) × (x ≡ row)
      to (inl q) = absurd (omega (arith, q.1))
      to (inr (_, inl q)) = absurd (omega (arith, q.1))
      to (inr (_, inr (_, inl q))) = absurd (omega (arith, q.1))
      to (inr (_, inr (_, inr (_, inl q)))) = (q.0.0, (q.0.1.0, (q.0.1.1, q.0.1.2, q.0.1.3)), q.2)
      to (inr (_, inr (_, inr (_, inr q)))) = absurd q.1

      from : NoOwn × ((c : ℕ) × NoPlaceFor c) × (x ≡ row) → Refuses (sight_lines_at m s id row) read_set_full x
      from q =
          inr (
            λ w. entry_or_none _ row w.0 w.1 q.0,
            inr (
              λ y. found_or_not q.1.0 too_long (λ e. omega arith) (look_apart (size_n m) (version_at m.cells) (slot_at m s) z.walk (head_at m row) (found q.1.0) too_long q.1.1.0 y.1),
              inr (
                λ y. found_or_not q.1.0 harmed (λ e. omega arith) (look_apart (size_n m) (version_at m.cells) (slot_at m s) z.walk (head_at m row) (found q.1.0) harmed q.1.1.0 y.1),
                inl ((q.0, (q.1.0, q.1.1.0, q.1.1.1, q.1.1.2)), refl, q.2),
              ),
            ),
          )

  -- 10: "a read would look at a 65th version", with the row: the row has no own write, the first `walk` versions of its chain are not
  -- seen, and a further pointer follows them
  pub read_refused_10_exactly_when : (x : ℕ) → ((read_out m s id row).answer ≡ ReadAnswer.Refused chain_too_long x) ↔ (Earlier × (NoOwn × TooLong (size_n m) (version_at m.cells) (slot_at m s) z.walk (head_at m row) × (x ≡ row)))
  read_refused_10_exactly_when x =
      Iff.trans (refused_iff in_read m _ _ _ (read_refuses_exactly m s id row) chain_too_long x)
      (Iff.trans (refuses_past chain_too_long x (row_lines m s id row) (sight_lines_at m s id row) (rows_lack m s id row chain_too_long (omega arith)))
      (Iff.and (λ e. e, λ e. e) (ten_of_sight x)))

  -- the same where the row's chain, to pointer 0, is the list l: it is longer than the limit and none of its first `walk` is seen
  pub read_refused_10_when_the_chain_is_longer : (l : List ℕ) → Way (size_n m) (version_at m.cells) (head_at m row) l 0 → ((read_out m s id row).answer ≡ ReadAnswer.Refused chain_too_long row) ↔ (Earlier × (NoOwn × ((z.walk < length l) × Unseen (size_n m) (version_at m.cells) (slot_at m s) (take z.walk l))))
  read_refused_10_when_the_chain_is_longer l w =
      let i = too_long_exactly_when (size_n m) (version_at m.cells) (slot_at m s) z.walk l (head_at m row) w in
      Iff.trans (read_refused_10_exactly_when row)
      ((λ q. (q.0, (q.1.0, i.0 q.1.1))), (λ q. (q.0, (q.1.0, i.1 q.1.1, refl))))

  -- 13: "129th record", with the row: a version is found, its cell is not recorded already, and the records are full
  pub read_refused_13_exactly_when : (x : ℕ) → ((read_out m s id row).answer ≡ ReadAnswer.Refused read_set_full x) ↔ (Earlier × (NoOwn × ((c : ℕ) × NoPlaceFor c) × (x ≡ row)))
  read_refused_13_exactly_when x =
      Iff.trans (refused_iff in_read m _ _ _ (read_refuses_exactly m s id row) read_set_full x)
      (Iff.trans (refuses_past read_set_full x (row_lines m s id row) (sight_lines_at m s id row) (rows_lack m s id row read_set_full (omega arith)))
      (Iff.and (λ e. e, λ e. e) (thirteen_of_sight x)))
