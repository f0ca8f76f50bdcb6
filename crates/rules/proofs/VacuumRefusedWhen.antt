-- A vacuum's refusals 14 and 15, each alone.
use Rattle.std.specs.Prelude.{ℕ, List, [], ◌∷◌, ◌++◌, ◌≡◌, refl, ◌↔◌, ◌⊎◌}
use Rattle.std.proofs.Common.{sym, ap, ◌∙◌, inl, inr, arith}
use Rattle.std.proofs.Math.Logic.Iff
use Rattle.kinds.specs.Answer.{Answer}
use Rattle.words.specs.Sizes.{Sizes}
use Rattle.rules.specs.Numbers.{result_full, damaged}
use Rattle.kinds.specs.Versions.{version_at}
use Rattle.rules.specs.Memory.{Mem, size_n, head_at}
use Rattle.rules.specs.Chain.{After, ends, goes_on, broken, Chain}
use Rattle.rules.specs.Snapshot.{horizon}
use Rattle.rules.specs.Vacuum.{vacuum_out}
use Rattle.rules.specs.Exactly.{Line, Refuses, NoneOf}
use Rattle.rules.proofs.Exactly.{in_answer, refused_iff, refuses_past}
use Rattle.rules.proofs.Terms.{StoreDamaged}
use Rattle.rules.proofs.Along.{ChainIs, is_chain}
use Rattle.rules.proofs.SharedLines.{store_lines, row_line}
use Rattle.rules.proofs.VacuumRefuses.{WalksPast, Breaks, Overfull, walk_lines, vacuum_lines, vacuum_refuses_exactly}

module _ {z : Sizes} (m : Mem z) (row request room : ℕ) where
  abbrev head_lines : List Line
  head_lines = store_lines m ++ row_line m row ∷ []

  after_apart : (l l' : List ℕ) (a a' : After) → ChainIs (size_n m) (version_at m.cells) (size_n m) (head_at m row) l a → ChainIs (size_n m) (version_at m.cells) (size_n m) (head_at m row) l' a' → a ≡ a'
  after_apart l l' a a' i j = ap (λ (x : Chain). x.after) (sym (is_chain (size_n m) (version_at m.cells) (size_n m) (head_at m row) l a i) ∙ is_chain (size_n m) (version_at m.cells) (size_n m) (head_at m row) l' a' j)

  -- a chain that ends is walked
  ends_or_not : Overfull m row (horizon m request) room → (WalksPast m row ⊎ Breaks m row) → ⊥
  ends_or_not o (inl q) =
      let g : ends ≡ goes_on = after_apart (o.0 ∷ o.1) q.0 ends goes_on (o.3.way, o.3.within) (q.1, q.2, q.3, q.4) in
      let h : ◌≡◌ {A = ℕ} 0 1 = cc in
      omega arith
  ends_or_not o (inr q) =
      let g : ends ≡ broken = after_apart (o.0 ∷ o.1) q.0 ends broken (o.3.way, o.3.within) (q.1, q.2, q.3, q.4) in
      let h : ◌≡◌ {A = ℕ} 0 1 = cc in
      omega arith

  -- 14: "list longer than its buffer": the chain ends, and more of the versions after its head are reclaimable than the buffer holds
  pub vacuum_refused_14_exactly_when : (x : ℕ) → ((vacuum_out m row request room).answer ≡ Answer.Refused result_full x) ↔ (NoneOf head_lines × (Overfull m row (horizon m request) room × (x ≡ 0)))
  vacuum_refused_14_exactly_when x =
      Iff.trans (refused_iff in_answer m _ _ _ (vacuum_refuses_exactly m row request room) result_full x)
      (Iff.trans (refuses_past result_full x head_lines (walk_lines m row (horizon m request) room) (λ e. omega arith, (λ e. omega arith, tt)))
      (Iff.and (λ e. e, λ e. e) (to, λ q. inr (ends_or_not q.0, inl (q.0, refl, q.1)))))
    where
      to : Refuses (walk_lines m row (horizon m request) room) result_full x → Overfull m row (horizon m request) room × (x ≡ 0)
      to (inl q) = absurd (omega (arith, q.1))
      to (inr (_, inl q)) = (q.0, q.2)
      to (inr (_, inr q)) = absurd q.1

  -- 15: "saved sizes out of range or not fitting the lent lengths, clock 0"; or, the row being below R, "a vacuum walk past N versions"
  -- or "a cell or link above N"
  pub vacuum_refused_15_exactly_when : (x : ℕ) → ((vacuum_out m row request room).answer ≡ Answer.Refused damaged x) ↔ ((StoreDamaged m × (x ≡ 0)) ⊎ (NoneOf head_lines × ((WalksPast m row ⊎ Breaks m row) × (x ≡ 0))))
  vacuum_refused_15_exactly_when x = Iff.trans (refused_iff in_answer m _ _ _ (vacuum_refuses_exactly m row request room) damaged x) (to, from)
    where
      to : Refuses (vacuum_lines m row request room) damaged x → (StoreDamaged m × (x ≡ 0)) ⊎ (NoneOf head_lines × ((WalksPast m row ⊎ Breaks m row) × (x ≡ 0)))
      to (inl q) = inl (q.0, q.2)
      to (inr (a, inl q)) = absurd (omega (arith, q.1))
      to (inr (a, inr (b, inl q))) = inr ((a, (b, tt)), (q.0, q.2))
      to (inr (a, inr (b, inr (c, inl q)))) = absurd (omega (arith, q.1))
      to (inr (a, inr (b, inr (c, inr q)))) = absurd q.1

      from : (StoreDamaged m × (x ≡ 0)) ⊎ (NoneOf head_lines × ((WalksPast m row ⊎ Breaks m row) × (x ≡ 0))) → Refuses (vacuum_lines m row request room) damaged x
      from (inl q) = inl (q.0, refl, q.1)
      from (inr q) = inr (q.0.0, inr (q.0.1.0, inl (q.1.0, refl, q.1.1)))
