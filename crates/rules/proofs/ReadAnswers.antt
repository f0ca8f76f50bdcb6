-- "The answer is no version, a version without a key, or a key": each exactly when. And a read changes nothing but its slot's records.
use Rattle.std.specs.Prelude.{ℕ, ◌≡◌, ◌≢◌}
use Rattle.std.proofs.Common.{ap, ⊎_elim}
use borrow.Author.Tests.{eq-eqb, ne_eqb}
use Rattle.kinds.specs.declared.Version.{Version}
use Rattle.kinds.specs.ReadAnswer.{ReadAnswer, None, Empty, Key}
use Rattle.words.specs.Sizes.{Sizes}
use Rattle.rules.proofs.Theory.Cases.{by_eq}
use Rattle.rules.specs.Memory.{Mem}
use Rattle.rules.specs.Outcome.{Outcome}
use Rattle.rules.specs.Read.{answer_at, read_out}
use Rattle.rules.proofs.ReadRefuses.{read_refuses_exactly}
use Rattle.rules.proofs.OneOutcome.{read_meets, read_finds}

module _ (f : ℕ → Version) (c : ℕ) where
  -- what a cell answers, by its three cases
  pub data Answers : ReadAnswer → Type 0 where
    no_version : c ≡ 0 → Answers None
    no_key : c ≢ 0 → (f c).keyed ≡ 0 → Answers Empty
    a_key : c ≢ 0 → (f c).keyed ≢ 0 → Answers (Key (f c).key)

  pub answer_is : Answers (answer_at f c)
  unfolding answer_at
  answer_is = by_eq c 0
      (λ e. rw (eq-eqb c 0 e) (no_version e))
      (λ n. rw (ne_eqb c 0 n) (by_eq (f c).keyed 0 (λ e. rw (eq-eqb (f c).keyed 0 e) (no_key n e)) (λ k. rw (ne_eqb (f c).keyed 0 k) (a_key n k))))

  pub is_answer : (a : ReadAnswer) → Answers a → answer_at f c ≡ a
  unfolding answer_at
  is_answer a (no_version e) = rw (eq-eqb c 0 e)
  is_answer a (no_key n e) = rw (ne_eqb c 0 n, eq-eqb (f c).keyed 0 e)
  is_answer a (a_key n k) = rw (ne_eqb c 0 n, ne_eqb (f c).keyed 0 k)

module _ {z : Sizes} (m : Mem z) (s id row : ℕ) where
  -- cells, heads and the clock stay, whatever the read comes to
  pub read_changes_only_its_slot : ((read_out m s id row).after.cells ≡ m.cells) × ((read_out m s id row).after.rows ≡ m.rows) × ((read_out m s id row).after.meta ≡ m.meta)
  read_changes_only_its_slot =
      let h = read_refuses_exactly m s id row in
      ⊎_elim
      (λ n.
      let r = read_finds m s id row n in
      let e = (read_meets m s id row).accepted n r.0 r.1 r.2 in
      (ap (λ (o : Outcome z ReadAnswer ℕ). o.after.cells) e, ap (λ (o : Outcome z ReadAnswer ℕ). o.after.rows) e, ap (λ (o : Outcome z ReadAnswer ℕ). o.after.meta) e))
      (λ q.
      let e = h.when q.0 q.1 q.2 in
      (ap (λ (o : Outcome z ReadAnswer ℕ). o.after.cells) e, ap (λ (o : Outcome z ReadAnswer ℕ). o.after.rows) e, ap (λ (o : Outcome z ReadAnswer ℕ). o.after.meta) e))
      h.decided
