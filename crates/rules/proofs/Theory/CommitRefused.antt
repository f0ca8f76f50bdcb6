-- A commit is refused with 8 only for a row that had no version when it was written: of any other row the base is locked, and stays the head.
use mathlib.Core.List.{List, [], ◌∷◌, ◌++◌}
use Rattle.std.proofs.Math.Logic.{inl, inr, ⊎_elim}
use Rattle.std.specs.Prelude.{◌≢◌, ℕ, ◌<◌}
use Rattle.std.proofs.Math.Path.{◌≡◌}
use Rattle.std.proofs.Common.{ap, ◌∙◌, sym, subst, arith}
use Rattle.std.proofs.lemmas.Bool.{eqb-false, not-true}
use Rattle.kinds.specs.Answer.{Answer}
use Rattle.words.specs.Sizes.{Sizes}
use Rattle.rules.specs.Numbers.{write_conflict}
use Rattle.words.specs.Lists.{nonzero}
use Rattle.kinds.specs.Versions.{version_at}
use Rattle.words.specs.Slots.{Slot, Rec, Write}
use Rattle.rules.specs.Memory.{Mem, head_at, slot_at}
use Rattle.rules.specs.Outcome.{slot_tests, store_tests, each, refuse, Outcome}
use Rattle.rules.specs.Commit.{record_tests, new_tests, base_tests, commit_tests, commit_out}
use Rattle.rules.specs.Reachable.{All, LockedFor, In, Overtaken}
use Rattle.rules.proofs.Theory.Cases.{by_eq, and_true}
use Rattle.rules.specs.Theory.Inv.{Hist}
use Rattle.rules.proofs.Theory.Inv.{all_map}
use Rattle.rules.specs.Theory.Guard.{Cause}
use Rattle.rules.proofs.Theory.Guard.{cause_each, cause_split, guard_cause}
use Rattle.rules.proofs.Theory.Good.{Good, owner}
use Rattle.rules.proofs.Theory.Never.{all_entered}
use Rattle.rules.proofs.Theory.Facts.{head_live, bases_locked}

all_both : {A : Type 0} (P Q : A → Type 0) (l : List A) → All P l → All Q l → All (λ a. P a × Q a) l
all_both P Q [] p q = tt
all_both P Q (a ∷ l) p q = ((p.0, q.0), all_both P Q l p.1 q.1)

module _ {z : Sizes} (R N : ℕ) (m : Mem z) (h : Hist) (gd : Good R N m h) (s id row : ℕ) where
  slot_cause : Cause write_conflict row (slot_tests m s id) → ⊥
  unfolding slot_tests store_tests
  slot_cause (inl c) = omega (arith, c.1)
  slot_cause (inr (_, inl c)) = omega (arith, c.1)
  slot_cause (inr (_, inr (_, inl c))) = omega (arith, c.1)
  slot_cause (inr (_, inr (_, inr (_, inl c)))) = omega (arith, c.1)
  slot_cause (inr (_, inr (_, inr (_, inr (_, c))))) = c

  record_cause : (t : Slot) (q : Rec) → Cause write_conflict row (record_tests m t q) → ⊥
  record_cause t q (inl c) = omega (arith, c.1)
  record_cause t q (inr (_, inl c)) = omega (arith, c.1)
  record_cause t q (inr (_, inr (_, c))) = c

  new_cause : (w : Write) → Cause write_conflict row (new_tests m w) → ⊥
  new_cause w (inl c) = omega (arith, c.1)
  new_cause w (inr (_, c)) = c

  trivially : {A : Type 0} (l : List A) → All (λ _. Unit {0}) l
  trivially [] = tt
  trivially (a ∷ l) = (tt, trivially l)

  abbrev Fine : Write → Type 0
  Fine w = (w.base ≢ 0 → LockedFor m id w) × (w.row < R)

  base_cause : (w : Write) → Fine w → Cause write_conflict row (base_tests m w) → (w.row ≡ row) × (w.base ≡ 0) × (head_at m row ≢ 0)
  base_cause w f (inl c) = absurd (omega (arith, c.1))
  base_cause w f (inr (_, inl c)) =
      let off : head_at m w.row ≢ w.base = eqb-false _ _ (not-true _ c.0) in
      by_eq w.base 0
      (λ e. (c.2, e, λ y. off (ap (head_at m) c.2 ∙ y ∙ sym e)))
      (λ nz. absurd (off (f.0 nz).head))
  base_cause w f (inr (_, inr (_, inl c))) = absurd (omega (arith, c.1))
  base_cause w f (inr (_, inr (_, inr (_, inl c)))) =
      let a = and_true (nonzero w.base) _ c.0 in
      let nz : w.base ≢ 0 = eqb-false _ _ (not-true _ a.0) in
      let hd = (f.0 nz).head in
      absurd (eqb-false _ _ (not-true _ a.1) (subst (λ (x : ℕ). (version_at m.cells x).xmax.0 ≡ 0) hd (head_live R N m h gd w.row f.1 (rw hd nz))))
  base_cause w f (inr (_, inr (_, inr (_, inr (_, c))))) = absurd c

  tests_cause : (ws : List Write) → All Fine ws → Cause write_conflict row (commit_tests m (slot_at m s) ws) → (w : Write) × In w ws × (w.row ≡ row) × (w.base ≡ 0) × (head_at m row ≢ 0)
  unfolding commit_tests
  tests_cause [] f c = absurd c
  tests_cause (w ∷ l) f c =
      let t = slot_at m s in
      ⊎_elim
      (λ y. ⊎_elim
      (λ x. let r = cause_each write_conflict row (record_tests m t) (λ _. Unit {0}) t.recs (trivially t.recs) x in absurd (record_cause t r.0 r.3))
      (λ x. let r = cause_each write_conflict row (base_tests m) Fine (w ∷ l) f x.1 in let b = base_cause r.0 r.2 r.3 in (r.0, r.1, b.0, b.1, b.2))
      (cause_split write_conflict row (each (record_tests m t) t.recs) (each (base_tests m) (w ∷ l)) y))
      (λ y. let r = cause_each write_conflict row (new_tests m) (λ _. Unit {0}) (w ∷ l) (trivially (w ∷ l)) y.1 in absurd (new_cause r.0 r.3))
      (cause_split write_conflict row (each (record_tests m t) t.recs ++ each (base_tests m) (w ∷ l)) (each (new_tests m) (w ∷ l)) c)

  pub commit_eight : (commit_out m s id).answer ≡ Answer.Refused write_conflict row → Overtaken m s row
  unfolding commit_out
  commit_eight e =
      let ws = (slot_at m s).writes in
      let c = guard_cause (refuse m) (λ (o : Outcome z Answer ℕ). o.answer ≡ Answer.Refused write_conflict row) write_conflict row (λ n y q. (cc, cc))
      (slot_tests m s id ++ commit_tests m (slot_at m s) ws) _ (λ _ q. let y : ◌≡◌ {A = ℕ} 0 1 = cc in omega arith) e in
      ⊎_elim (λ y. absurd (slot_cause y))
      (λ y.
      let o = owner m s id y.0 in
      let rows = all_map _ (λ (w : Write). w.row < R) ws (λ w a. a.row_in) (all_entered R N m h gd s id o) in
      let r = tests_cause ws (all_both _ _ ws (bases_locked R N m h gd s id o) rows) y.1 in
      record { entry = r.0; among = r.1; row_is = r.2; base = r.3; head = r.4 })
      (cause_split write_conflict row (slot_tests m s id) (commit_tests m (slot_at m s) ws) c)
