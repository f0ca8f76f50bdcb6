-- Tests in a row: a call is refused by the first that fails, and is done where all pass.
use Rattle.std.specs.Prelude.{List, [], ◌∷◌, ◌++◌, ◌≢◌, ◌⊎◌, ◌≡◌, refl, ℕ}
use Rattle.std.proofs.Common.{true≢false, inl, inr, ⊎_elim, sym, ◌∙◌}
use Rattle.rules.specs.Outcome.{Test, guard, each}
use Rattle.rules.specs.Reachable.{All, In}
use Rattle.rules.proofs.Theory.Cases.{by_bool}
use Rattle.rules.specs.Theory.Guard.{Passed, Safe, Cause}

pub guard_passed : {A : Type 0} (r : ℕ → ℕ → A) (l : List Test) (a : A) → Passed l → guard r l a ≡ a
unfolding guard
guard_passed r [] a p = refl
guard_passed r (t ∷ l) a p = rw p.0 (guard_passed r l a p.1)

pub guard_case : {A : Type 0} (K : A → Type 0) (r : ℕ → ℕ → A) (l : List Test) (a : A) → ((k x : ℕ) → K (r k x)) → (Passed l → K a) → K (guard r l a)
unfolding guard
guard_case K r [] a s f = f tt
guard_case K r (t ∷ l) a s f = by_bool t.fails (λ e. rw e (s t.number t.value)) (λ e. rw e (guard_case K r l a s (λ ok. f (e, ok))))

pub passed_split : (a b : List Test) → Passed (a ++ b) → Passed a × Passed b
passed_split [] b p = (tt, p)
passed_split (t ∷ a) b p = let q = passed_split a b p.1 in ((p.0, q.0), q.1)

pub passed_join : (a b : List Test) → Passed a → Passed b → Passed (a ++ b)
passed_join [] b p q = q
passed_join (t ∷ a) b p q = (p.0, passed_join a b p.1 q)

pub passed_each : {A : Type 0} (f : A → List Test) (l : List A) → All (λ a. Passed (f a)) l → Passed (each f l)
unfolding each
passed_each f [] h = tt
passed_each f (a ∷ l) h = passed_join (f a) (each f l) h.0 (passed_each f l h.1)

pub guard_safe : {A : Type 0} (num : A → ℕ) (r : ℕ → ℕ → A) (k : ℕ) → ((n x : ℕ) → num (r n x) ≡ n) → (l : List Test) (a : A) → Safe k l → (Passed l → num a ≢ k) → num (guard r l a) ≢ k
unfolding guard
guard_safe num r k e [] a s f = f tt
guard_safe num r k e (t ∷ l) a s f = by_bool t.fails
    (λ q. rw q (λ z. s.0 q (sym (e t.number t.value) ∙ z)))
    (λ q. rw q (guard_safe num r k e l a (s.1 q) (λ p. f (q, p))))

pub safe_append : (k : ℕ) (a b : List Test) → Safe k a → (Passed a → Safe k b) → Safe k (a ++ b)
safe_append k [] b s f = f tt
safe_append k (t ∷ a) b s f = (s.0, λ q. safe_append k a b (s.1 q) (λ p. f (q, p)))

pub safe_passed : (k : ℕ) (l : List Test) → Passed l → Safe k l
safe_passed k [] p = tt
safe_passed k (t ∷ l) p = ((λ q. absurd (true≢false (sym q ∙ p.0))), λ _. safe_passed k l p.1)

pub safe_each : {A : Type 0} (k : ℕ) (f : A → List Test) (l : List A) → All (λ a. Safe k (f a)) l → Safe k (each f l)
unfolding each
safe_each k f [] s = tt
safe_each k f (a ∷ l) s = safe_append k (f a) (each f l) s.0 (λ _. safe_each k f l s.1)

pub guard_cause : {A : Type 0} (r : ℕ → ℕ → A) (K : A → Type 0) (k x : ℕ) → ((n y : ℕ) → K (r n y) → (n ≡ k) × (y ≡ x)) → (l : List Test) (a : A) → (Passed l → K a → ⊥) → K (guard r l a) → Cause k x l
unfolding guard
guard_cause r K k x e [] a f q = f tt q
guard_cause r K k x e (t ∷ l) a f q = by_bool t.fails
    (λ y. let b = e t.number t.value (rw y at q) in inl (y, b.0, b.1))
    (λ y. inr (y, guard_cause r K k x e l a (λ p. f (y, p)) (rw y at q)))

pub cause_split : (k x : ℕ) (a b : List Test) → Cause k x (a ++ b) → Cause k x a ⊎ (Passed a × Cause k x b)
cause_split k x [] b c = inr (tt, c)
cause_split k x (t ∷ a) b (inl c) = inl (inl c)
cause_split k x (t ∷ a) b (inr c) = ⊎_elim (λ y. inl (inr (c.0, y))) (λ y. inr ((c.0, y.0), y.1)) (cause_split k x a b c.1)

-- among the tests of each member, those of one; P holds of every member
pub cause_each : {A : Type 0} (k x : ℕ) (f : A → List Test) (P : A → Type 0) (l : List A) → All P l → Cause k x (each f l) → (a : A) × In a l × P a × Cause k x (f a)
unfolding each
cause_each k x f P [] h c = absurd c
cause_each k x f P (a ∷ l) h c = ⊎_elim
    (λ y. (a, inl refl, h.0, y))
    (λ y. let r = cause_each k x f P l h.1 y.1 in (r.0, inr r.1, r.2, r.3))
    (cause_split k x (f a) (each f l) c)

pub passed_all : {A : Type 0} (f : A → List Test) (l : List A) → Passed (each f l) → All (λ a. Passed (f a)) l
unfolding each
passed_all f [] p = tt
passed_all f (a ∷ l) p = let q = passed_split (f a) (each f l) p in (q.0, passed_all f l q.1)
