-- Members of a list: in it, each once, picked by a property.
use Rattle.std.specs.Prelude.{ℕ, ◌≤◌, List, [], ◌∷◌, ◌++◌, refl, ◌↔◌, ◌⊎◌, length}
use Rattle.std.proofs.Common.{sym, subst, inl, inr, ⊎_elim, arith}
use Rattle.words.specs.Lists.{has}
use Rattle.rules.proofs.Theory.Cases.{by_bool}
use Rattle.rules.specs.Exactly.{In, All}
use Rattle.rules.proofs.Exactly.{is_in}
use Rattle.rules.specs.VacuumRefuses.{Picks}
use Rattle.rules.specs.Members.{Once}

-- a number is in a list or it is not
pub in_or_not : {C : Type 0} (x : ℕ) (l : List ℕ) → (In x l → C) → ((In x l → ⊥) → C) → C
in_or_not x l f g = by_bool (has x l) (λ e. f ((is_in x l).yes e)) (λ e. g ((is_in x l).no e))

module _ {A : Type 0} where
  pub all_in : (P : A → Type 0) (l : List A) → All P l → (x : A) → In x l → P x
  all_in P [] h x i = absurd i
  all_in P (a ∷ l) h x (inl e) = rw e h.0
  all_in P (a ∷ l) h x (inr i) = all_in P l h.1 x i

  pub in_all : (P : A → Type 0) (l : List A) → ((x : A) → In x l → P x) → All P l
  in_all P [] f = tt
  in_all P (a ∷ l) f = (f a (inl refl), in_all P l (λ x i. f x (inr i)))

  pub in_append : (x : A) (l r : List A) → In x (l ++ r) ↔ (In x l ⊎ In x r)
  in_append x [] r = (inr, ⊎_elim (λ f. absurd f) (λ i. i))
  in_append x (a ∷ l) r = (
    ⊎_elim (λ e. inl (inl e)) (λ i. ⊎_elim (λ j. inl (inr j)) inr ((in_append x l r).0 i)),
    ⊎_elim (⊎_elim inl (λ j. inr ((in_append x l r).1 (inl j)))) (λ j. inr ((in_append x l r).1 (inr j))),
  )

  module _ (P : A → Type 0) where
    picks_to : (l d : List A) → Picks P l d → (x : A) → In x d → In x l × P x
    picks_to [] d q x i = absurd (subst (In x) q i)
    picks_to (a ∷ l) d (inl q) x i = on (subst (In x) q.1.1 i) (picks_to l q.1.0 q.1.2 x)
      where
        on : In x (a ∷ q.1.0) → (In x q.1.0 → In x l × P x) → In x (a ∷ l) × P x
        on (inl e) f = (inl e, rw e q.0)
        on (inr j) f = let r = f j in (inr r.0, r.1)
    picks_to (a ∷ l) d (inr q) x i = let r = picks_to l d q.1 x i in (inr r.0, r.1)

    picks_from : (l d : List A) → Picks P l d → (x : A) → In x l → P x → In x d
    picks_from [] d q x i p = absurd i
    picks_from (a ∷ l) d (inl q) x (inl e) p = subst (In x) (sym q.1.1) (inl e)
    picks_from (a ∷ l) d (inl q) x (inr i) p = subst (In x) (sym q.1.1) (inr (picks_from l q.1.0 q.1.2 x i p))
    picks_from (a ∷ l) d (inr q) x (inl e) p = absurd (q.0 (subst P e p))
    picks_from (a ∷ l) d (inr q) x (inr i) p = picks_from l d q.1 x i p

    -- the picked are the members that have the property, and no others
    pub picks_in : (l d : List A) → Picks P l d → (x : A) → In x d ↔ (In x l × P x)
    picks_in l d q x = (picks_to l d q x, λ i. picks_from l d q x i.0 i.1)

    pub picks_length : (l d : List A) → Picks P l d → length d ≤ length l
    picks_length [] d q = rw q (omega arith)
    picks_length (a ∷ l) d (inl q) = rw q.1.1 (omega (arith, picks_length l q.1.0 q.1.2))
    picks_length (a ∷ l) d (inr q) = omega (arith, picks_length l d q.1)

    pub picks_once : (l d : List A) → Picks P l d → Once l → Once d
    picks_once [] d q o = rw q tt
    picks_once (a ∷ l) d (inl q) o = rw q.1.1 (λ i. o.0 (picks_to l q.1.0 q.1.2 a i).0, picks_once l q.1.0 q.1.2 o.1)
    picks_once (a ∷ l) d (inr q) o = picks_once l d q.1 o.1
