-- "Horizon: least of the request, the clock and the snapshot xmin of all occupied slots": at most each of them, and equal to one.
use Rattle.std.specs.Prelude.{ℕ, zero, suc, min, ◌≤◌, ◌<◌, List, [], ◌∷◌, ◌≡◌, refl, ◌≢◌, ◌↔◌, ◌⊎◌, length, get_or}
use Rattle.std.proofs.Common.{◌∙◌, arith, eq-eqb, ne_eqb, subst, sym}
use Rattle.std.proofs.Math.Logic.{inl, inr, ⊎_elim}
use Rattle.words.specs.Sizes.{ID, LOW}
use Rattle.words.specs.Lists.{least}
use Rattle.rules.proofs.Theory.Cases.{by_eq, by_le}
use Rattle.rules.specs.Snapshot.{occupied, horizon_of}
use Rattle.rules.specs.Exactly.{In}
use Rattle.rules.specs.Horizon.{Occupies, Bound}

-- ---- the least of a list and a ceiling
pub least_at_most : (c : ℕ) (l : List ℕ) → least c l ≤ c
unfolding least
least_at_most c [] = omega arith
least_at_most c (x ∷ l) = omega (arith, least_at_most c l)

pub least_at_most_each : (c : ℕ) (l : List ℕ) (x : ℕ) → In x l → least c l ≤ x
unfolding least
least_at_most_each c [] x i = absurd i
least_at_most_each c (y ∷ l) x (inl e) = omega (arith, e)
least_at_most_each c (y ∷ l) x (inr i) = omega (arith, least_at_most_each c l x i)

pub least_is_one : (c : ℕ) (l : List ℕ) → (least c l ≡ c) ⊎ In (least c l) l
unfolding least
least_is_one c [] = inl refl
least_is_one c (x ∷ l) = by_le x (least c l)
    (λ b. inr (inl (omega arith)))
    (λ b.
    let e : min x (least c l) ≡ least c l = omega arith in
    subst (λ (y : ℕ). (y ≡ c) ⊎ In y (x ∷ l)) (sym e) (⊎_elim inl (λ i. inr (inr i)) (least_is_one c l)))

shifted : (t : List ℕ) (l : List (List ℕ)) (j x : ℕ) → Occupies l j x → Occupies (t ∷ l) j x
shifted t l j x o = record { slot = suc o.slot; inside = omega (arith, o.inside); taken = o.taken; word = o.word }

occupied_to : (j : ℕ) (l : List (List ℕ)) (x : ℕ) → In x (occupied j l) → Occupies l j x
unfolding occupied
occupied_to j [] x i = absurd i
occupied_to j (t ∷ l) x i = by_eq (get_or t ID 0) 0
    (λ e. shifted t l j x (occupied_to j l x (rw (eq-eqb (get_or t ID 0) 0 e) at i)))
    (λ n. on n (rw (ne_eqb (get_or t ID 0) 0 n) at i) (occupied_to j l x))
  where
    on : get_or t ID 0 ≢ 0 → In x (get_or t j 0 ∷ occupied j l) → (In x (occupied j l) → Occupies l j x) → Occupies (t ∷ l) j x
    on n (inl e) f = record { slot = 0; inside = omega arith; taken = n; word = e }
    on n (inr i) f = shifted t l j x (f i)

occupied_from : (j : ℕ) (l : List (List ℕ)) (x s : ℕ) → s < length l → get_or (get_or l s []) ID 0 ≢ 0 → x ≡ get_or (get_or l s []) j 0 → In x (occupied j l)
unfolding occupied
occupied_from j [] x s b n e = absurd (omega arith)
occupied_from j (t ∷ l) x zero b n e = rw (ne_eqb (get_or t ID 0) 0 n) (inl e)
occupied_from j (t ∷ l) x (suc s) b n e = by_eq (get_or t ID 0) 0
    (λ q. rw (eq-eqb (get_or t ID 0) 0 q) (occupied_from j l x s (omega arith) n e))
    (λ q. rw (ne_eqb (get_or t ID 0) 0 q) (inr (occupied_from j l x s (omega arith) n e)))

pub occupied_exactly : (j : ℕ) (l : List (List ℕ)) (x : ℕ) → In x (occupied j l) ↔ Occupies l j x
occupied_exactly j l x = (occupied_to j l x, λ o. occupied_from j l x o.slot o.inside o.taken o.word)

module _ (request now : ℕ) (slots : List (List ℕ)) where
  pub horizon_at_most_each_bound : (x : ℕ) → Bound request now slots x → horizon_of request now slots ≤ x
  unfolding horizon_of
  horizon_at_most_each_bound x (inl e) = omega (arith, e, least_at_most (min request now) (occupied LOW slots))
  horizon_at_most_each_bound x (inr (inl e)) = omega (arith, e, least_at_most (min request now) (occupied LOW slots))
  horizon_at_most_each_bound x (inr (inr o)) = least_at_most_each (min request now) (occupied LOW slots) x ((occupied_exactly LOW slots x).1 o)

  pub horizon_is_a_bound : Bound request now slots (horizon_of request now slots)
  unfolding horizon_of
  horizon_is_a_bound = ⊎_elim
      (λ e. by_le request now (λ b. inl (e ∙ omega arith)) (λ b. inr (inl (e ∙ omega arith))))
      (λ i. inr (inr ((occupied_exactly LOW slots _).0 i)))
      (least_is_one (min request now) (occupied LOW slots))

  -- an equality: what is at most each bound and equal to one is the horizon
  pub horizon_is_the_least : (h : ℕ) → ((x : ℕ) → Bound request now slots x → h ≤ x) → Bound request now slots h → h ≡ horizon_of request now slots
  horizon_is_the_least h low one =
      let a = low (horizon_of request now slots) horizon_is_a_bound in
      let b = horizon_at_most_each_bound h one in
      omega arith
