-- What the two definitions of `Horizon.antt` come to. Each is an equality and no bound: the number is at most every number that it is taken
-- from, and is one of them, and no second number is.
use Rattle.std.specs.Prelude.{ℕ, zero, suc, ◌<◌, ◌≤◌, min, Bool, true, false, List, [], ◌∷◌, map, ◌≢◌, ◌≡◌, refl, eqb, leb, length, get_or}
use Rattle.std.proofs.Common.{le_antisymm, arith, sym, eq-eqb, ne_eqb, eqb-true, leb-true, leb-false}
use Rattle.std.proofs.lemmas.Bool.{false≢true}
use Rattle.words.specs.Lists.{has, keep, least}
use Rattle.records.specs.declared.Slot.{Slot}
use Rattle.records.specs.Horizon.{occupied, xmins, ids, horizon_of, least_active}
use Rattle.records.proofs.FoldLaws.{lower_ceiling}
use Rattle.records.specs.LeastLaws.{IsLeast}

-- no second number is
pub least_is_one : (r t : ℕ) (l : List ℕ) → IsLeast r l → IsLeast t l → r ≡ t
least_is_one r t l a b = le_antisymm (a.at_most t b.one_of) (b.at_most r a.one_of)

-- ---- the least of a list
-- a member of a list with one number more: that number, or a member of the rest
member : (x y : ℕ) (l : List ℕ) {C : Type 0} → has x (y ∷ l) ≡ true → (x ≡ y → C) → (has x l ≡ true → C) → C
unfolding has
member x y l {C} h f g = by_test (eqb x y) refl
  where
    by_test : (b : Bool) → eqb x y ≡ b → C
    by_test true e = f (eqb-true x y e)
    by_test false e = g (rw e at h)

here : (x y : ℕ) (l : List ℕ) → x ≡ y → has x (y ∷ l) ≡ true
unfolding has
here x y l e = rw (eq-eqb x y e)

there : (x y : ℕ) (l : List ℕ) → has x l ≡ true → has x (y ∷ l) ≡ true
unfolding has
there x y l h = by_test (eqb x y) refl
  where
    by_test : (b : Bool) → eqb x y ≡ b → has x (y ∷ l) ≡ true
    by_test true e = rw e
    by_test false e = rw (e, h)

-- the order of the first two says nothing
swap : (x y z : ℕ) (l : List ℕ) → has x (y ∷ z ∷ l) ≡ true → has x (z ∷ y ∷ l) ≡ true
swap x y z l h = member x y (z ∷ l) h (λ e. there x z (y ∷ l) (here x y l e)) (λ g. member x z l g (here x z (y ∷ l)) (λ k. there x z (y ∷ l) (there x y l k)))

-- one number more
with_one : (y m : ℕ) (l : List ℕ) → IsLeast m l → IsLeast (min y m) (y ∷ l)
with_one y m l a = record { one_of = by_test (leb y m) refl; at_most = λ x h. member x y l h (λ e. omega arith) (λ g. let k = a.at_most x g in omega arith) }
  where
    by_test : (b : Bool) → leb y m ≡ b → has (min y m) (y ∷ l) ≡ true
    by_test true e =
        let k = leb-true y m e in
        here (min y m) y l (omega arith)
    by_test false e =
        let k = leb-false y m e in
        let q : m ≡ min y m = omega arith in
        there (min y m) y l (rw (sym q) a.one_of)

pub least_is_least : (c : ℕ) (l : List ℕ) → IsLeast (least c l) (c ∷ l)
unfolding least has
least_is_least c [] = record { one_of = here c c [] refl; at_most = λ x h. member x c [] h (λ e. omega arith) none }
  where
    none : {x : ℕ} → has x [] ≡ true → c ≤ x
    none e = absurd (false≢true e)
least_is_least c (y ∷ l) =
    let a = with_one y (least c l) (c ∷ l) (least_is_least c l) in
    record { one_of = swap _ y c l a.one_of; at_most = λ x h. a.at_most x (swap x c y l h) }

-- ---- the two definitions
-- "least of the request, the clock and the snapshot xmin of all occupied slots"
pub horizon_is_the_least : (slots : List Slot) (clock request : ℕ) → IsLeast (horizon_of slots clock request) (request ∷ clock ∷ xmins slots)
unfolding horizon_of
horizon_is_the_least slots clock request = rw (lower_ceiling request clock (xmins slots)) (with_one request (least clock (xmins slots)) (clock ∷ xmins slots) (least_is_least clock (xmins slots)))

pub least_active_is_the_least : (slots : List Slot) (clock : ℕ) → IsLeast (least_active slots clock) (clock ∷ ids slots)
unfolding least_active
least_active_is_the_least slots clock = least_is_least clock (ids slots)

-- ---- slot by slot
-- the number of every occupied slot is among those that the least is taken of; `d` is what would stand past the end
pub occupied_counts : (own : Slot → ℕ) (slots : List Slot) (i : ℕ) (d : Slot) → i < length slots → (get_or slots i d).id ≢ 0 → has (own (get_or slots i d)) (map own (occupied slots)) ≡ true
unfolding keep
occupied_counts own [] i d h n = absurd (omega arith)
occupied_counts own (s ∷ l) zero d h n = rw (ne_eqb s.id 0 n) (here (own s) (own s) (map own (occupied l)) refl)
occupied_counts own (s ∷ l) (suc i) d h n = by_test (occupied_counts own l i d (omega arith) n) (eqb s.id 0) refl
  where
    by_test : has (own (get_or l i d)) (map own (occupied l)) ≡ true → (b : Bool) → eqb s.id 0 ≡ b → has (own (get_or l i d)) (map own (occupied (s ∷ l))) ≡ true
    by_test rest true e = rw e rest
    by_test rest false e = rw e (there (own (get_or l i d)) (own s) (map own (occupied l)) rest)

module _ (slots : List Slot) (clock request : ℕ) where
  pub horizon_at_most_request : horizon_of slots clock request ≤ request
  horizon_at_most_request = (horizon_is_the_least slots clock request).at_most request (here request request (clock ∷ xmins slots) refl)

  pub horizon_at_most_clock : horizon_of slots clock request ≤ clock
  horizon_at_most_clock = (horizon_is_the_least slots clock request).at_most clock (there clock request (clock ∷ xmins slots) (here clock clock (xmins slots) refl))

  pub horizon_at_most_xmin : (i : ℕ) (d : Slot) → i < length slots → (get_or slots i d).id ≢ 0 → horizon_of slots clock request ≤ (get_or slots i d).xmin
  horizon_at_most_xmin i d h n =
      (horizon_is_the_least slots clock request).at_most _ (there _ request (clock ∷ xmins slots) (there _ clock (xmins slots) (occupied_counts (λ s. s.xmin) slots i d h n)))

module _ (slots : List Slot) (clock : ℕ) where
  pub least_active_at_most_clock : least_active slots clock ≤ clock
  least_active_at_most_clock = (least_active_is_the_least slots clock).at_most clock (here clock clock (ids slots) refl)

  pub least_active_at_most_id : (i : ℕ) (d : Slot) → i < length slots → (get_or slots i d).id ≢ 0 → least_active slots clock ≤ (get_or slots i d).id
  least_active_at_most_id i d h n = (least_active_is_the_least slots clock).at_most _ (there _ clock (ids slots) (occupied_counts (λ s. s.id) slots i d h n))
