-- A slot's lists: the ids as a slice of the words, and the triples member by member, as a loop over them knows them.
use Rattle.std.specs.Prelude.{ℕ, zero, suc, ◌+◌, ◌-◌, ◌<◌, ◌≤◌, List, [], ◌∷◌, ◌||◌, ◌≡◌, refl, length, get_or, take, drop, nat_eq}
use Rattle.std.specs.List.{list_any}
use Rattle.std.proofs.Common.{sym, ap, ◌∙◌}
use Rattle.std.proofs.lemmas.Bool.Decides.{nat_tests}
use Rattle.std.proofs.lemmas.List.{drop_more}
use native.Mathlib.Omega.{arith}
use Rattle.words.specs.Lists.{has}
use Rattle.words.specs.Slots.{words, threes}

-- k words from index a on, where the list has them
pub words_take : (t : List ℕ) (a k : ℕ) → a + k ≤ length t → words t a k ≡ take k (drop a t)
unfolding words
words_take t a zero h = refl
words_take t a (suc k) h =
    ap (λ l. get_or t a 0 ∷ l) (words_take t (a + 1) k (omega arith)) ∙ sym (ap (take (suc k)) (drop_more t a 0 (omega arith)))

-- the search of a slice
pub has_any : (x : ℕ) (l : List ℕ) → list_any (λ y. nat_eq y x) l ≡ has x l
unfolding has
has_any x [] = refl
has_any x (y ∷ l) =
    let e : nat_eq y x ≡ nat_eq x y = grind (arith, nat_tests) in
    λ i. e i || has_any x l i

pub threes_step : {A : Type 0} (f : ℕ → ℕ → ℕ → A) (t : List ℕ) (a k : ℕ) → 0 < k
    → threes f t a k ≡ f (get_or t a 0) (get_or t (a + 1) 0) (get_or t (a + 2) 0) ∷ threes f t (a + 3) (k - 1)
unfolding threes
threes_step f t a zero h = absurd (omega arith)
threes_step f t a (suc k) h =
    let e : suc k - 1 ≡ k = omega arith in
    rw e

pub threes_done : {A : Type 0} (f : ℕ → ℕ → ℕ → A) (t : List ℕ) (a k : ℕ) → k ≤ 0 → threes f t a k ≡ []
unfolding threes
threes_done f t a k h =
    let e : k ≡ 0 = omega arith in
    rw e
