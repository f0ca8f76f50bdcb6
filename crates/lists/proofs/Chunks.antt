-- The triples of a list's words: the first of them, and what each is made of.
use Rattle.std.specs.Prelude.{ℕ, zero, suc, ◌+◌, ◌<◌, ◌≤◌, List, ◌∷◌, ◌≡◌, refl, get_or, take, drop, map}
use Rattle.std.specs.Simd.{first_chunks}
use Rattle.std.proofs.Common.{ap, ◌∙◌}
use Rattle.std.proofs.lemmas.List.{drop-drop, get_or-drop, get_or-take}
use native.Mathlib.Omega.{arith}
use Rattle.words.specs.Slots.{threes}

pub take_chunks : {X : Type 0} (n k m : ℕ) (xs : List X) → k ≤ m → take k (first_chunks n m xs) ≡ first_chunks n k xs
take_chunks n zero m xs h = refl
take_chunks n (suc k) zero xs h = absurd (omega arith)
take_chunks n (suc k) (suc m) xs h = ap (λ l. take n xs ∷ l) (take_chunks n k m (drop n xs) (omega arith))

module _ {A : Type 0} (f : ℕ → ℕ → ℕ → A) (t : List ℕ) where
  -- word i of the triple at a
  word : (a i j : ℕ) → i < 3 → a + i ≡ j → get_or (take 3 (drop a t)) i 0 ≡ get_or t j 0
  word a i j h e = get_or-take 3 (drop a t) i 0 h ∙ get_or-drop a t i 0 ∙ ap (λ n. get_or t n 0) e

  pub threes_chunks : (a k : ℕ) → map (λ w. f (get_or w 0 0) (get_or w 1 0) (get_or w 2 0)) (first_chunks 3 k (drop a t)) ≡ threes f t a k
  unfolding threes
  threes_chunks a zero = refl
  threes_chunks a (suc k) =
      let rest = ap (λ l. map (λ w. f (get_or w 0 0) (get_or w 1 0) (get_or w 2 0)) (first_chunks 3 k l)) (drop-drop 3 a t) ∙ threes_chunks (a + 3) k in
      λ i. f (word a 0 a (omega arith) (omega arith) i) (word a 1 (a + 1) (omega arith) refl i) (word a 2 (a + 2) (omega arith) refl i) ∷ rest i
