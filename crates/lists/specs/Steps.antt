-- A list read member by member, as a loop over its slice knows it: what is left at index i, and the end.
use Rattle.std.specs.Prelude.{ℕ, zero, suc, ◌+◌, ◌-◌, ◌<◌, ◌≤◌, List, [], ◌∷◌, ◌≡◌, length, get_or, drop, map}
use Rattle.std.proofs.Common.{ap, arith}
use Rattle.std.proofs.lemmas.List.{drop_more, drop_all}
use Rattle.words.specs.Slots.{words}

-- words from index a on, one after the other, whatever the list has
pub words_step : (t : List ℕ) (a k : ℕ) → 0 < k → words t a k ≡ get_or t a 0 ∷ words t (a + 1) (k - 1)
unfolding words
words_step t a zero h = absurd (omega arith)
words_step t a (suc k) h =
    let e : suc k - 1 ≡ k = omega arith in
    rw e

module _ {X Y : Type 0} (f : X → Y) (xs : List X) where
  pub map_step : (i : ℕ) (d : X) → i < length xs → map f (drop i xs) ≡ f (get_or xs i d) ∷ map f (drop (i + 1) xs)
  map_step i d h = ap (map f) (drop_more xs i d h)

  pub map_done : (i : ℕ) → length xs ≤ i → map f (drop i xs) ≡ []
  map_done i h = ap (map f) (drop_all i xs h)
