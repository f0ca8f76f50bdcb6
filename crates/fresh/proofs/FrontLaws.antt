-- Storing a list from the front of an arena: what is stored is the list's front, as far as the arena reaches, and the rest stays.
use Rattle.std.specs.Prelude.{ℕ, zero, suc, ◌+◌, ◌-◌, ◌≤◌, ◌<◌, min, cond, List, [], ◌∷◌, ◌++◌, ◌≡◌, refl, length, set, replicate, get_or, take, drop, eqb}
use Rattle.std.proofs.Common.{ap, sym, ◌∙◌, arith, le-leb}
use Rattle.std.proofs.lemmas.List.{length-take, length-replicate, take-replicate, take_all, take_more, take_more_set}
use Rattle.std.proofs.lemmas.List.Edits.{sets}
use Rattle.std.proofs.Math.Dec.{eqb-suc-zero}
use Rattle.std.proofs.lemmas.Bool.{lt-leb}
use Rattle.kinds.specs.Versions.{empty_version, words_of}
use Rattle.rules.specs.Create.{fresh_cells}
use Rattle.fresh.specs.StoreLaws.{link_after}

module _ {A : Type 0} where
  -- in an empty arena nothing is stored
  sets_none : (vs : List A) (i : ℕ) → sets [] i vs ≡ []
  sets_none [] i = refl
  sets_none (v ∷ vs) i = sets_none vs (suc i)

  sets_past : (x : A) (l vs : List A) (i : ℕ) → sets (x ∷ l) (suc i) vs ≡ x ∷ sets l i vs
  sets_past x l [] i = refl
  sets_past x l (v ∷ vs) i = sets_past x (set l i v) vs (suc i)

  stored : (l vs : List A) (k : ℕ) → k ≡ min (length vs) (length l) → take k vs ++ drop k l ≡ sets l 0 vs
  stored [] vs k e =
      let z : k ≡ 0 = omega arith in
      rw (z, sets_none vs 0)
  stored (x ∷ l) [] k e =
      let z : k ≡ 0 = omega arith in
      rw z
  stored (x ∷ l) (v ∷ vs) zero e = absurd (omega arith)
  stored (x ∷ l) (v ∷ vs) (suc k) e = ap (λ r. v ∷ r) (stored l vs k (omega arith)) ∙ sym (sets_past v l vs 0)

  -- `ys` is what the first k places hold
  pub front_sets : (l vs : List A) (k : ℕ) (ys : List A) → k ≡ min (length vs) (length l) → ys ≡ take (length (take k l)) vs → ys ++ drop k l ≡ sets l 0 vs
  front_sets l vs k ys e f =
      let q : length (take k l) ≡ k = simp length-take (omega arith) in
      rw (f, q) (stored l vs k e)

  -- one thing, n times
  pub front_fill : (l : List A) (a : A) (n k : ℕ) (ys : List A) → k ≡ min n (length l) → ys ≡ replicate (length (take k l)) a → ys ++ drop k l ≡ sets l 0 (replicate n a)
  front_fill l a n k ys e f = front_sets l (replicate n a) k ys (rw length-replicate e) (f ∙ sym (take-replicate _ n a (simp length-take (omega arith))))

  -- a loop has come to the end of the n places
  pub at_end : (zs : ℕ → List A) (n i : ℕ) (ys : List A) → length ys ≡ n → i ≤ n → n ≤ i → take i ys ≡ zs i → ys ≡ zs n
  at_end zs n i ys a b c e =
      let q : i ≡ n = omega arith in
      sym (take_all n ys (omega arith)) ∙ (rw q at e)

-- ---- free cells, n of them: cell i + 1 stands at index i
length_fresh : (n c : ℕ) → length (fresh_cells n c) ≡ n
unfolding fresh_cells
length_fresh zero c = refl
length_fresh (suc n) c = ap suc (length_fresh n (c + 1))

fresh_at : (n i c k : ℕ) → n ≡ i + suc k → get_or (fresh_cells n c) i [] ≡ words_of empty_version (cond (eqb k 0) 0 (c + i + 1))
unfolding fresh_cells
fresh_at zero i c k e = absurd (omega arith)
fresh_at (suc n) zero c k e =
    let q : n ≡ k = omega arith in
    let z : c + 0 + 1 ≡ c + 1 = omega arith in
    rw (q, z)
fresh_at (suc n) (suc i) c k e =
    let z : c + suc i + 1 ≡ c + 1 + i + 1 = omega arith in
    rw z (fresh_at n i (c + 1) k (omega arith))

link_is : (n i k : ℕ) → n ≡ i + suc k → cond (eqb k 0) 0 (1 + i + 1) ≡ link_after (i + 1) n
link_is n i zero e = rw (le-leb n (i + 1) (omega arith))
link_is n i (suc k) e = rw (eqb-suc-zero k, lt-leb n (i + 1) (omega arith)) (omega arith)

-- cell i + 1 is stored
pub front_fresh_more : (l : List (List ℕ)) (n i : ℕ) → i < n → i < length l → take i l ≡ take i (fresh_cells n 1)
    → take (i + 1) (set l i (words_of empty_version (link_after (i + 1) n))) ≡ take (i + 1) (fresh_cells n 1)
front_fresh_more l n i h g e =
    let k = n - (i + 1) in
    let q : n ≡ i + suc k = omega arith in
    take_more_set l i _ g
    ∙ ap (λ t. t ++ words_of empty_version (link_after (i + 1) n) ∷ []) e
    ∙ ap (λ t. take i (fresh_cells n 1) ++ t ∷ []) (ap (words_of empty_version) (sym (link_is n i k q)) ∙ sym (fresh_at n i 1 k q))
    ∙ sym (take_more (fresh_cells n 1) i [] (rw length_fresh h))

pub front_fresh : (l : List (List ℕ)) (n k : ℕ) (ys : List (List ℕ)) → k ≡ min n (length l) → ys ≡ take (length (take k l)) (fresh_cells n 1) → ys ++ drop k l ≡ sets l 0 (fresh_cells n 1)
front_fresh l n k ys e f = front_sets l (fresh_cells n 1) k ys (rw length_fresh e) f
