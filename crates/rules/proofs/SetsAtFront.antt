-- Values stored at the front of a lent list: the front is they, the rest is untouched.
use Rattle.std.specs.Prelude.{ℕ, ◌+◌, ◌-◌, ◌≤◌, ◌<◌, List, ◌++◌, ◌≡◌, length, get_or, drop}
use Rattle.std.proofs.Common.{ap, ◌∙◌, arith, get_or-append-add, get_or-drop}
use Rattle.std.proofs.Math.ListN.{get_or-append}
use Rattle.std.proofs.lemmas.List.Edits.{sets, sets-eq}

module _ {A : Type 0} (l vs : List A) (d : A) (fits : length vs ≤ length l) where
  at_front : sets l 0 vs ≡ vs ++ drop (0 + length vs) l
  at_front = sets-eq vs l 0 (omega arith)

  pub front_is : (i : ℕ) → i < length vs → get_or (sets l 0 vs) i d ≡ get_or vs i d
  front_is i h = rw at_front (get_or-append vs (drop (0 + length vs) l) d i h)

  pub rest_is : (i : ℕ) → length vs ≤ i → get_or (sets l 0 vs) i d ≡ get_or l i d
  rest_is i h =
      let e : i ≡ length vs + (i - length vs) = omega arith in
      let g : 0 + length vs + (i - length vs) ≡ i = omega arith in
      rw at_front (ap (λ (j : ℕ). get_or (vs ++ drop (0 + length vs) l) j d) e ∙ get_or-append-add vs (drop (0 + length vs) l) (i - length vs) d ∙ get_or-drop (0 + length vs) l (i - length vs) d ∙ ap (λ (j : ℕ). get_or l j d) g)
