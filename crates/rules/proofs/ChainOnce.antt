-- A chain that comes to pointer 0 passes each cell once: next is a function of the cell, so a repeat would never end.
use Rattle.std.specs.Prelude.{ℕ, ◌<◌, List, [], ◌∷◌, ◌≡◌, refl, length}
use Rattle.std.proofs.Common.{sym, ap, ◌∙◌, subst, inl, inr, arith}
use Rattle.kinds.specs.declared.Version.{Version}
use Rattle.rules.specs.Exactly.{In, All}
use Rattle.rules.specs.Terms.{CellOf}
use Rattle.rules.specs.Along.{Along, Way}
use Rattle.rules.specs.Members.{Once}

module _ (n : ℕ) (f : ℕ → Version) where
  -- two ways from one pointer to pointer 0 are one
  pub along_one : (l r : List ℕ) (p : ℕ) → Along f p l 0 → Along f p r 0 → All (CellOf n) l → All (CellOf n) r → l ≡ r
  along_one [] [] p a b c d = refl
  along_one [] (y ∷ r) p a b c d = absurd (omega (arith, a, b.0, d.0.low))
  along_one (x ∷ l) [] p a b c d = absurd (omega (arith, b, a.0, c.0.low))
  along_one (x ∷ l) (y ∷ r) p a b c d =
      let e : y ≡ x = sym b.0 ∙ a.0 in
      let b' : Along f (f x).next.0 r 0 = subst (λ (w : ℕ). Along f (f w).next.0 r 0) e b.1 in
      let i = along_one l r (f x).next.0 a.1 b' c.1 d.1 in
      rw (e, i)

  -- from a cell that is passed, a shorter way to pointer 0
  shorter : (l : List ℕ) (p c : ℕ) → Along f p l 0 → All (CellOf n) l → In c l → (r : List ℕ) × Along f (f c).next.0 r 0 × All (CellOf n) r × (length r < length l)
  shorter [] p c a h i = absurd i
  shorter (x ∷ l) p c a h (inl e) = (l, subst (λ (w : ℕ). Along f (f w).next.0 l 0) (sym e) a.1, h.1, omega arith)
  shorter (x ∷ l) p c a h (inr i) =
      let r = shorter l (f x).next.0 c a.1 h.1 i in
      (r.0, r.1, r.2, omega (arith, r.3))

  once : (l : List ℕ) (p : ℕ) → Along f p l 0 → All (CellOf n) l → Once l
  once [] p a h = tt
  once (x ∷ l) p a h = (
    (λ i.
        let r = shorter l (f x).next.0 x a.1 h.1 i in
        let e = along_one l r.0 (f x).next.0 a.1 r.1 h.1 r.2 in
        let g : length l ≡ length r.0 = ap length e in
        omega (arith, r.3)),
    once l (f x).next.0 a.1 h.1,
  )

  pub chain_passes_each_cell_once : (l : List ℕ) (p : ℕ) → Way n f p l 0 → Once l
  chain_passes_each_cell_once l p w = once l p w.along w.cells

  -- a way that is the same under other versions, where its cells have the same next
  pub along_agree : (g : ℕ → Version) (l : List ℕ) (p q : ℕ) → All (λ c. (f c).next.0 ≡ (g c).next.0) l → Along f p l q → Along g p l q
  along_agree g [] p q h a = a
  along_agree g (c ∷ l) p q h a = (a.0, along_agree g l (g c).next.0 q h.1 (subst (λ (y : ℕ). Along f y l q) h.0 a.1))
