-- The first seen version of a chain, and what lies in front of it, where members of the chain are left out.
use Rattle.std.specs.Prelude.{ℕ, ◌<◌, Bool, true, false, ◌≡◌, refl, ◌≢◌}
use mathlib.Core.List.{List, [], ◌∷◌}
use Rattle.std.proofs.Math.Option.{some}
use Rattle.std.proofs.Common.{sym, ap, ◌∙◌, subst, arith}
use Rattle.std.proofs.Math.Logic.{inl, inr}
use Rattle.kinds.specs.declared.Version.{Version}
use Rattle.words.specs.Lists.{first}
use Rattle.rules.proofs.Theory.Cases.{by_bool, no_both}
use Rattle.rules.specs.Exactly.{In, All}
use Rattle.rules.proofs.Exactly.{all_map}
use Rattle.rules.specs.Along.{Along}
use Rattle.rules.proofs.Members.{all_in, in_all, picks_in}
use Rattle.rules.specs.VacuumRefuses.{Picks}
use Rattle.upstream.specs.Images.{Image, Snapshot}
use Rattle.upstream.specs.Seen.{visible, first_visible}
use Rattle.upstream.proofs.Reading.{first_visible_is_first_of_the_chain}
use Rattle.upstream.specs.RetentionTerms.{first_seen, down_to}
use Rattle.upstream.specs.Chains.{Falling}

-- 000's `first_visible` is the first visible of the chain's cells
pub first_visible_is_first_seen : (s : Image) (p : ℕ) (t : Snapshot) → first_visible s p t ≡ first_seen (λ v. visible v t) s p
first_visible_is_first_seen s p t = first_visible_is_first_of_the_chain s s.cells p t

-- ---- the first that passes
-- it is a member, and it passes
pub first_in : (p : ℕ → Bool) (l : List ℕ) (c : ℕ) → first p l ≡ some c → In c l × (p c ≡ true)
unfolding first
first_in p [] c e = absurd (let q : ◌≡◌ {A = ℕ} 0 1 = cc in omega arith)
first_in p (a ∷ l) c e = by_bool (p a)
    (λ b.
    let g : some a ≡ some c = rw b at e in
    let h : a ≡ c = cc in
    (inl (sym h), subst (λ (y : ℕ). p y ≡ true) h b))
    (λ b. let i = first_in p l c (rw b at e) in (inr i.0, i.1))

-- Leaving out members that do not pass changes nothing: k is l without those that have P
pub first_without : (p q : ℕ → Bool) (P : ℕ → Type 0) (l k : List ℕ) → Picks (λ c. P c → ⊥) l k → ((c : ℕ) → In c l → P c → p c ≡ false) → ((c : ℕ) → In c k → q c ≡ p c) → first q k ≡ first p l
unfolding first
first_without p q P [] k i unseen same = rw i
first_without p q P (a ∷ l) k (inl i) unseen same =
    let f : (c : ℕ) → In c (a ∷ i.1.0) → q c ≡ p c = λ c j. same c (subst (In c) (sym i.1.1) j) in
    rw (i.1.1, f a (inl refl))
    (by_bool (p a) (λ b. rw b) (λ b. rw b (first_without p q P l i.1.0 i.1.2 (λ c j. unseen c (inr j)) (λ c j. f c (inr j)))))
first_without p q P (a ∷ l) k (inr i) unseen same =
    let b : p a ≡ false = by_bool (p a) (λ e. absurd (i.0 (λ x. no_both (p a) e (unseen a (inl refl) x)))) (λ e. e) in
    rw b (first_without p q P l k i.1 (λ c j. unseen c (inr j)) same)

-- ---- down to the first seen
module _ (see : Version → Bool) (f : ℕ → Version) where
  pub down_to_in : (l : List ℕ) (c : ℕ) → In c (down_to see f l) → In c l
  unfolding down_to
  down_to_in [] c i = i
  down_to_in (a ∷ l) c (inl e) = inl e
  down_to_in (a ∷ l) c (inr i) = by_bool (see (f a))
      (λ b. let j : In c [] = rw b at i in absurd j)
      (λ b. inr (down_to_in l c (rw b at i)))

only : (a c : ℕ) → some a ≢ some c → In c (a ∷ []) → ⊥
only a c m (inl e) = m (ap some (sym e))
only a c m (inr e) = e

-- Following next in f passes a and then l; in g it passes a and then k, which is l without those that have P. Down to the first seen
-- nothing has P: so next is the same there, but for the first seen itself.
pub next_same_above : (see : Version → Bool) (f g : ℕ → Version) (P : ℕ → Type 0) (a : ℕ) (l k : List ℕ) → Along f (f a).next.0 l 0 → Along g (g a).next.0 k 0 → Picks (λ c. P c → ⊥) l k
    → ((c : ℕ) → In c (down_to see f (a ∷ l)) → P c → ⊥) → (c : ℕ) → In c (down_to see f (a ∷ l)) → first (λ x. see (f x)) (a ∷ l) ≢ some c → (f c).next.0 ≡ (g c).next.0
unfolding down_to first
next_same_above see f g P a [] k x y q n c i ne = by_bool (see (f a))
    (λ b. absurd (only a c (rw b at ne) (rw b at i)))
    (λ b. last (rw b at i))
  where
    last : In c (a ∷ []) → (f c).next.0 ≡ (g c).next.0
    last (inl e) =
        let y' : (g a).next.0 ≡ 0 = subst (λ (r : List ℕ). Along g (g a).next.0 r 0) q y in
        rw e (x ∙ sym y')
    last (inr e) = absurd e
next_same_above see f g P a (d ∷ l) k x y (inl q) n c i ne = by_bool (see (f a))
    (λ b. absurd (only a c (rw b at ne) (rw b at i)))
    (λ b. on b (rw b at i) (λ j. next_same_above see f g P d l q.1.0 after_f after_g q.1.2 (λ x j. n x (rw b (inr j))) c j (rw b at ne)))
  where
    y' : Along g (g a).next.0 (d ∷ q.1.0) 0
    y' = subst (λ (r : List ℕ). Along g (g a).next.0 r 0) q.1.1 y

    after_f : Along f (f d).next.0 l 0
    after_f = x.1

    after_g : Along g (g d).next.0 q.1.0 0
    after_g = y'.1

    on : see (f a) ≡ false → In c (a ∷ down_to see f (d ∷ l)) → (In c (down_to see f (d ∷ l)) → (f c).next.0 ≡ (g c).next.0) → (f c).next.0 ≡ (g c).next.0
    on b (inl e) h = rw e (x.0 ∙ sym y'.0)
    on b (inr j) h = h j
next_same_above see f g P a (d ∷ l) k x y (inr q) n c i ne = by_bool (see (f a))
    (λ b. absurd (only a c (rw b at ne) (rw b at i)))
    (λ b. absurd (q.0 (n d (rw b (inr (inl refl))))))

-- a rank that falls along next falls along the chain's list
pub falling_along : (f : ℕ → Version) (rank : ℕ → ℕ) (l : List ℕ) (h : ℕ) → All (λ c. (f c).next.0 ≢ 0 → rank (f c).next.0 < rank c) l → All (λ c. c ≢ 0) l → Along f h l 0 → Falling rank l
falling_along f rank [] h falls real a = tt
falling_along f rank (c ∷ []) h falls real a = (tt, tt)
falling_along f rank (c ∷ d ∷ l) h falls real a =
    let r = falling_along f rank (d ∷ l) (f c).next.0 falls.1 real.1 a.1 in
    let lt : rank d < rank c = subst (λ (y : ℕ). rank y < rank c) a.1.0 (falls.0 (λ e. real.1.0 (sym a.1.0 ∙ e))) in
    ((lt, all_map (λ (x : ℕ). rank x < rank d) (λ (x : ℕ). rank x < rank c) (λ x b. omega arith) l r.0), r)

-- it falls along what is picked of the list
pub falling_picked : (rank : ℕ → ℕ) (P : ℕ → Type 0) (l k : List ℕ) → Picks P l k → Falling rank l → Falling rank k
falling_picked rank P [] k i f = rw i tt
falling_picked rank P (a ∷ l) k (inl i) f = rw i.1.1 (in_all _ i.1.0 (λ x j. all_in _ l f.0 x ((picks_in P l i.1.0 i.1.2 x).0 j).0), falling_picked rank P l i.1.0 i.1.2 f.1)
falling_picked rank P (a ∷ l) k (inr i) f = falling_picked rank P l k i.1 f.1

-- and so from a member of a chain to the next
pub falling_next : (g : ℕ → Version) (rank : ℕ → ℕ) (l : List ℕ) (h : ℕ) → Falling rank l → Along g h l 0 → (p : ℕ) → In p l → (g p).next.0 ≢ 0 → rank (g p).next.0 < rank p
falling_next g rank [] h f a p i n = absurd i
falling_next g rank (c ∷ []) h f a p (inl e) n = absurd (n (rw e a.1))
falling_next g rank (c ∷ []) h f a p (inr i) n = absurd i
falling_next g rank (c ∷ d ∷ l) h f a p (inl e) n = rw e (subst (λ (y : ℕ). rank y < rank c) (sym a.1.0) f.0.0)
falling_next g rank (c ∷ d ∷ l) h f a p (inr i) n = falling_next g rank (d ∷ l) (g c).next.0 f.1 a.1 p i n
