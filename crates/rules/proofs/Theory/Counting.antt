-- Counting in lists and sums over a list: what the invariant is made of.
use Rattle.std.specs.Prelude.{◌≢◌, ◌≡◌, refl, set, length, get_or}
use mathlib.Core.List.{List, [], ◌∷◌, ◌++◌}
use Rattle.std.proofs.Common.{ap, not-suc-le-zero, le_of_suc-le-suc, eq-eqb, ne_eqb}
use Prim.Native.Nat.{ℕ, ◌+◌, suc, ◌<◌, zero, ◌≤◌}
use native.Mathlib.Omega.{arith}
use Rattle.rules.specs.Theory.Counting.{bit, cnt, sum}

pub cnt_append : (x : ℕ) (a b : List ℕ) → cnt x (a ++ b) ≡ cnt x a + cnt x b
unfolding cnt
cnt_append x [] b = omega arith
cnt_append x (y ∷ a) b = omega (arith, cnt_append x a b)

pub cnt_same : (x : ℕ) (l : List ℕ) → cnt x (x ∷ l) ≡ suc (cnt x l)
unfolding cnt bit
cnt_same x l = rw (eq-eqb x x refl) (omega arith)

pub cnt_other : (x y : ℕ) (l : List ℕ) → x ≢ y → cnt x (y ∷ l) ≡ cnt x l
unfolding cnt bit
cnt_other x y l h = rw (ne_eqb x y h) (omega arith)

-- One place more than none: it is not the head, and it is not in the tail
pub cnt_head : (x y : ℕ) (l : List ℕ) → cnt x (y ∷ l) ≡ 0 → x ≢ y
cnt_head x y l h = λ e. let z : cnt y (y ∷ l) ≡ 0 = rw e at h in omega (arith, cnt_same y l)

pub cnt_tail : (x y : ℕ) (l : List ℕ) → cnt x (y ∷ l) ≡ 0 → cnt x l ≡ 0
unfolding cnt
cnt_tail x y l h = omega arith

module _ {A : Type 0} where
  pub sum_set : (f : A → ℕ) (l : List A) (i : ℕ) (a d : A) → i < length l → sum f (set l i a) + f (get_or l i d) ≡ sum f l + f a
  unfolding sum
  sum_set f [] i a d h = absurd (not-suc-le-zero h)
  sum_set f (x ∷ l) zero a d h = omega arith
  sum_set f (x ∷ l) (suc i) a d h = omega (arith, sum_set f l i a d (le_of_suc-le-suc h))

  -- a default that counts for nothing needs no bound on the index
  pub sum_at : (f : A → ℕ) (l : List A) (i : ℕ) (d : A) → f d ≡ 0 → f (get_or l i d) ≤ sum f l
  unfolding sum
  sum_at f [] i d z = omega arith
  sum_at f (x ∷ l) zero d z = omega arith
  sum_at f (x ∷ l) (suc i) d z = omega (arith, sum_at f l i d z)

  pub sum_two : (f : A → ℕ) (l : List A) (i j : ℕ) (d : A) → f d ≡ 0 → i ≢ j → f (get_or l i d) + f (get_or l j d) ≤ sum f l
  unfolding sum
  sum_two f [] i j d z ne = omega arith
  sum_two f (x ∷ l) zero zero d z ne = absurd (ne refl)
  sum_two f (x ∷ l) zero (suc j) d z ne = omega (arith, sum_at f l j d z)
  sum_two f (x ∷ l) (suc i) zero d z ne = omega (arith, sum_at f l i d z)
  sum_two f (x ∷ l) (suc i) (suc j) d z ne = omega (arith, sum_two f l i j d z (λ e. ne (ap suc e)))
