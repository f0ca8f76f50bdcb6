-- A list of tests as the code answers it: fine, or the number and the value of the first that fails. A call that is guarded by tests is
-- done where the verdict is fine, and refused with the verdict's number and value where it is not.
use Rattle.std.specs.Prelude.{ℕ, Bool, true, false}
use mathlib.Core.List.{List, [], ◌∷◌, ◌++◌}
use Rattle.std.proofs.Math.Path.{◌≡◌, refl}
use Rattle.std.proofs.Common.{arith}
use Rattle.kinds.specs.Verdict.{Fine, Refused}
use Rattle.rules.specs.Outcome.{Test, guard, each}
use Rattle.rules.specs.Verdicts.{verdict, and_then}

by_bool {ℓ} : {C : Type ℓ} (b : Bool) → (b ≡ true → C) → (b ≡ false → C) → C
by_bool true f g = f refl
by_bool false f g = g refl

pub verdict_append : (a b : List Test) → verdict (a ++ b) ≡ and_then (verdict a) (verdict b)
unfolding verdict
verdict_append [] b = refl
verdict_append (t ∷ a) b = by_bool t.fails (λ e. rw e) (λ e. rw e (verdict_append a b))

-- a test more
pub verdict_fails : (t : Test) (l : List Test) → t.fails ≡ true → verdict (t ∷ l) ≡ Refused t.number t.value
unfolding verdict
verdict_fails t l e = rw e

pub verdict_passes : (t : Test) (l : List Test) → t.fails ≡ false → verdict (t ∷ l) ≡ verdict l
unfolding verdict
verdict_passes t l e = rw e

pub last_passes : (t : Test) → t.fails ≡ false → verdict (t ∷ []) ≡ Fine
unfolding verdict
last_passes t e = rw e

-- the tests of a list's members, one after the other
module _ {A : Type 0} (f : A → List Test) where
  pub verdict_none : verdict (each f []) ≡ Fine
  unfolding verdict each
  verdict_none = refl

  pub verdict_each : (a : A) (l : List A) → verdict (each f (a ∷ l)) ≡ and_then (verdict (f a)) (verdict (each f l))
  unfolding each
  verdict_each a l = verdict_append (f a) (each f l)

-- ---- the call that the tests guard
module _ {A : Type 0} (r : ℕ → ℕ → A) where
  pub guard_fine : (l : List Test) (a : A) → verdict l ≡ Fine → guard r l a ≡ a
  unfolding guard verdict
  guard_fine [] a h = refl
  guard_fine (t ∷ l) a h = by_bool t.fails (λ e. absurd (let g : Refused t.number t.value ≡ Fine = rw e at h in let z : ◌≡◌ {A = ℕ} 0 1 = cc in omega arith)) (λ e. rw e (guard_fine l a (rw e at h)))

  pub guard_refused : (l : List Test) (a : A) (k x : ℕ) → verdict l ≡ Refused k x → guard r l a ≡ r k x
  unfolding guard verdict
  guard_refused [] a k x h = absurd (let z : ◌≡◌ {A = ℕ} 0 1 = cc in omega arith)
  guard_refused (t ∷ l) a k x h = by_bool t.fails
      (λ e. let g : Refused t.number t.value ≡ Refused k x = rw e at h in let p : t.number ≡ k = cc in let q : t.value ≡ x = cc in rw (e, p, q))
      (λ e. rw e (guard_refused l a k x (rw e at h)))

  -- tests in two lists: the second is looked at where the first is fine
  pub guard_append : (a b : List Test) (x : A) → guard r (a ++ b) x ≡ guard r a (guard r b x)
  unfolding guard
  guard_append [] b x = refl
  guard_append (t ∷ a) b x = by_bool t.fails (λ e. rw e) (λ e. rw e (guard_append a b x))
