-- Case analysis that follows the tests of the rules.
use Rattle.std.specs.Prelude.{Bool, true, false, ◌&&◌, ◌||◌, ◌≢◌, ◌≡◌, refl, ℕ, ◌≤◌, ◌<◌, eqb, leb}
use Rattle.std.proofs.lemmas.Bool.{false≢true, eqb-false}
use Rattle.std.proofs.Common.{sym, arith, eqb-true, leb-true, leb-false}

pub by_bool {ℓ} : {C : Type ℓ} (b : Bool) → (b ≡ true → C) → (b ≡ false → C) → C
by_bool true f g = f refl
by_bool false f g = g refl

pub by_eq {ℓ} : {C : Type ℓ} (a b : ℕ) → (a ≡ b → C) → (a ≢ b → C) → C
by_eq a b f g = by_bool (eqb a b) (λ e. f (eqb-true a b e)) (λ e. g (eqb-false a b e))

pub and_true : (a b : Bool) → (a && b) ≡ true → (a ≡ true) × (b ≡ true)
and_true true b e = (refl, e)
and_true false b e = absurd (false≢true e)

pub and_false : (b : Bool) → (b && false) ≡ false
and_false true = refl
and_false false = refl

pub or_false : (a b : Bool) → (a || b) ≡ false → (a ≡ false) × (b ≡ false)
or_false true b e = absurd (false≢true (sym e))
or_false false b e = (refl, e)

pub or_true : (b : Bool) → (b || true) ≡ true
or_true true = refl
or_true false = refl

pub by_le {ℓ} : {C : Type ℓ} (a b : ℕ) → (a ≤ b → C) → (b < a → C) → C
by_le a b f g = by_bool (leb a b) (λ e. f (leb-true a b e)) (λ e. g (leb-false a b e))

pub no_both : (b : Bool) → b ≡ true → b ≡ false → ⊥
no_both b p q =
    let z : ◌≡◌ {A = ℕ} 0 1 = cc in
    omega arith
