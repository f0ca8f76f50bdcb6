-- Two strings of bytes compared byte by byte.
use Rattle.std.specs.Prelude.{ℕ, Bool, true, false, ◌&&◌, List, [], ◌∷◌, ◌≡◌, refl, ◌≢◌, eqb, length}
use Rattle.std.proofs.Common.{ap}
use borrow.Author.Tests.{eq-eqb, eqb-true}
use Rattle.lines.specs.Lines.{same}

pub same_true : (s w : List ℕ) → s ≡ w → same s w ≡ true
unfolding same
same_true [] [] e = refl
same_true [] (b ∷ m) e = cc
same_true (a ∷ l) [] e = cc
same_true (a ∷ l) (b ∷ m) e = let q : a ≡ b = cc in let f : l ≡ m = cc in rw (eq-eqb a b q, same_true l m f)

pub same_false : (s w : List ℕ) → s ≢ w → same s w ≡ false
unfolding same
same_false [] [] n = absurd (n refl)
same_false [] (b ∷ m) n = refl
same_false (a ∷ l) [] n = refl
same_false (a ∷ l) (b ∷ m) n = by (eqb a b) refl (same_false l m)
  where
    by : (t : Bool) → eqb a b ≡ t → (l ≢ m → same l m ≡ false) → (t && same l m) ≡ false
    by true e k = let q : a ≡ b = eqb-true a b e in k (λ f. n cc)
    by false e k = refl

pub same_lengths : (s w : List ℕ) → length s ≢ length w → same s w ≡ false
same_lengths s w n = same_false s w (λ e. n (ap length e))
