-- Counting in lists and sums over a list: what the invariant is made of.
use Rattle.std.specs.Prelude.{Bool, true, false, eqb}
use mathlib.Core.List.{List, [], ◌∷◌}
use Prim.Native.Nat.{ℕ, ◌+◌}

-- 1 where the test passes
unfoldable pub bit : Bool → ℕ
bit true = 1
bit false = 0

unfoldable pub cnt : ℕ → List ℕ → ℕ
cnt x [] = 0
cnt x (y ∷ l) = bit (eqb x y) + cnt x l

module _ {A : Type 0} where
  unfoldable pub sum : (A → ℕ) → List A → ℕ
  sum f [] = 0
  sum f (a ∷ l) = f a + sum f l
