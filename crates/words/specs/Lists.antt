-- The few list functions that the rules are said with: a fold, a filter, the first such that.
use Rattle.std.specs.Prelude.{ℕ, zero, suc, min, max, Bool, false, not, ◌||◌, cond, List, [], ◌∷◌, eqb}
use Rattle.std.proofs.Math.Option.{Option, none, some}

abbrev pub nonzero : ℕ → Bool
nonzero x = not (eqb x 0)

-- x is in the list
unfoldable pub has : ℕ → List ℕ → Bool
has x [] = false
has x (y ∷ l) = eqb x y || has x l

module _ {A : Type 0} where
  -- the members that pass, in order
  unfoldable pub keep : (A → Bool) → List A → List A
  keep p [] = []
  keep p (a ∷ l) = cond (p a) (a ∷ keep p l) (keep p l)

  -- the first member that passes
  unfoldable pub first : (A → Bool) → List A → Option A
  first p [] = none
  first p (a ∷ l) = cond (p a) (some a) (first p l)

  abbrev pub or_else : Option A → Option A → Option A
  or_else (some a) o = some a
  or_else none o = o

  -- the last member that passes
  unfoldable pub last : (A → Bool) → List A → Option A
  last p [] = none
  last p (a ∷ l) = or_else (last p l) (cond (p a) (some a) none)

  -- one step for each member, in order
  unfoldable pub fold : {S : Type 0} → (A → S → S) → List A → S → S
  fold f [] s = s
  fold f (a ∷ l) s = fold f l (f a s)

-- the least of a list and a ceiling
unfoldable pub least : ℕ → List ℕ → ℕ
least c [] = c
least c (x ∷ l) = min x (least c l)

unfoldable pub greatest : List ℕ → ℕ
greatest [] = 0
greatest (x ∷ l) = max x (greatest l)

-- the numbers from a on, k of them
unfoldable pub from : ℕ → ℕ → List ℕ
from a zero = []
from a (suc k) = a ∷ from (suc a) k
