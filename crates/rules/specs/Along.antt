-- A chain as a reader of the paper sees it: following next from the head passes these cells and comes to this pointer. What `look`
-- and `chain` come to, exactly, in these words.
use Prim.Native.Nat.{ℕ}
use mathlib.Core.List.{List, [], ◌∷◌}
use Rattle.std.specs.Prelude.{◌≡◌}
use Rattle.kinds.specs.declared.Version.{Version}
use Rattle.rules.specs.Exactly.{All}
use Rattle.rules.specs.Terms.{CellOf}

-- from pointer h the next pointers pass exactly the cells of l, in order, and come to pointer p
abbrev pub Along : (ℕ → Version) → ℕ → List ℕ → ℕ → Type 0
Along f h [] p = h ≡ p
Along f h (c ∷ l) p = (h ≡ c) × Along f (f c).next.0 l p

-- ... and each cell passed is one of 1 to N
pub record Way (n : ℕ) (f : ℕ → Version) (h : ℕ) (l : List ℕ) (p : ℕ) : Type 0 where
  pub along : Along f h l p
  pub cells : All (CellOf n) l
