-- What the two definitions of `Horizon.antt` come to. Each is an equality and no bound: the number is at most every number that it is taken
-- from, and is one of them, and no second number is.
use Rattle.std.specs.Prelude.{ℕ, ◌≤◌, true, List, ◌≡◌}
use Rattle.words.specs.Lists.{has}

-- r is the least number of l
pub record IsLeast (r : ℕ) (l : List ℕ) : Type 0 where
  pub one_of : has r l ≡ true
  pub at_most : (x : ℕ) → has x l ≡ true → r ≤ x
