-- A commit's changes as single stores. Each sets fields of one cell, one head or the slot to values that the write set and the id give: all
-- are fixed before the first. And however often some of them were done before, in whatever order, the whole list comes to the same: a
-- commit that was cut between any two stores can be begun anew.
use Rattle.std.specs.Prelude.{ℕ, cond, eqb}
use mathlib.Core.List.{List, [], ◌∷◌, ◌++◌}
use Rattle.words.specs.Slots.{Write}

-- "base xmax = id and unlocked"; "new next = base"; "head = new"; "the slot is emptied"
pub data Store : Type 0 where
  mark : ℕ → Store
  link : ℕ → ℕ → Store
  move : ℕ → ℕ → Store
  clear : Store

-- "for each write"; a base of 0 is no cell
unfoldable pub write_stores : Write → List Store
write_stores w = cond (eqb w.base 0) [] (mark w.base ∷ []) ++ link w.new w.base ∷ move w.row w.new ∷ []

-- the stores of a commit, in order
unfoldable pub commit_stores : List Write → List Store
commit_stores [] = clear ∷ []
commit_stores (w ∷ l) = write_stores w ++ commit_stores l
