-- What publication leaves, entry by entry: "for each write: base xmax = id and unlocked, new next = base, head = new". Heads on any
-- memory; cells where the cells of the write set are apart, as they are in every store that our calls have made.
use Rattle.std.specs.Prelude.{ℕ, ◌≤◌, ◌≢◌}
use mathlib.Core.List.{List, [], ◌∷◌}
use Rattle.std.proofs.Math.ListN.{length}
use Rattle.words.specs.Slots.{Write}
use Rattle.rules.specs.Exactly.{All}
use Rattle.rules.specs.Theory.CellLaws.{HasCell}

-- the cells of write y are not those of write q before it
pub record From (q y : Write) : Type 0 where
  pub news : q.new ≢ y.new
  pub new_base : q.base ≢ y.new
  pub base_new : y.base ≢ q.new
  pub bases : q.base ≢ 0 → q.base ≢ y.base

-- the cells of a write set are apart; several may have base 0
abbrev pub Apart : List Write → Type 0
Apart [] = Unit {0}
Apart (w ∷ l) = (w.base ≢ w.new) × All (From w) l × Apart l

-- the arena has both cells of a write
pub record HasCells (cs : List (List ℕ)) (w : Write) : Type 0 where
  pub base : w.base ≤ length cs
  pub new : HasCell cs w.new
