-- One equation for each effect: the view after a store of the arenas is the effect on the view before.
use Rattle.std.specs.Prelude.{List, [], ◌∷◌}
use Prim.Native.Nat.{ℕ, ◌<◌, ◌≤◌}
use Rattle.std.proofs.Math.ListN.{length}
use Rattle.words.specs.Sizes.{Sizes}
use Rattle.words.specs.Slots.{Write}
use Rattle.rules.specs.Memory.{Mem}
use Rattle.rules.specs.Theory.CellLaws.{HasCell}

-- commit
pub record WriteIn {z : Sizes} (m : Mem z) (w : Write) : Type 0 where
  pub row_in : w.row < length m.rows
  pub base_in : w.base ≤ length m.cells
  pub new_in : HasCell m.cells w.new

abbrev pub AllIn : {z : Sizes} → Mem z → List Write → Type 0
AllIn m [] = Unit {0}
AllIn m (w ∷ l) = WriteIn m w × AllIn m l

abbrev pub AllCells : List (List ℕ) → List ℕ → Type 0
AllCells cs [] = Unit {0}
AllCells cs (c ∷ l) = HasCell cs c × AllCells cs l

-- the bases of an abort
abbrev pub BasesIn : List (List ℕ) → List Write → Type 0
BasesIn cs [] = Unit {0}
BasesIn cs (w ∷ l) = (w.base ≤ length cs) × BasesIn cs l
