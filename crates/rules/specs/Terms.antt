-- The conditions of the paper as propositions, and that each test of the definitions decides its condition. Who reads the tables of
-- refusals reads these and no test.
use Rattle.std.specs.Prelude.{ℕ, ◌≤◌, ◌<◌, List, [], ◌∷◌, ◌++◌, ◌≡◌, ◌≢◌, ◌⊎◌, length, get_or}
use Rattle.std.proofs.Math.Option.{Option, none, some}
use Rattle.kinds.specs.declared.Version.{Version}
use Rattle.words.specs.Sizes.{Sizes, meta_words, ID}
use Rattle.words.specs.Slots.{Write, Rec, Slot}
use Rattle.rules.specs.Memory.{Mem}
use Rattle.rules.specs.Exactly.{In, All}

-- ---- the store and its cells
-- "R from 1 to 256; N from 1 to 4,096", and the lent lengths are long enough for them
pub record Fitting {z : Sizes} (m : Mem z) (r n : ℕ) : Type 0 where
  pub a_row : 1 ≤ r
  pub few_rows : r ≤ z.rows
  pub a_cell : 1 ≤ n
  pub few_cells : n ≤ z.cells
  pub metas : meta_words ≤ length m.meta
  pub heads : r ≤ length m.rows
  pub cells : n ≤ length m.cells
  pub slots : z.slots ≤ length m.slots

-- "cells 1 to N"
pub record CellOf (n c : ℕ) : Type 0 where
  pub low : 1 ≤ c
  pub high : c ≤ n

-- every one of the first k slots is occupied: its id is not 0
abbrev pub AllOccupied : ℕ → List (List ℕ) → Type 0
AllOccupied k l = (s : ℕ) → s < k → get_or (get_or l s []) ID 0 ≢ 0

-- ---- the rules on one version
-- "id is not 0, and it is the reader's own, or below snapshot xmax and not in its active list"
abbrev pub CreatorSeen : Slot → ℕ → Type 0
CreatorSeen t x = (x ≢ 0) × ((x ≡ t.id) ⊎ ((x < t.top) × (In x t.active → ⊥)))

-- "creator visible, and not (xmax nonzero and xmax creator visible)"
pub record Sees (t : Slot) (v : Version) : Type 0 where
  pub made : CreatorSeen t v.xmin.0
  pub standing : v.xmax.0 ≢ 0 → CreatorSeen t v.xmax.0 → ⊥

-- "a changed xmin conflicts; xmax 0 or own id does not; else xmax at or above snapshot xmax, or active, does". x is the recorded xmin
abbrev pub Conflicts : Slot → Version → ℕ → Type 0
Conflicts t v x = (v.xmin.0 ≢ x) ⊎ ((v.xmax.0 ≢ 0) × ((v.xmax.0 ≢ t.id) × ((t.top ≤ v.xmax.0) ⊎ In v.xmax.0 t.active)))

-- "locked by another id"
abbrev pub LockedByOther : Version → ℕ → Type 0
LockedByOther v id = (v.locked ≢ 0) × (v.owner.0 ≢ id)

-- ---- the own entry of a row, and the records
-- w is the last entry of the row: it stands in the write set, it is of this row, and no entry after it is
pub record LastEntry (ws : List Write) (row : ℕ) (w : Write) : Type 0 where
  pub before : List Write
  pub after : List Write
  pub parts : ws ≡ before ++ w ∷ after
  pub of_row : w.row ≡ row
  pub none : All (λ (q : Write). q.row ≢ row) after

abbrev pub NoEntry : List Write → ℕ → Type 0
NoEntry ws row = All (λ (q : Write). q.row ≢ row) ws

-- what `own` finds
abbrev pub OwnIs : List Write → ℕ → Option Write → Type 0
OwnIs ws row none = NoEntry ws row
OwnIs ws row (some w) = LastEntry ws row w

-- the cell is recorded already
abbrev pub Recorded : ℕ → List Rec → Type 0
Recorded c [] = ⊥
Recorded c (q ∷ l) = (c ≡ q.cell) ⊎ Recorded c l
