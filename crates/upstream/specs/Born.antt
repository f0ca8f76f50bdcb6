-- What upstream's terms ask of a store beyond demand 3, over views: every version in a chain has a creator, no open transaction's id stands
-- in a chain as xmin, and a cell that is in no chain links to nothing. It is kept by each effect of a call.
use Rattle.std.specs.Prelude.{ℕ, ◌<◌, ◌≢◌, ◌≡◌}
use mathlib.Core.List.{List, [], ◌∷◌}
use Rattle.kinds.specs.declared.Version.{Version}
use Rattle.words.specs.Slots.{Slot, Write}
use Rattle.rules.specs.Reachable.{All}
use Rattle.rules.specs.Theory.View.{View}
use Rattle.rules.specs.Theory.Effects.{slot_v}
use Rattle.rules.specs.Theory.Inv.{nexts, in_slot}

abbrev pub min_of : View → ℕ → ℕ
min_of st c = (st.vers c).xmin.0

abbrev pub of_min : Version → ℕ
of_min v = v.xmin.0

-- cell c stands in a row's chain: it is a head, or the next of one that does
pub data On (R : ℕ) (st : View) : ℕ → Type 0 where
  head : {c : ℕ} (r : ℕ) → r < R → st.heads r ≡ c → c ≢ 0 → On R st c
  next : {c : ℕ} (d : ℕ) → On R st d → nexts st d ≡ c → c ≢ 0 → On R st c

-- an open slot's snapshot xmin is not 0, an empty slot's is
abbrev pub Lows : Slot → Type 0
Lows t = (t.id ≢ 0 → t.low ≢ 0) × (t.id ≡ 0 → t.low ≡ 0)

pub record Born (R n : ℕ) (st : View) : Type 0 where
  -- every creator was drawn from the clock
  pub past : (c : ℕ) → c ≢ 0 → c < n → min_of st c < st.clock
  -- a version in a chain has a creator
  pub real : (c : ℕ) → On R st c → min_of st c ≢ 0
  -- a cell in no chain links to nothing
  pub bare : (c : ℕ) → c ≢ 0 → c < n → (On R st c → ⊥) → nexts st c ≡ 0
  -- what an open transaction created stands in its write set
  pub own : (c j : ℕ) → c ≢ 0 → c < n → (slot_v st j).id ≢ 0 → min_of st c ≡ (slot_v st j).id → in_slot c (slot_v st j) ≢ 0
  pub lows : (j : ℕ) → Lows (slot_v st j)

-- ---- a write is published: its cell becomes the head of its row
-- a write that can be: its base is its row's head, and its cell, which has a creator, is in no chain
pub record Ready (R n : ℕ) (st : View) (w : Write) : Type 0 where
  pub row : w.row < R
  pub base : st.heads w.row ≡ w.base
  pub new : w.new ≢ 0
  pub created : min_of st w.new ≢ 0
  pub loose : On R st w.new → ⊥

abbrev pub Distinct : List Write → Type 0
Distinct [] = Unit {0}
Distinct (w ∷ l) = All (λ x. (x.row ≢ w.row) × (x.new ≢ w.new)) l × Distinct l
