-- Where a cell is not, from where it is.
use Rattle.std.specs.Prelude.{◌≢◌, ◌≡◌, ℕ, ◌<◌, get_or}
use mathlib.Core.List.{[]}
use Rattle.rules.specs.Theory.View.{View}
use Rattle.rules.specs.Theory.Effects.{slot_v}
use Rattle.rules.specs.Theory.Counting.{cnt}
use Rattle.rules.specs.Theory.Inv.{Ghost, in_slot}

-- a cell that stands nowhere but where the holder knows
pub record Alone (n : ℕ) (st : View) (g : Ghost) (c : ℕ) : Type 0 where
  pub inside : c < n
  pub real : c ≢ 0
  pub unfree : cnt c g.fl ≡ 0
  pub unrow : (r : ℕ) → cnt c (get_or g.rows r []) ≡ 0
  pub unslot : (i : ℕ) → in_slot c (slot_v st i) ≡ 0
