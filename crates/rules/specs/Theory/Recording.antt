-- The records that a read adds are right: their cells stand in their rows' chains and are seen; one record a row; within the limit.
use Rattle.std.specs.Prelude.{List, ◌++◌, ℕ, ◌≤◌, length}
use Rattle.words.specs.Sizes.{Sizes}
use Rattle.words.specs.Slots.{Rec}
use Rattle.rules.specs.Read.{Sight, blocked, sees}
use Rattle.rules.specs.Reachable.{All}
use Rattle.rules.specs.Theory.View.{View}
use Rattle.rules.specs.Theory.Effects.{slot_v}
use Rattle.rules.specs.Theory.Inv.{Apart, Recorded, Ghost, vers}

pub record Rightly (z : Sizes) (st : View) (g : Ghost) (i : ℕ) (rs : List Rec) : Type 0 where
  pub sound : All (Recorded (vers st) g.rows (slot_v st i)) rs
  pub single : Apart rs
  pub few : length rs ≤ z.reads

-- the records that stand, with those that a read adds
abbrev pub Noted : Sizes → View → Ghost → ℕ → List Rec → Sight → Type 0
Noted z st g i rs (blocked k x) = Unit {0}
Noted z st g i rs (sees c l) = Rightly z st g i (rs ++ l)
