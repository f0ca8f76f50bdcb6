-- Write again: the own entry keeps its cell, and its value is replaced.
use Rattle.std.specs.Prelude.{◌≢◌, ◌≡◌, ℕ}
use mathlib.Core.List.{List}
use Rattle.std.proofs.Math.Option.{Option, some, none}
use Rattle.words.specs.Slots.{Write}
use Rattle.rules.specs.Abort.{news}
use Rattle.rules.specs.History.{said}
use Rattle.rules.specs.Theory.Counting.{cnt}
use Rattle.rules.specs.Theory.Inv.{Ver, Entries, own_find}

abbrev pub with_val : Ver → Option ℕ → Ver
with_val x v = record { xmin = x.xmin; xmax = x.xmax; val = said v x.xmin }

-- the entry of row r: its cell, what `revalue` stores, and what a look finds afterwards
pub record OwnAt (f : ℕ → Ver) (ws : List Write) (r c : ℕ) : Type 0 where
  pub member : cnt c (news ws) ≢ 0
  pub minned : (R t : ℕ) → Entries f R t ws → (f c).xmin ≡ t
  pub finds : (f' : ℕ → Ver) → own_find f' ws r ≡ some (f' c).val
  pub others : (f' : ℕ → Ver) → ((d : ℕ) → d ≢ c → f' d ≡ f d) → cnt c (news ws) ≡ 1 → (r' : ℕ) → r' ≢ r → own_find f' ws r' ≡ own_find f ws r'

-- the last entry of row r, where rows differ
abbrev pub At : (ℕ → Ver) → List Write → ℕ → Option Write → Type 0
At f ws r none = Unit {0}
At f ws r (some w) = OwnAt f ws r w.new
