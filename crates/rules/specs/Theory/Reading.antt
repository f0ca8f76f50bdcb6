-- What a read of one row comes to, against the history: the own write, the first visible version of the chain, or a refusal.
use Rattle.std.specs.Prelude.{◌≢◌, ℕ}
use mathlib.Core.List.{List}
use Rattle.std.proofs.Math.Option.{Option, none, some}
use Rattle.std.proofs.Math.Path.{◌≡◌}
use Rattle.words.specs.Slots.{Write}
use Rattle.rules.specs.Abort.{news}
use Rattle.rules.specs.History.{Val}
use Rattle.rules.specs.Theory.View.{View}
use Rattle.rules.specs.Theory.Counting.{cnt}
use Rattle.rules.specs.Theory.Inv.{Ver, vers, own_find}

-- ---- own writes: the last entry is the only one
abbrev pub Own : (ℕ → Ver) → List Write → ℕ → Option Write → Type 0
Own f ws r none = own_find f ws r ≡ none
Own f ws r (some w) = (own_find f ws r ≡ some (f w.new).val) × (cnt w.new (news ws) ≢ 0)

-- cell c is a version, and o is what it says
abbrev pub Says : View → ℕ → Option Val → Type 0
Says st c o = (c ≢ 0) × (o ≡ some (vers st c).val)
