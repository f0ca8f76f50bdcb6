-- What 000's terms say of a reachable store is what its history says: `selected_value`, and the records of an open reader.
use Rattle.std.specs.Prelude.{ℕ}
use Rattle.std.proofs.Math.Option.{Option, none, some}
use Rattle.rules.specs.History.{Val}

-- a value of the history, as upstream's answer of a read
abbrev pub told_by : Option Val → Option (Option ℕ)
told_by none = none
told_by (some v) = some v.value
