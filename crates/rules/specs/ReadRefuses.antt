-- A read refuses exactly when the paper says. "a read tests 10 before following each pointer, then 13".
use Rattle.std.specs.Prelude.{ℕ}
use Rattle.rules.specs.Chain.{Look, found, nothing, too_long, harmed}

-- the looks apart
abbrev pub look_number : Look → ℕ
look_number (found c) = 0
look_number nothing = 1
look_number too_long = 2
look_number harmed = 3
