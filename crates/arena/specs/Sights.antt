-- What the walk answers, for what the rules say that a reader finds.
use Rattle.std.specs.Prelude.{Option, Some, None, Result, Ok, Err}
use Rattle.kinds.specs.declared.Cell.{Cell}
use Rattle.kinds.specs.Versions.{at}
use Rattle.rules.specs.Chain.{Look, found, nothing, too_long, harmed}
use Rattle.arena.specs.declared.Broken.{Broken}
use Rattle.arena.specs.declared.Broken.TheVariants.{TooLong, Harmed}

abbrev pub sighted : Look → Result (Option Cell) Broken
sighted (found c) = Ok (Some (at c))
sighted nothing = Ok None
sighted too_long = Err TooLong
sighted harmed = Err Harmed
