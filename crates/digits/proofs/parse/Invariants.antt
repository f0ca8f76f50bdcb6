use Rattle.std.proofs.Common.{◌≡◌, ◌^◌, ◌<◌, drop}
use Rattle.digits.specs.Numbers.{read_on, number_of}
use Rattle.digits.proofs.parse.Given as goal

abbrev pub invariant-loop-b : goal.invariant-loop-b
invariant-loop-b l = record { in_width : l.v < 2 ^ 64; read : read_on l.v (drop l.b-index l.s) ≡ number_of l.s }
