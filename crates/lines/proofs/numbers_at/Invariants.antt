use Rattle.std.proofs.Common.{◌-◌, ◌≤◌, length}
use Rattle.lines.specs.Fields.{Going}
use Rattle.lines.proofs.numbers_at.Given as goal

abbrev pub invariant-loop : goal.invariant-loop
invariant-loop l = record { within : l.all.end ≤ length l.s; going : Going l.s l.at l.n (l.n - l.counter) l.all }
