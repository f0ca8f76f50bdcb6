use Rattle.std.proofs.Common.{◌+◌, ◌*◌, ◌≤◌, take}
use Rattle.answers.specs.Answers.{fields, span}
use Rattle.digits.specs.Numbers.{Laid}
use Rattle.answers.proofs.put_fields.Given as goal

abbrev pub invariant-loop-n : goal.invariant-loop-n
invariant-loop-n l = record { room : l.p ≤ l.at + span * l.n-index; laid : Laid l.initial.buf l.buf l.at l.p (fields (take l.n-index l.ns)) }
