use Rattle.std.proofs.Common.{◌≡◌, ◌-◌, ◌≤◌}
use Rattle.std.proofs.lemmas.List.Edits.{sets}
use Rattle.digits.specs.Numbers.{digits}
use Rattle.digits.specs.Laws.{last_digits}
use Rattle.digits.proofs.put.Given as goal

abbrev pub invariant-loop-i : goal.invariant-loop-i
invariant-loop-i l = record { low : l.at ≤ l.i; laid : sets l.buf l.at (last_digits (l.i - l.at) l.rest) ≡ sets l.initial.buf l.at (digits l.n) }
