-- A list of tests as the code answers it: fine, or the number and the value of the first that fails. A call that is guarded by tests is
-- done where the verdict is fine, and refused with the verdict's number and value where it is not.
use Rattle.std.specs.Prelude.{cond}
use mathlib.Core.List.{List, [], ◌∷◌}
use Rattle.kinds.specs.Verdict.{Verdict, Fine, Refused}
use Rattle.rules.specs.Outcome.{Test}

-- the first test that fails
unfoldable pub verdict : List Test → Verdict
verdict [] = Fine
verdict (t ∷ l) = cond t.fails (Refused t.number t.value) (verdict l)

-- a verdict, and then another where it is fine
abbrev pub and_then : Verdict → Verdict → Verdict
and_then Fine v = v
and_then (Refused k x) v = Refused k x
