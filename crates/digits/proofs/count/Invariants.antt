use mathlib.Core.Path.{◌≡◌}
use lib.ListN.{length}
use Prim.Native.Nat.{suc, ◌+◌, ◌-◌, ◌^◌, ◌<◌, ◌≤◌}
use Rattle.digits.specs.Numbers.{most, digits, spell}
use Rattle.digits.proofs.count.Given as goal

abbrev pub invariant-loop-rest : goal.invariant-loop-rest
invariant-loop-rest l = (1 ≤ l.k) × (l.k ≤ most) × (l.rest < 10 ^ suc (most - l.k)) × (l.k + length (spell (suc (most - l.k)) l.rest) ≡ suc (length (digits l.n)))

abbrev pub decreases-loop-rest : goal.decreases-loop-rest
decreases-loop-rest l = most - l.k
