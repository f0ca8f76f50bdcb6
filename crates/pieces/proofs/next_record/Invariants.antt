use Rattle.std.proofs.Common.{ℕ, List, ◌++◌, length, take}
use Rattle.pieces.specs.Held.{Sane, Holds}
use Rattle.pieces.proofs.next_record.Given as goal

abbrev pub invariant-loop-i : goal.invariant-loop-i
invariant-loop-i l = record {
  sane : Sane (length l.front) (record { count = l.count; cr = l.cr });
  holds : (p : List ℕ) → Holds p l.initial.front (record { count = l.initial.count; cr = l.initial.cr }) → Holds (p ++ take l.i l.b-items) l.front (record { count = l.count; cr = l.cr });
}
