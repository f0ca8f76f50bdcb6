use mathlib.Core.Path.{◌≡◌}
use Prim.Native.Nat.{◌+◌, ◌≤◌, ◌-◌}
use Rattle.kinds.specs.Versions.{version_at}
use Rattle.finds.specs.Listing.{Rows}
use Rattle.finds.specs.Sweep.{note, sweep, remaining}
use Rattle.finds.proofs.Search.scan.Given as goal

abbrev pub invariant-loop-row : goal.invariant-loop-row
invariant-loop-row l = record {
  few : l.found.count ≤ l.initial.found.count + l.row;
  left : remaining (version_at l.self.cells.now) l.self.n l.self.key l.self.room l.self.rows.now l.marks l.row (l.r - l.row) (sweep l.found.slot (note (Rows l.found.count) l.found.rows)) ≡ remaining (version_at l.self.cells.now) l.self.n l.self.key l.self.room l.self.rows.now l.marks 0 l.r (sweep l.initial.found.slot (note (Rows l.initial.found.count) l.initial.found.rows));
}
