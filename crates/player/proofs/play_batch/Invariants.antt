use Rattle.std.proofs.Common.{List, ℕ, ◌-◌, ◌<◌, ◌≤◌, length}
use Rattle.rules.specs.Memory.{mem}
use Rattle.pieces.specs.Held.{Holds}
use Rattle.pieces.specs.Laws.{between}
use Rattle.perform.specs.Laws.{rooms}
use Rattle.player.specs.Turns.{Stands}
use Rattle.player.specs.Batches.{Batched}
use Rattle.player.proofs.play_batch.Given as goal

abbrev pub invariant-loop-place : goal.invariant-loop-place
invariant-loop-place g l = Stands (length l.piece) g.row.FRONT g.row.OUT l.place × (l.initial.place.from ≤ l.place.from) × (l.last < l.place.at → l.initial.place.from < l.place.from)
    × ((p : List ℕ) → Holds p l.initial.desk.front l.initial.place.held → Batched (rooms g.row.REPORTS g.row.NUMBERS) p (between l.piece l.initial.place.from l.place.from) l.desk.front l.place.held
    (mem l.initial.meta l.initial.rows l.initial.cells l.initial.slots) (mem l.meta l.rows l.cells l.slots) l.initial.desk.out l.desk.out l.initial.place.at l.place.at)

abbrev pub decreases-loop-place : goal.decreases-loop-place
decreases-loop-place g l = length l.piece - l.place.from
