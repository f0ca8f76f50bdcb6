use Rattle.std.proofs.Common.{◌≡◌, List, ℕ, ◌-◌, ◌≤◌, length}
use Rattle.rules.specs.Memory.{mem}
use Rattle.pieces.specs.Held.{Sane, Holds}
use Rattle.pieces.specs.Laws.{between}
use Rattle.perform.specs.Laws.{rooms}
use Rattle.player.specs.Batches.{Taken}
use Rattle.player.specs.Written.{Wrote}
use Rattle.player.proofs.play_piece.Given as goal

abbrev pub invariant-loop-place : goal.invariant-loop-place
invariant-loop-place g l = Sane g.row.FRONT l.place.held × (l.place.from ≤ length l.piece) × (l.place.at ≡ 0)
    × ((p : List ℕ) → Holds p l.initial.desk.front l.initial.place.held → Taken (rooms g.row.REPORTS g.row.NUMBERS) p (between l.piece 0 l.place.from) l.desk.front l.place.held
    (mem l.initial.meta l.initial.rows l.initial.cells l.initial.slots) (mem l.meta l.rows l.cells l.slots))
    × ((p : List ℕ) → Holds p l.initial.desk.front l.initial.place.held → Wrote (rooms g.row.REPORTS g.row.NUMBERS) p (between l.piece 0 l.place.from)
    (mem l.initial.meta l.initial.rows l.initial.cells l.initial.slots) (g.W.Write.contents l.initial.output) (g.W.Write.contents l.output))

abbrev pub decreases-loop-place : goal.decreases-loop-place
decreases-loop-place g l = length l.piece - l.place.from
