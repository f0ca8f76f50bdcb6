use Rattle.std.proofs.Common.{◌-◌}
use Rattle.words.specs.Sizes.{last_id}
use Rattle.rules.specs.Memory.{mem}
use Rattle.pieces.specs.Held.{Sane}
use Rattle.perform.specs.Laws.{rooms}
use Rattle.player.specs.Written.{Hearing}
use Rattle.player.proofs.play_input.Given as goal

abbrev pub invariant-loop : goal.invariant-loop
invariant-loop g l = Sane g.row.FRONT l.held
    × Hearing (rooms g.row.REPORTS g.row.NUMBERS) (last_id - l.counter) l.desk.front l.held (mem l.initial.meta l.initial.rows l.initial.cells l.initial.slots) (mem l.meta l.rows l.cells l.slots)
    (g.R.Read.remaining l.initial.input) (g.R.Read.remaining l.input) (g.W.Write.contents l.initial.output) (g.W.Write.contents l.output)
