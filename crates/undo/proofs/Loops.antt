-- What the loops over a slot's writes know.
use Rattle.lists.specs.Steps.{map_step, map_done}
use Rattle.rules.proofs.Verdicts.{verdict_none, verdict_each}
use Rattle.undo.specs.UndoLaws.{give_none, give_step, still_cell}

-- each of them
pub ruleset in_order = (map_step, map_done)

-- one that tests
pub ruleset tested = (in_order, verdict_each, verdict_none)

-- one that gives back
pub ruleset given = (in_order, give_step, give_none, still_cell)
