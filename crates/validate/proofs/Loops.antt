-- What a loop knows that tests the members of a list in order.
use Rattle.lists.specs.Steps.{map_step, map_done}
use Rattle.rules.proofs.Verdicts.{verdict_none, verdict_each}

pub ruleset tested = (map_step, map_done, verdict_each, verdict_none)
