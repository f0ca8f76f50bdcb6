-- What the loop over a slot's writes knows.
use Rattle.lists.specs.Steps.{map_step, map_done}
use Rattle.publish.specs.PublishLaws.{still_in}

pub ruleset in_order = (map_step, map_done, still_in)
