use Rattle.std.proofs.Common.{rules}
use Rattle.kinds.specs.Visible.{creator_visible}
use Rattle.words.specs.Slots.{slot_of}
use Rattle.kinds.proofs.is_creator_visible.Goals as goal

pub returns-then-x-slot : goal.returns-then-x-slot
unfolding creator_visible slot_of
returns-then-x-slot c = search rules

pub returns-then-x-slot-2 : goal.returns-then-x-slot-2
unfolding creator_visible slot_of
returns-then-x-slot-2 c = search rules

pub returns-else-x-slot-2 : goal.returns-else-x-slot-2
unfolding creator_visible slot_of
returns-else-x-slot-2 c = search rules

pub returns-else-x-ne0 : goal.returns-else-x-ne0
unfolding creator_visible slot_of
returns-else-x-ne0 c = search rules
