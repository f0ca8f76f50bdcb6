use Rattle.std.proofs.Common.{rules}
use Rattle.kinds.specs.Visible.{visible}
use Rattle.kinds.proofs.Version.is_visible.Goals as goal

pub returns-after-self-ne0 : goal.returns-after-self-ne0
unfolding visible
returns-after-self-ne0 c = search rules

pub returns-else-is_creator_visible : goal.returns-else-is_creator_visible
unfolding visible
returns-else-is_creator_visible c = search rules
