use Rattle.std.proofs.Common.{rules}
use Rattle.kinds.specs.Versions.{reclaimable}
use Rattle.kinds.proofs.Version.is_reclaimable.Goals as goal

pub returns-then-self-horizon : goal.returns-then-self-horizon
unfolding reclaimable
returns-then-self-horizon c = search rules

pub returns-else-self-horizon : goal.returns-else-self-horizon
unfolding reclaimable
returns-else-self-horizon c = search rules
