use Rattle.std.proofs.Common.{ap, ◌∙◌}
use Rattle.words.specs.Lists.{has}
use Rattle.words.specs.WordLaws.{has_any}
use Rattle.words.proofs.is_active.Goals as goal

pub returns : goal.returns
returns c = c.contains.ensures.value ∙ has_any _ _ ∙ ap (has c.args.x.0) c.actives.ensures
