use Rattle.words.specs.Slots.{push}
use mathlib.Core.Path.{refl}
use Rattle.lists.proofs.push.Goals as goal

pub returns : goal.returns
unfolding push
returns c = refl
