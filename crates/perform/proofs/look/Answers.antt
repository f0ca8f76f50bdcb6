use Rattle.perform.specs.Laws.{read_acted}
use Rattle.perform.proofs.look.Goals as goal

pub returns : goal.returns
returns c = λ z numbers. read_acted z _ _ numbers _ _ _ _ c.read.ensures
