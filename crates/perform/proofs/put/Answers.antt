use Rattle.perform.specs.Laws.{put_acted}
use Rattle.perform.proofs.put.Goals as goal

pub returns : goal.returns
returns c = λ z numbers. put_acted z _ _ numbers _ _ _ _ c.args.value c.write.ensures
