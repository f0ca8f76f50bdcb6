use Rattle.fresh.proofs.FrontLaws.{front_fill}
use Rattle.fresh.proofs.clear_rows.Goals as goal

pub returns : goal.returns
returns c = front_fill _ _ _ _ _ c.fewer-k.ensures (c.fill.ensures.after (λ y e. e))
