use Rattle.pieces.proofs.Laws.{holds_nothing, sane_nothing}
use Rattle.pieces.proofs.nothing.Goals as goal

pub returns : goal.returns
returns c = (sane_nothing, holds_nothing)
