use Rattle.std.proofs.Common.{ap, ◌∙◌}
use Rattle.words.specs.Slots.{write, slot_of}
use Rattle.lists.specs.Triples.{entries}
use Rattle.lists.proofs.Chunks.{threes_chunks}
use Rattle.lists.proofs.writes.Goals as goal

pub returns : goal.returns
unfolding slot_of
returns c = ap entries c.triples.ensures ∙ threes_chunks write c.args.slot.now _ _
