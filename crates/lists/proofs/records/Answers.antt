use Rattle.std.proofs.Common.{ap, ◌∙◌}
use Rattle.words.specs.Slots.{rec, slot_of}
use Rattle.lists.specs.Triples.{records}
use Rattle.lists.proofs.Chunks.{threes_chunks}
use Rattle.lists.proofs.records.Goals as goal

pub returns : goal.returns
unfolding slot_of
returns c = ap records c.triples.ensures ∙ threes_chunks rec c.args.slot.now _ _
