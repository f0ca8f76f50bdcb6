use Rattle.slots.specs.OccupiedLaws.{top_over, snap_top_lem}
use Rattle.words.specs.Sizes.{base}
use lib.ListN.{take}
use mathlib.Core.Path.{ap, ◌∙◌}
use Rattle.slots.proofs.snapshot_of.Goals as goal

pub returns : goal.returns
returns c = (c.least_word-low.ensures, c.top_over-top.ensures ∙ ap (λ x. top_over x c.args.clock) c.greatest_id.ensures ∙ snap_top_lem c.args.clock (take base.slots c.args.slots.now))
