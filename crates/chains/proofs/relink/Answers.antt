use Rattle.std.proofs.Common.{arith, ◌∙◌}
use Rattle.chains.specs.Linking.{linking_start, linking_next, linking_less, linking_end}
use Rattle.chains.proofs.relink.Goals as goal

pub loop-c-init : goal.loop-c-init
loop-c-init c = linking_start _ _ _ _ c.requires.has_cell c.requires.ends c.requires.first_value

pub link_kept-last-requires : goal.link_kept-last-requires
link_kept-last-requires c = c.loop-c.invariant.has_last

pub loop-c-smaller : goal.loop-c-smaller
loop-c-smaller c = linking_less _ _ _ _ _ _ _ c.loop-c.invariant c.loop-c-test.true _ c.version_at-v.ensures

pub loop-c-preserved : goal.loop-c-preserved
loop-c-preserved c = linking_next _ _ _ _ _ _ _ c.loop-c.invariant c.loop-c-test.true _ c.version_at-v.ensures _ c.link_kept-last.ensures.value _ c.link_kept-last.ensures.cells_after

pub link-requires : goal.link-requires
link-requires c = c.loop-c.invariant.has_last

pub returns : goal.returns
returns c = c.link.ensures ∙ linking_end _ _ _ _ _ _ _ c.loop-c.invariant (omega (arith, c.loop-c-test.false))
