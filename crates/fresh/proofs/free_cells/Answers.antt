use Rattle.std.proofs.Common.{arith, take, length-take}
use Rattle.kinds.specs.Versions.{words_of}
use Rattle.rules.specs.Create.{fresh_cells}
use Rattle.fresh.proofs.FrontLaws.{front_fresh_more, front_fresh, at_end}
use Rattle.fresh.proofs.free_cells.Goals as goal

pub loop-i-preserved : goal.loop-i-preserved
unfolding words_of
loop-i-preserved c =
    let h = simp length-take at c.loop-i-test.true in
    rw c.link_after-link.ensures (front_fresh_more _ _ _ (omega arith) (omega arith) c.loop-i.invariant)

pub returns : goal.returns
returns c =
    front_fresh _ _ _ _ c.fewer-k.ensures
    (at_end (λ i. take i (fresh_cells c.args.n 1)) _ _ _ c.loop-i.auto.cell-items c.loop-i.auto.i-end c.loop-i-test.false c.loop-i.invariant)
