use Rattle.std.proofs.Common.{arith, refl}
use Rattle.player.specs.Batches.{batched_start, answered_then, more_then}
use Rattle.player.proofs.play_batch.Goals as goal

pub loop-place-init : goal.loop-place-init
loop-place-init g c = (c.requires.stands.0, omega arith, λ h. omega (arith, c.requires.stands.1), λ p x. batched_start _ p c.args.piece.now c.args.start.from _ _ _ _ _ x)

pub returns-in-More-clause-batched : goal.returns-in-More-clause-batched
returns-in-More-clause-batched g c = λ p x.
    let i = c.loop-place.invariant in
    more_then _ p _ c.args.start c.loop-place.place c.in-More.next _ _ _ _ _ _ _ _ _ refl i.1 i.0.within c.in-More.ensures.placed.1 (i.3 p x) (c.in-More.ensures.turned _ (i.3 p x).taken.holds)

pub loop-place-preserved : goal.loop-place-preserved
loop-place-preserved g c =
    let i = c.loop-place.invariant in
    let w = c.in-Answered.ensures.placed in (
      w.0,
      omega (arith, w.1, i.1),
      λ h. omega (arith, w.1, i.1),
      λ p x. answered_then _ p _ c.args.start c.loop-place.place c.in-Answered.next _ _ _ _ _ _ _ _ _ refl i.1 w.1 (i.3 p x) (c.in-Answered.ensures.turned _ (i.3 p x).taken.holds),
    )
