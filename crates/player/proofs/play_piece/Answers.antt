use Rattle.std.proofs.Common.{List, ℕ, arith, refl}
use Rattle.pieces.specs.Held.{Holds}
use Rattle.player.specs.Batches.{taken_start, batch_then, all_taken}
use Rattle.player.specs.Written.{Stopped}
use Rattle.player.proofs.Writing.{wrote_start, wrote_then, all_wrote, stopped_in, on_err_anyway}
use Rattle.player.proofs.play_piece.Goals as goal

pub loop-place-init : goal.loop-place-init
loop-place-init g c = (
  c.requires.sane,
  omega arith,
  refl,
  λ p x. taken_start _ p c.args.piece.now _ _ _ _ refl x,
  λ p x. wrote_start _ p c.args.piece.now _ _ _ _ _ refl x,
)

pub loop-place-preserved : goal.loop-place-preserved
loop-place-preserved g c =
    let i = c.loop-place.invariant in
    let w = c.play_batch-place.ensures.moved in (
      w.stands.sane,
      w.stands.within,
      refl,
      λ p x. batch_then _ p _ c.loop-place.place c.play_batch-place.result _ _ _ _ _ _ _ w.forward (i.3 p x) (c.play_batch-place.ensures.batched _ (i.3 p x).holds),
      λ p x.
          wrote_then _ p _ c.loop-place.place c.play_batch-place.result _ _ _ _ _ _ _ _ _ _ w.forward i.2 (omega (arith, w.stands.put, c.play_batch-place.new.desk.kept)) (i.3 p x) (i.4 p x)
          (c.play_batch-place.ensures.batched _ (i.3 p x).holds) c.in_ok-write_all.ensures.bytes,
    )

pub returns-clause-taken : goal.returns-clause-taken
returns-clause-taken g c = λ p x. all_taken _ p c.args.piece.now _ _ _ _ _ c.loop-place-test.false (c.loop-place.invariant.3 p x)

pub returns-clause-written : goal.returns-clause-written
returns-clause-written g c = λ p x. all_wrote _ p c.args.piece.now _ _ _ _ c.loop-place-test.false (c.loop-place.invariant.4 p x)

pub returns-in_err-write_all-clause-stopped : goal.returns-in_err-write_all-clause-stopped
returns-in_err-write_all-clause-stopped g c =
    let i = c.loop-place.invariant in
    let w = c.play_batch-place.ensures.moved in
    on_err_anyway {P = (p : List ℕ) → Holds p c.args.desk.now.front c.args.held → Stopped _ p c.args.piece.now _ _} _
    (λ p x.
    let t = i.3 p x in
    stopped_in _ p c.args.piece.now c.play_batch-place.result.from _ _ _ _
    (batch_then _ p _ c.loop-place.place c.play_batch-place.result _ _ _ _ _ _ _ w.forward t (c.play_batch-place.ensures.batched _ t.holds)))
