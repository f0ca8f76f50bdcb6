use Rattle.std.proofs.Common.{arith, take, ◌-◌, ◌+◌}
use Rattle.words.specs.Sizes.{last_id}
use Rattle.player.proofs.Writing.{hearing_start, hearing_then, on_err_anyway, failed_read, failed_write}
use Rattle.player.proofs.play_input.Goals as goal

pub loop-init : goal.loop-init
loop-init g c = (c.nothing-held.ensures.0 _ (omega (arith, c.requires.record_kept)), hearing_start _ _ _ _ _ _ _ (omega arith) (c.nothing-held.ensures.1 _))

pub loop-preserved : goal.loop-preserved
loop-preserved g c =
    let i = c.loop.invariant in
    let n = c.in_ok-n.n in
    let v = take n c.read.new.buf in (
      c.in_ok-held.ensures.still_sane,
      hearing_then _ _ _ _ (last_id - c.loop.counter) (last_id - (c.loop.counter + 1)) (omega (arith, c.loop-test.true)) _ _ _ _ _ _ _ _ _ _ v
          i.1 c.in_ok-n.ensures.bytes.0 (omega (arith, c.in_ok-n.ensures.bound.1, c.if-n-eq0.false)) c.in_ok-held.ensures.taken c.in_ok-held.ensures.written,
    )

pub returns-in_err-n-clause-failed : goal.returns-in_err-n-clause-failed
returns-in_err-n-clause-failed g c = on_err_anyway _ (failed_read _ _ _ _ _ _ _ _ _ _ _ c.loop.invariant.1 c.in_err-n.ensures.bytes)

pub returns-in_err-held-clause-failed : goal.returns-in_err-held-clause-failed
returns-in_err-held-clause-failed g c =
    on_err_anyway _
    (failed_write _ _ _ _ _ _ _ _ _ _ _ _ (take c.in_ok-n.n c.read.new.buf)
    c.loop.invariant.1 c.in_ok-n.ensures.bytes.0 c.in_err-held.ensures.stopped)
