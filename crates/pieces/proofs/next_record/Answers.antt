use Rattle.std.proofs.Common.{ℕ, sym, ◌∙◌, arith, length-take, length-drop}
use Rattle.std.proofs.lemmas.List.{take_rest}
use Rattle.pieces.proofs.Laws.{holds_next, holds_end, sane_next, ended, is_cr}
use Rattle.pieces.proofs.next_record.Goals as goal

pub overflow_sub-result : goal.overflow_sub-result
overflow_sub-result c = c.loop-i.invariant.sane.some_byte (is_cr _ _ (sym c.is_end.ensures ∙ c.if-is_end.true))

pub returns-then-is_end-clause-within : goal.returns-then-is_end-clause-within
returns-then-is_end-clause-within c = (omega (arith, c.loop-i.invariant.sane.fits), (omega arith, omega (arith, length-take {A = ℕ}, length-drop {A = ℕ})))

pub returns-then-is_end-clause-handed : goal.returns-then-is_end-clause-handed
returns-then-is_end-clause-handed c = λ p x. rw (take_rest c.args.piece.now c.args.from) at (ended _ c.loop-i.i p _ _ (c.loop-i.invariant.holds p x) c.loop-i-test.true c.args.from (sym c.is_end.ensures ∙ c.if-is_end.true))

pub loop-i-preserved : goal.loop-i-preserved
loop-i-preserved c = record {
  sane = sane_next _ _ _ _ _ _ c.loop-i.invariant.sane c.put-count.ensures;
  holds = λ p x. holds_next _ c.loop-i.i p _ _ (c.loop-i.invariant.holds p x) c.loop-i-test.true _ _ c.put-count.ensures (sym c.is_end.ensures ∙ c.if-is_end.false);
}

pub returns-clause-handed : goal.returns-clause-handed
returns-clause-handed c = λ p x. rw (take_rest c.args.piece.now c.args.from) at (holds_end _ c.loop-i.i p _ _ c.loop-i-test.false (c.loop-i.invariant.holds p x))
