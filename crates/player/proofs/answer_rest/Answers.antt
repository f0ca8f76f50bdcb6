use Rattle.std.proofs.Common.{arith, refl}
use Rattle.player.specs.Turns.{no_rest, rest_answers}
use Rattle.player.proofs.answer_rest.Goals as goal

pub returns-then-count-eq0-clause-answered : goal.returns-then-count-eq0-clause-answered
returns-then-count-eq0-clause-answered g c = λ p x. no_rest _ p _ _ _ _ (omega (arith, c.requires.sane.some_room)) c.if-count-eq0.true x

pub returns-clause-answered : goal.returns-clause-answered
returns-clause-answered g c = λ p x. rest_answers _ _ _ _ _ _ _ p _ _ _ (omega (arith, c.requires.lent.record_kept)) (omega (arith, c.if-count-eq0.false)) refl x c.answer.ensures.laid c.answer.ensures.memory_after
