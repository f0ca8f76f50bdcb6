use Rattle.std.proofs.Common.{arith, refl}
use Rattle.player.specs.Turns.{record_answers}
use Rattle.player.proofs.play_record.Goals as goal

pub returns-in-Record-clause-placed : goal.returns-in-Record-clause-placed
returns-in-Record-clause-placed g c =
    let w = c.in-Record.ensures.within in
    (record { sane = c.nothing.ensures.0 _ c.requires.sane.some_room; within = w.1.1; put = omega (arith, c.answer-next.ensures.upper_bound, c.requires.has_room) }, w.1.0)

pub returns-in-Record-clause-turned : goal.returns-in-Record-clause-turned
returns-in-Record-clause-turned g c = λ p x.
    rw c.answer-next.ensures.front_kept
    (record_answers _ _ _ _ _ _ _ p _ _ _ _ _ _ _ (omega (arith, c.requires.record_kept, c.next_record.ensures.front_len_unchanged)) refl (c.in-Record.ensures.handed p x)
    (c.nothing.ensures.1 _) c.answer-next.ensures.laid c.answer-next.ensures.memory_after)
