use Rattle.std.proofs.Common.{arith, inr}
use Rattle.std.proofs.lemmas.Result.{on_ok_weaker}
use Rattle.player.proofs.Writing.{heard_rest, replayed_whole, on_err_anyway, unanswered}
use Rattle.player.proofs.play.Goals as goal

pub returns : goal.returns
returns g c =
    let e = on_ok_weaker _ (λ w. heard_rest _ _ _ _ _ _ _ _ _ _ _ _ _ _ c.in_ok-held.ensures.heard c.answer_rest-end.ensures.answered (omega (arith, c.answer_rest-end.ensures.upper_bound, c.answer_rest-end.new.desk.kept)) w) c.write_all.ensures.bytes in
    record {
      replayed = e;
      whole = on_ok_weaker _ (λ x. replayed_whole _ _ _ _ _ _ _ x) e;
      failed = on_err_anyway _ (inr (unanswered _ _ _ _ _ _ _ _ _ _ _ _ _ c.in_ok-held.ensures.heard c.answer_rest-end.ensures.answered));
    }
