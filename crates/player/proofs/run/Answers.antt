use Rattle.std.proofs.lemmas.Result.{on_ok_weaker, on_err_weaker}
use Rattle.words.specs.Sizes.{base}
use Rattle.rules.specs.Memory.{Mem}
use Rattle.player.specs.Written.{Replayed, Broken}
use Rattle.player.proofs.Writing.{whole_written}
use Rattle.player.proofs.run.Goals as goal

pub returns : goal.returns
returns g c = record {
  replayed = on_ok_weaker {Q = (after : Mem base) × Replayed _ _ after _ _ _ _} _ (λ x. (_, x)) c.play.ensures.replayed;
  whole = on_ok_weaker _ (whole_written _ _ _ _ _ _) c.play.ensures.whole;
  failed = on_err_weaker {Q = (after : Mem base) × Broken _ _ after _ _} _ (λ x. (_, x)) c.play.ensures.failed;
}
