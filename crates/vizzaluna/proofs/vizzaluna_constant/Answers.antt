-- The code's table is the list of `Constants.antt`, entry by entry; past its end both give 0.
use Rattle.std.proofs.Common.{refl, sym}
use Rattle.std.proofs.Math.ListN.{get_or-eq_default}
use Rattle.kinds.specs.Versions.{words_of}
use Rattle.vizzaluna.specs.Constants.{constants}
use Rattle.vizzaluna.proofs.vizzaluna_constant.Goals as goal

pub returns-then-which : goal.returns-then-which
unfolding constants words_of
returns-then-which c = sym (get_or-eq_default constants 0 c.if-which.true)

pub returns : goal.returns
unfolding constants words_of
returns c = refl
