use mathlib.Core.Path.{sym, ◌∙◌}
use Rattle.std.proofs.lemmas.Result.{err_from_is_err_and}
use Rattle.gate.proofs.FineLaws.{slot_fine}
use Rattle.ends.specs.AbortRest.{abort_split}
use Rattle.store.specs.Tested.{tested_refused, tested_fine}
use Rattle.store.proofs.abort.Goals as goal

pub abort-requires : goal.abort-requires
abort-requires c = slot_fine _ _ _ (sym c.in_ok-check_slot.ensures)

pub returns-in_err-check_slot : goal.returns-in_err-check_slot
returns-in_err-check_slot c =
    let p = err_from_is_err_and c.from_residual.result c.from_residual.ensures.1 in
    rw (p.1, p.2) (tested_refused _ _ _ _ (abort_split _ _ _) _ _ (sym c.in_err-check_slot.ensures))

pub returns : goal.returns
returns c = c.abort.ensures ∙ tested_fine _ _ _ _ (abort_split _ _ _) (sym c.in_ok-check_slot.ensures)
