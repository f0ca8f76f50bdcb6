use mathlib.Core.Path.{sym}
use Rattle.std.proofs.lemmas.Result.{err_from_is_err_and}
use Rattle.gate.proofs.FineLaws.{slot_fine}
use Rattle.lookup.specs.LookupRest.{lookup_all_split}
use Rattle.store.specs.Tested.{tested_refused, tested_fine, told_over, told_refused}
use Rattle.store.proofs.lookup_all.Goals as goal

pub lookup_all-requires : goal.lookup_all-requires
lookup_all-requires c = slot_fine _ _ _ (sym c.in_ok-check_slot.ensures)

pub returns-in_err-check_slot : goal.returns-in_err-check_slot
returns-in_err-check_slot c =
    let p = err_from_is_err_and c.from_residual.result c.from_residual.ensures.1 in
    let t = told_refused _ _ _ _ _ (tested_refused _ _ _ _ (lookup_all_split _ _ _ _ _) _ _ (sym c.in_err-check_slot.ensures)) in
    rw (p.1, p.2) (record { outcome = t.0; results_after = t.1 })

pub returns : goal.returns
returns c =
    let t = told_over _ _ _ _ _ _ (tested_fine _ _ _ _ (lookup_all_split _ _ _ _ _) (sym c.in_ok-check_slot.ensures)) (c.lookup_all.ensures.outcome, c.lookup_all.ensures.buffer) in
    record { outcome = t.0; results_after = t.1 }
