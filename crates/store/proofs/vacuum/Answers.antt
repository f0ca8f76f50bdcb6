use mathlib.Core.Path.{sym}
use Rattle.std.proofs.lemmas.Result.{err_from_is_err_and}
use Rattle.gate.proofs.FineLaws.{store_fine}
use Rattle.vacuum.specs.Rest.{vacuum_split}
use Rattle.store.specs.Tested.{tested_refused, tested_fine, told_over, told_refused}
use Rattle.store.proofs.vacuum.Goals as goal

pub vacuum-requires : goal.vacuum-requires
vacuum-requires c = store_fine _ (sym c.in_ok-check_store.ensures)

pub returns-in_err-check_store : goal.returns-in_err-check_store
returns-in_err-check_store c =
    let p = err_from_is_err_and c.from_residual.result c.from_residual.ensures.1 in
    let t = told_refused _ _ _ _ _ (tested_refused _ _ _ _ (vacuum_split _ _ _ _) _ _ (sym c.in_err-check_store.ensures)) in
    rw (p.1, p.2) (record { outcome = t.0; reports_after = t.1 })

pub returns : goal.returns
returns c =
    let t = told_over _ _ _ _ _ _ (tested_fine _ _ _ _ (vacuum_split _ _ _ _) (sym c.in_ok-check_store.ensures)) (c.vacuum.ensures.outcome, c.vacuum.ensures.reports_after) in
    record { outcome = t.0; reports_after = t.1 }
