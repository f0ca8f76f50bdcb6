use mathlib.Core.Path.{sym, ◌∙◌}
use Rattle.std.proofs.lemmas.Result.{err_from_is_err_and}
use Rattle.gate.proofs.FineLaws.{store_fine}
use Rattle.starts.specs.BeginLaws.{begin_split}
use Rattle.store.specs.Tested.{tested_refused, tested_fine}
use Rattle.store.proofs.begin.Goals as goal

pub begin-requires : goal.begin-requires
begin-requires c = store_fine _ (sym c.in_ok-check_store.ensures)

pub returns-in_err-check_store : goal.returns-in_err-check_store
returns-in_err-check_store c =
    let p = err_from_is_err_and c.from_residual.result c.from_residual.ensures.1 in
    rw (p.1, p.2) (tested_refused _ _ _ _ (begin_split _) _ _ (sym c.in_err-check_store.ensures))

pub returns : goal.returns
returns c = c.begin.ensures ∙ tested_fine _ _ _ _ (begin_split _) (sym c.in_ok-check_store.ensures)
