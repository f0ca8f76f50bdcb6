use mathlib.Core.Path.{sym}
use Rattle.std.proofs.lemmas.Result.{err_from_is_err_and}
use Rattle.lookup.specs.CallLaws.{lookup_refused, lookup_goes_on}
use Rattle.lookup.specs.LookupRest.{filled_is, filled_refused}
use Rattle.lookup.proofs.lookup.Goals as goal

pub returns-in_err-check_candidates : goal.returns-in_err-check_candidates
returns-in_err-check_candidates c =
    let p = err_from_is_err_and c.from_residual.result c.from_residual.ensures.1 in
    rw (p.1, p.2) (filled_refused _ _ _ _ _ (lookup_refused _ _ _ _ _ _ _ (sym c.in_err-check_candidates.ensures)))

pub returns : goal.returns
returns c = filled_is _ _ _ _ _ _ c.lookup_rows.ensures (lookup_goes_on _ _ _ _ _ (sym c.in_ok-check_candidates.ensures))
