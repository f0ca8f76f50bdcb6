use native.Mathlib.Omega.{arith}
use mathlib.Core.Path.{refl, ap}
use Rattle.std.proofs.lemmas.Result.{err_from_is_err_and}
use Rattle.kinds.specs.Results.{judged}
use Rattle.lookup.specs.RowLaws.{zeros_long}
use Rattle.lookup.specs.SearchLaws.{search_stopped, search_late, search_fits, search_listed}
use Rattle.lookup.proofs.search.Goals as goal

pub returns-in_err-scan : goal.returns-in_err-scan
returns-in_err-scan c =
    let p = err_from_is_err_and c.from_residual.result c.from_residual.ensures.1 in
    rw (p.1, p.2) (search_stopped _ _ _ c.requires (c.told-slots c.args.slot (omega arith)) _ _ _ _ zeros_long _ _ _ _ c.in_err-scan.ensures _ _ _ refl)

pub returns-in_err-late : goal.returns-in_err-late
returns-in_err-late c =
    let p = err_from_is_err_and c.from_residual-in_err-late.result c.from_residual-in_err-late.ensures.1 in
    rw (p.1, p.2) (search_late _ _ _ c.requires (c.told-slots c.args.slot (omega arith)) _ _ _ _ zeros_long _ _ _ _ c.in_ok-scan.ensures _ refl _ _ _ (ap judged c.in_err-late.was))

pub fill-requires : goal.fill-requires
fill-requires c =
    let f = search_fits _ _ _ c.requires (c.told-slots c.args.slot (omega arith)) _ _ _ _ zeros_long (judged c.args.late) _ _ _ c.in_ok-scan.ensures _ refl in
    rw c.rows.ensures (omega (arith, f.1.0, f.1.1))

pub returns : goal.returns
returns c = search_listed _ _ _ c.requires (c.told-slots c.args.slot (omega arith)) _ _ _ _ zeros_long _ _ _ _ c.in_ok-scan.ensures _ refl _ _ (ap judged c.in_ok-late.was) (rw c.rows.ensures at c.fill.ensures)
