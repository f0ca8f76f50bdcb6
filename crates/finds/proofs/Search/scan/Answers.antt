use native.Mathlib.Omega.{arith}
use Prim.Native.Nat.{◌+◌, ◌-◌}
use mathlib.Core.Path.{refl, sym, ◌∙◌}
use Rattle.std.proofs.lemmas.Result.{err_from_is_err_and}
use Rattle.finds.specs.Sweep.{scan_end, scan_skips, scan_stops, scan_goes, step_next}
use Rattle.finds.proofs.Search.scan.Goals as goal
use Rattle.finds.proofs.Search.scan.Goals.{then-marked+in_ok-step, else-marked}

pub returns-in_err-step : goal.returns-in_err-step
returns-in_err-step c =
    let p = err_from_is_err_and c.from_residual.result c.from_residual.ensures.1 in
    rw (p.1, p.2) (scan_stops _ _ _ _ _ _ _ _ (c.args.r - (c.loop-row.row + 1)) (omega arith) _ _ _ c.if-marked.true _ c.in_err-step.ensures _ _ _ _ refl ∙ c.loop-row.invariant.left)

pub loop-row-preserved : goal.loop-row-preserved
loop-row-preserved c = elim c.if-marked.branch [
  | then-marked+in_ok-step w ↦ rw w.found-is (record {
    few = omega (arith, step_next _ _ _ _ _ _ _ _ _ _ _ _ w.in_ok-step.ensures);
    left = scan_goes _ _ _ _ _ _ _ _ _ (omega arith) _ _ _ w.if-marked.true _ w.in_ok-step.ensures ∙ c.loop-row.invariant.left;
  })
  | else-marked w ↦ rw w.found-is (record {
    few = omega arith;
    left = scan_skips _ _ _ _ _ _ _ _ _ (omega arith) _ _ _ w.if-marked.false ∙ c.loop-row.invariant.left;
  })
]

pub returns : goal.returns
returns c = sym (scan_end _ _ _ _ _ _ _ _ _ (omega arith)) ∙ c.loop-row.invariant.left
