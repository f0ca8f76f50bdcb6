use mathlib.Core.Path.{◌∙◌}
use Rattle.std.proofs.lemmas.Result.{err_from_is_err_and}
use Rattle.reads.specs.Sights.{fresh_room}
use Rattle.finds.specs.Sweep.{step_blocked, step_known, step_fresh}
use Rattle.finds.proofs.Search.step.Goals as goal
use Rattle.finds.proofs.Search.step.Goals.{in-Known, in-Fresh}

pub returns-in_err-c : goal.returns-in_err-c
returns-in_err-c c =
    let p = err_from_is_err_and c.from_residual.result c.from_residual.ensures.1 in
    rw (p.1, p.2) (step_blocked _ _ _ _ _ _ _ _ _ _ _ c.in_err-c.ensures)

pub add_record-requires : goal.add_record-requires
add_record-requires c = fresh_room _ _ _ _ _ _ _ _ (rw c.in-Fresh.is at c.in_ok-c.ensures)

pub returns : goal.returns
returns c = elim c.match-branch-2.branch [
  | in-Known w ↦ rw (w.found-is, w.c-is) at c.list_row.ensures ∙ step_known _ _ _ _ _ _ _ _ _ _ (rw w.in-Known.is at c.in_ok-c.ensures)
  | in-Fresh w ↦ rw (w.found-is, w.c-is, w.add_record.ensures) at c.list_row.ensures ∙ step_fresh _ _ _ _ _ _ _ _ _ _ _ (rw w.in-Fresh.is at c.in_ok-c.ensures)
]
