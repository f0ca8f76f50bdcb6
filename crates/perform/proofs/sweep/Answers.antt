use Rattle.std.specs.Prelude.{Ok, Err}
use Rattle.std.proofs.Common.{sym}
use mathlib.Core.Path.{refl}
use Rattle.perform.specs.Laws.{swept_fits, swept_taken, swept_told, vacuum_acted, swept_as, cells_none}
use Rattle.perform.proofs.sweep.Goals as goal

pub slice_bounds-copy_cells-end : goal.slice_bounds-copy_cells-end
slice_bounds-copy_cells-end c = (swept_fits _ _ _ _ _ c.args.reports.now c.in-Ok.ensures.outcome _ c.args.numbers.now _ c.in-Ok.ensures.reports_after refl c.requires).0

pub slice_bounds-copy_cells-end-in-Ok : goal.slice_bounds-copy_cells-end-in-Ok
slice_bounds-copy_cells-end-in-Ok c = sym (swept_taken _ _ _ _ _ c.args.reports.now c.in-Ok.ensures.outcome _ _ c.in-Ok.ensures.reports_after refl)

pub copy_cells-requires : goal.copy_cells-requires
copy_cells-requires c =
    rw (swept_taken _ _ _ _ _ c.args.reports.now c.in-Ok.ensures.outcome _ _ c.in-Ok.ensures.reports_after refl)
    (swept_fits _ _ _ _ _ c.args.reports.now c.in-Ok.ensures.outcome _ c.args.numbers.now _ c.in-Ok.ensures.reports_after refl c.requires).1

pub returns-in-Ok : goal.returns-in-Ok
returns-in-Ok c =
    vacuum_acted _ _ _ _ (Ok c.in-Ok.gone) _ _
    (swept_told _ _ _ _ _ c.args.reports.now c.in-Ok.ensures.outcome _ _ _ c.in-Ok.ensures.reports_after refl
    (rw (swept_taken _ _ _ _ _ c.args.reports.now c.in-Ok.ensures.outcome _ _ c.in-Ok.ensures.reports_after refl) at c.copy_cells.ensures))

pub returns-in_default : goal.returns-in_default
returns-in_default c = swept_as c.in_default.is (vacuum_acted _ _ _ _ (Err c.in_default.field-0) _ _ (swept_told _ _ _ _ _ c.args.reports.now c.in_default.ensures.outcome _ _ 0 c.in_default.ensures.reports_after refl (cells_none c.vacuum-answer.new.reports c.args.numbers.now)))
