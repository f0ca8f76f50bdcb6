use Rattle.std.proofs.Common.{arith, refl}
use Rattle.std.proofs.lemmas.Result.{err_from_is_err_and}
use Rattle.words.specs.Sizes.{base}
use Rattle.rules.specs.Memory.{mem}
use Rattle.vacuum.specs.Rest.{comes, refuses, vacuum_bad_row, vacuum_bare, vacuum_no_head, vacuum_harmed, vacuum_full, vacuum_sweeps, vacuum_done}
use Rattle.vacuum.proofs.vacuum.Goals as goal

pub returns-then-meta-row : goal.returns-then-meta-row
returns-then-meta-row c = refuses _ _ _ _ _ (vacuum_bad_row _ _ _ _ c.if-meta-row.true)

pub returns-then-head-eq0 : goal.returns-then-head-eq0
returns-then-head-eq0 c = comes _ _ _ _ _ _ refl (vacuum_bare _ _ _ _ c.if-meta-row.false c.if-head-eq0.true)

pub returns-then-n-head : goal.returns-then-n-head
returns-then-n-head c = refuses _ _ _ _ _ (vacuum_no_head _ _ _ _ c.if-meta-row.false c.requires.fits.some_cell c.if-head-eq0.false c.if-n-head.true)

pub returns-in_err-count : goal.returns-in_err-count
returns-in_err-count c =
    let p = err_from_is_err_and c.from_residual.result c.from_residual.ensures.1 in
    rw (p.1, p.2)
    (refuses _ _ _ _ _ (vacuum_harmed _ _ _ _ c.if-meta-row.false c.requires.fits.some_cell c.if-head-eq0.false (omega (arith, c.if-n-head.false))
    _ c.version_at.ensures _ c.horizon_behind-horizon.ensures _ c.in_err-count.ensures))

pub returns-then-reports-count : goal.returns-then-reports-count
returns-then-reports-count c =
    refuses _ _ _ _ _
    (vacuum_full _ _ _ _ c.if-meta-row.false c.requires.fits.some_cell c.if-head-eq0.false (omega (arith, c.if-n-head.false))
    _ c.version_at.ensures _ c.horizon_behind-horizon.ensures c.requires.fits.cells _ c.in_ok-count.ensures c.if-reports-count.true)

pub sweep-requires-clause-sweepable : goal.sweep-requires-clause-sweepable
sweep-requires-clause-sweepable c =
    vacuum_sweeps (mem {z = base} c.args.meta.now c.args.rows.now c.args.cells.now c.args.slots.now) _ _ _ c.if-meta-row.false c.requires.fits.some_cell c.if-head-eq0.false (omega (arith, c.if-n-head.false))
    _ c.version_at.ensures _ c.horizon_behind-horizon.ensures c.requires.fits.cells _ c.in_ok-count.ensures (omega (arith, c.if-reports-count.false))

pub returns : goal.returns
returns c =
    comes _ _ _ _ _ _ c.sweep.ensures.reports_after
    (vacuum_done _ _ _ _ c.if-meta-row.false c.requires.fits.some_cell c.if-head-eq0.false (omega (arith, c.if-n-head.false))
    _ c.version_at.ensures _ c.horizon_behind-horizon.ensures c.requires.fits.cells _ c.in_ok-count.ensures (omega (arith, c.if-reports-count.false))
    _ c.sweep.ensures.value _ (c.sweep.ensures.swept c.args.rows.now c.args.slots.now))
