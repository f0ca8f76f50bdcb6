use Rattle.std.proofs.Common.{arith, sym, ap, ◌∙◌}
use Rattle.chains.specs.Reporting.{reporting_start, reporting_room, reporting_next, reporting_end}
use Rattle.chains.specs.Linking.{line_less}
use Rattle.kinds.specs.Versions.{reclaimable}
use Rattle.chains.proofs.report_dead.Goals as goal

pub loop-c-init : goal.loop-c-init
loop-c-init c = reporting_start _ _ _ _ c.requires.ends c.requires.first_in_bounds

pub report-i-requires : goal.report-i-requires
report-i-requires c = λ d. reporting_room _ _ _ _ _ _ _ c.loop-c.invariant c.loop-c-test.true (ap (reclaimable c.args.horizon) (sym c.version_at-v.ensures) ∙ d)

pub loop-c-smaller : goal.loop-c-smaller
loop-c-smaller c = line_less _ _ c.loop-c.invariant.ended c.loop-c-test.true _ c.version_at-v.ensures

pub loop-c-preserved : goal.loop-c-preserved
loop-c-preserved c = reporting_next _ _ _ _ _ _ _ c.loop-c.invariant c.loop-c-test.true _ c.version_at-v.ensures _ c.report-i.ensures.value _ c.report-i.ensures.reports_after

pub returns : goal.returns
returns c = reporting_end _ _ _ _ _ _ _ c.loop-c.invariant (omega (arith, c.loop-c-test.false))
