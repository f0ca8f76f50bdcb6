use Rattle.std.proofs.Common.{rules, Err}
use Rattle.kinds.specs.Results.{judged}
use Rattle.rules.proofs.Theory.Good.{cell_in}
use Rattle.rules.proofs.TestLaws.{first_passes}
use Rattle.access.specs.WriteRest.{again_refused, again_done}
use mathlib.Core.Path.{◌≡◌, sym, ap, ◌∙◌}
use Rattle.access.proofs.write_again.Goals as goal

pub returns-in_err-check_cell : goal.returns-in_err-check_cell
returns-in_err-check_cell c = let r : c.from_residual.result ≡ Err c.in_err-check_cell.field-0.0 = search rules in rw r (again_refused _ _ _ _ _ (sym c.check_cell.ensures ∙ ap judged c.in_err-check_cell.was))

pub replace-requires : goal.replace-requires
replace-requires c = cell_in _ _ _ c.requires.fits.cells (first_passes _ _ c.check_cell.ensures (ap judged c.in_ok-check_cell.was))

pub returns : goal.returns
returns c = again_done _ _ _ _ (sym c.check_cell.ensures ∙ ap judged c.in_ok-check_cell.was) c.replace.ensures
