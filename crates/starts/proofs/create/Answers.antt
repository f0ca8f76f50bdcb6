use mathlib.Core.Path.{sym, ◌∙◌}
use Rattle.starts.specs.CreateLaws.{create_refused, create_done}
use Rattle.starts.proofs.create.Goals as goal

pub returns-then-not-fits : goal.returns-then-not-fits
returns-then-not-fits c = create_refused _ _ _ (sym c.fits.ensures ∙ c.if-not-fits.true)

pub returns : goal.returns
returns c = create_done _ _ _ (sym c.fits.ensures ∙ c.if-not-fits.false) _ _ _ _ c.start.ensures c.clear_rows.ensures c.free_cells.ensures c.clear_slots.ensures
