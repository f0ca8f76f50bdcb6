use mathlib.Core.Path.{ap, ◌∙◌}
use Rattle.finds.specs.Marks.{marked}
use Rattle.words.specs.Lists.{fold}
use Rattle.lookup.specs.CallLaws.{search_rows}
use Rattle.lookup.specs.LookupRest.{filled_is}
use Rattle.lookup.proofs.lookup_rows.Goals as goal

pub returns : goal.returns
returns c = filled_is _ _ _ _ _ _ c.search.ensures (search_rows _ _ _ _ c.requires.store.fits.few_rows _ _ _ c.check_own-late.ensures (c.mark_own.ensures ∙ ap (fold marked _) c.mark_all.ensures))
