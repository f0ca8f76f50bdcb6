use Rattle.lookup.specs.CallLaws.{search_all}
use Rattle.lookup.specs.LookupRest.{filled_is}
use Rattle.lookup.proofs.lookup_all.Goals as goal

pub returns : goal.returns
returns c = filled_is _ _ _ _ _ _ c.search.ensures (search_all _ _ _ _ c.requires.store.fits.few_rows)
