use Rattle.perform.specs.Laws.{find_acted, found_told}
use Rattle.perform.proofs.find.Goals as goal

pub returns : goal.returns
returns c = λ k. find_acted _ _ _ _ _ _ _ _ (found_told _ _ _ _ _ _ c.args.numbers.now _ c.lookup_all.ensures.outcome c.lookup_all.ensures.results_after)
