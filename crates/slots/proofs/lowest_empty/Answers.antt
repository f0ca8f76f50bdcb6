use Rattle.std.specs.Prelude.{◌≡◌, position}
use Rattle.std.proofs.Common.{◌∙◌, subst, rules, tests, take}
use Rattle.std.proofs.lemmas.Iterator.{YieldsList-from_slice}
use Rattle.std.proofs.lemmas.Iterator.Search.{position_from_yields_List}
use Rattle.words.specs.Sizes.{base}
use Rattle.slots.specs.OccupiedLaws.{IsLowestEmpty}
use Rattle.slots.proofs.ChainLaws.{is_empty, lowest_position}
use Rattle.slots.proofs.lowest_empty.Goals as goal

pub returns : goal.returns
returns c =
    let lent = take base.slots c.args.slots.now in
    let found : c.position.result ≡ position is_empty lent = position_from_yields_List is_empty _ _ c.position.result c.position.ensures.ran (YieldsList-from_slice _ (c.iter.ensures.rest ∙ c.counted.ensures)) (λ x b q k. search (rules, tests)) in
    subst (IsLowestEmpty lent) (search (rules, tests, found)) (lowest_position lent)
