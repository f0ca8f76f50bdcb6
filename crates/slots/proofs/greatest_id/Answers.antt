use Rattle.std.proofs.Common.{◌∙◌, ap, rules, tests, get_or, unwrap_or}
use Rattle.std.specs.Ordering.{max_by_ordering, nat_cmp}
use Rattle.std.proofs.lemmas.Iterator.{YieldsList-from_slice, YieldsList-from_map}
use Rattle.std.proofs.lemmas.Iterator.Consumers.{YieldsList-at, reduce_from_yields_List}
use Rattle.words.specs.Sizes.{ID}
use Rattle.slots.proofs.ChainLaws.{greatest_max}
use Rattle.slots.proofs.greatest_id.Goals as goal

pub returns : goal.returns
returns c =
    c.unwrap_or.ensures
    ∙ ap (λ r. unwrap_or r 0)
    (reduce_from_yields_List (λ p z. max_by_ordering (nat_cmp p z) p z) _ _ c.max.ensures.ran
    (YieldsList-from_map _ (λ t. get_or t ID 0) (YieldsList-at c.map.ensures.source (YieldsList-from_slice _ (c.iter.ensures.rest ∙ c.counted.ensures))) c.map.ensures.closure (λ x r q k. search (rules, tests))))
    ∙ greatest_max _
