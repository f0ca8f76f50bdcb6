use Rattle.std.proofs.Common.{◌≡◌, ◌∙◌, rules, tests, cond, take, min, get_or}
use Rattle.std.specs.Prelude.{fold}
use Rattle.words.specs.Sizes.{base}
use Rattle.slots.proofs.ChainLaws.{is_empty, least_fold}
use Rattle.slots.proofs.least_word.Goals as goal

pub returns : goal.returns
returns c =
    let e : c.fold.result ≡ fold (λ a t. cond (is_empty t) a (min a (get_or t c.args.word 0))) c.args.ceiling (take base.slots c.args.slots.now) = search (rules, tests) in
    e ∙ least_fold _ _ _
