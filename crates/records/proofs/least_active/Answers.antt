use Rattle.std.proofs.Common.{◌≡◌, ◌∙◌, rules, tests, fold}
use Rattle.records.proofs.FoldLaws.{lowers, fold_is_least}
use Rattle.records.specs.Horizon.{least_active}
use Rattle.records.proofs.least_active.Goals as goal

pub returns : goal.returns
unfolding least_active
returns c =
    let e : c.fold.result ≡ fold (λ a s. lowers (λ s. s.id) s a) c.args.clock c.args.slots.now = search (rules, tests) in
    e ∙ fold_is_least (λ s. s.id) _ _
