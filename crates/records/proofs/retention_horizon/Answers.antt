use Rattle.std.proofs.Common.{◌≡◌, ◌∙◌, rules, tests, min, fold}
use Rattle.records.proofs.FoldLaws.{lowers, fold_is_least}
use Rattle.records.specs.Horizon.{horizon_of}
use Rattle.records.proofs.retention_horizon.Goals as goal

pub returns : goal.returns
unfolding horizon_of
returns c =
    let e : c.fold.result ≡ fold (λ a s. lowers (λ s. s.xmin) s a) (min c.args.request c.args.clock) c.args.slots.now = search (rules, tests) in
    e ∙ fold_is_least (λ s. s.xmin) _ _
