use Rattle.std.proofs.Math.Seq.{take-length}
use Rattle.std.proofs.Common.{rules, tests, ap, ◌∙◌, get_or, nat_eq, List, ℕ}
use Rattle.std.proofs.lemmas.Iterator.{YieldsList-from_slice}
use Rattle.std.proofs.lemmas.Iterator.Search.{any_from_yields_List}
use Rattle.rules.specs.Read.{recorded}
use Rattle.reads.specs.OwnLaws.{recorded_any}
use Rattle.reads.proofs.is_recorded.Goals as goal

pub returns : goal.returns
returns c =
    any_from_yields_List (λ (r : List ℕ). nat_eq (get_or r 1 0) c.args.c.0) _ _ _ c.any.ensures.ran (YieldsList-from_slice c.records-recs.result.now (search (rules, tests, take-length))) (λ x b q k. search (rules, tests))
    ∙ recorded_any c.args.c.0 c.records-recs.result.now
    ∙ ap (recorded c.args.c.0) c.records-recs.ensures
