use Rattle.std.proofs.Common.{rules, tests, List, ◌≡◌, ap, ◌∙◌, sym}
use Rattle.std.specs.Option.{option_map}
use Rattle.std.proofs.lemmas.Iterator.Search.{find_from_yields_List}
use Rattle.std.proofs.lemmas.Iterator.Adapters.{YieldsList-from_rev_slice}
use Rattle.rules.specs.Read.{own}
use Rattle.words.specs.Slots.{Write}
use Rattle.reads.specs.Found.{own_of}
use Rattle.reads.specs.OwnLaws.{of_row, new_of, own_found}
use Rattle.reads.proofs.own_cell.Goals as goal

-- the entry found, as its new cell
mapped : (c : goal.After-map) → c.map.result ≡ option_map new_of (option_map (λ x. x.now) c.find.result)
mapped c = search (rules, tests)

pub returns : goal.returns
returns c =
    mapped c
    ∙ ap (option_map new_of) (find_from_yields_List (of_row c.args.row) _ _ c.find.result c.find.ensures.ran (YieldsList-from_rev_slice c.writes.result.now cc) (λ x b q k. search (rules, tests)))
    ∙ sym (own_found c.args.row c.writes.result.now)
    ∙ ap (λ (ws : List Write). own_of (own ws c.args.row)) c.writes.ensures
