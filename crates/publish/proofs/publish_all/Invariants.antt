use Rattle.std.specs.Prelude.{◌≡◌, drop}
use Rattle.words.specs.Sizes.{base}
use Rattle.words.specs.Slots.{slot_of}
use Rattle.lists.specs.Triples.{entries}
use Rattle.rules.specs.Commit.{publish_all}
use Rattle.rules.specs.Theory.Bridge.{AllIn}
use Rattle.publish.specs.PublishLaws.{lent}
use Rattle.publish.proofs.publish_all.Given as goal

-- what is left has its rows and cells, and is still to publish
abbrev pub invariant-loop-row : goal.invariant-loop-row
invariant-loop-row l =
    AllIn (lent l.initial.rows l.initial.cells) (entries (drop l.row-index l.row-items))
    × (publish_all l.id.0 (entries (drop l.row-index l.row-items)) (lent l.rows l.cells) ≡ publish_all l.id.0 (slot_of base l.slot).writes (lent l.initial.rows l.initial.cells))
