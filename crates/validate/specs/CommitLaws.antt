-- A commit's tests as a whole: records, then bases, then new cells.
use Rattle.std.specs.Prelude.{List}
use Rattle.kinds.specs.Verdict.{Verdict}
use Rattle.words.specs.Sizes.{Sizes}
use Rattle.words.specs.Slots.{Slot, Write}
use Rattle.rules.specs.Memory.{Mem}
use Rattle.rules.specs.Outcome.{each}
use Rattle.rules.specs.Verdicts.{verdict, and_then}
use Rattle.rules.specs.Commit.{record_tests, base_tests, new_tests}

module _ {z : Sizes} (m : Mem z) (t : Slot) where
  -- the three judgements, one after the other
  abbrev pub judged : List Write → Verdict
  judged ws = and_then (and_then (verdict (each (record_tests m t) t.recs)) (verdict (each (base_tests m) ws))) (verdict (each (new_tests m) ws))
