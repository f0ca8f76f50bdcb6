-- "a cell given back is the next handed out, all fields cleared but the free link"
use Rattle.std.specs.Prelude.{ℕ}
use mathlib.Core.List.{List}
use Rattle.words.specs.Sizes.{Sizes}
use Rattle.words.specs.Lists.{fold}
use Rattle.rules.specs.Memory.{Mem}
use Rattle.rules.specs.Abort.{give_back}

module _ {z : Sizes} where
  -- ---- several, in order
  abbrev pub give_all : List ℕ → Mem z → Mem z
  give_all l m = fold give_back l m
