-- Every reachable store meets what upstream's terms ask of it: the theorems, in the words of the memory. Born.antt and BornCalls.antt have
-- their proof.
use Rattle.std.specs.Prelude.{suc}
use Rattle.words.specs.Sizes.{Sizes}
use Rattle.rules.specs.Memory.{Mem}
use Rattle.rules.specs.History.{Log, rows_in, cells_in}
use Rattle.rules.specs.Theory.View.{view_of}
use Rattle.upstream.specs.Born.{Born}

-- ---- every call, and every run
abbrev pub Alive : {z : Sizes} → Mem z → Log → Type 0
Alive m l = Born (rows_in l) (suc (cells_in l)) (view_of m)
