-- Upstream's premises can be met: one reachable store, with an open reader that has a record and an open writer with a prepared cell, that
-- meets them. And the smallest examples, computed, where our calls and upstream's bodies part.
use Rattle.std.specs.Prelude.{List, [], ◌∷◌, replicate}
use Rattle.std.proofs.Math.Option.{some}
use Rattle.kinds.specs.Answer.{Begun, Wrote, Done}
use Rattle.kinds.specs.ReadAnswer.{Key}
use Rattle.words.specs.Sizes.{base}
use Rattle.kinds.specs.Versions.{at, tx}
use Rattle.rules.specs.Memory.{Mem, mem}
use Rattle.rules.specs.Create.{create_out}
use Rattle.rules.specs.Run.{Call, begin, write, commit, read, Reply, gave, looked, run}
use Rattle.rules.specs.History.{Log, log_of, made}

abbrev pub lent : Mem base
lent = mem (replicate 4 0) (replicate 2 0) (replicate 4 (replicate 8 0)) (replicate base.slots (replicate base.width 0))

-- row 0 is committed; transaction 2 has read it; transaction 3 has written it, which locks its version, and row 1
abbrev pub calls : List Call
calls = begin ∷ write 0 1 0 (some 70) ∷ commit 0 1 ∷ begin ∷ read 0 2 0 ∷ begin ∷ write 1 3 0 (some 75) ∷ write 1 3 1 (some 5) ∷ []

abbrev pub replies : List Reply
replies = gave (Begun 0 (tx 1)) [] ∷ gave (Wrote (at 1)) [] ∷ gave Done [] ∷ gave (Begun 0 (tx 2)) [] ∷ looked (Key 70) ∷ gave (Begun 1 (tx 3)) [] ∷ gave (Wrote (at 2)) [] ∷ gave (Wrote (at 3)) [] ∷ []

abbrev pub store : Mem base
store = (run calls (create_out lent 4 2).after).1

abbrev pub log : Log
log = log_of calls replies (made 4 2 ∷ [])

-- every slot occupied: upstream draws an id and moves the clock, ours refuses with 3 and the clock stays
abbrev pub full : Mem base
full = (run (replicate base.slots begin) (create_out lent 4 2).after).1
