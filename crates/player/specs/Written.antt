-- What a replay program writes of what it reads. A reader's bytes that are left and a writer's bytes are known or not; where they are not, nothing is said of them.
use Rattle.std.specs.Prelude.{ℕ, ◌+◌, ◌<◌, ◌≤◌, ◌≡◌, ◌⊎◌, Option, List, [], ◌++◌, length}
use Rattle.std.specs.Io.KnownBytes.{Appends, Consumes, IsAtEnd}
use Rattle.words.specs.Sizes.{base, last_id}
use Rattle.rules.specs.Memory.{Mem}
use Rattle.pieces.specs.declared.Held.{Held}
use Rattle.pieces.specs.Texts.{records}
use Rattle.pieces.specs.Parts.{parts}
use Rattle.perform.specs.Perform.{Rooms, replayed, memory_after}
use Rattle.player.specs.Batches.{Taken}

-- p had come since the last end, and then s: what is written grew by the answers of the records that ended, in order
abbrev pub Wrote : Rooms → List ℕ → List ℕ → Mem base → Option (List ℕ) → Option (List ℕ) → Type 0
Wrote z p s m was now = Appends was now (replayed z (parts (p ++ s)).closed m)

-- s was read so far: the memory is that of the records that ended, what stands behind the last end is held, their answers were written, and
-- each turn that is gone read a byte at least
pub record Hearing (z : Rooms) (turns : ℕ) (front : List ℕ) (h : Held) (m after : Mem base) (left rest was now : Option (List ℕ)) : Type 0 where
  pub s : List ℕ
  pub read : Consumes left rest s
  pub counted : last_id ≤ turns + length s
  pub taken : Taken z [] s front h m after
  pub written : Wrote z [] s m was now

-- s was read, to the end where it is shorter than any number of turns: the memory is that of the records that ended, what stands behind the
-- last end is held, and their answers were written
pub record Heard (z : Rooms) (front : List ℕ) (h : Held) (m after : Mem base) (left rest was now : Option (List ℕ)) : Type 0 where
  pub s : List ℕ
  pub read : Consumes left rest s
  pub ended : length s < last_id → IsAtEnd rest
  pub taken : Taken z [] s front h m after
  pub written : Wrote z [] s m was now

-- s was read, to the end where it is shorter than any number of turns: its records' answers were written, in order, each once, and the memory
-- is theirs
pub record Replayed (z : Rooms) (m after : Mem base) (left rest was now : Option (List ℕ)) : Type 0 where
  pub s : List ℕ
  pub read : Consumes left rest s
  pub ended : length s < last_id → IsAtEnd rest
  pub memory : after ≡ memory_after z (records s) m
  pub written : Appends was now (replayed z (records s) m)

-- the answers of a text's records were written, in order, each once, and the memory is theirs
pub record Whole (z : Rooms) (text : List ℕ) (m after : Mem base) (was now : Option (List ℕ)) : Type 0 where
  pub written : Appends was now (replayed z (records text) m)
  pub memory : after ≡ memory_after z (records text) m

-- ---- where a read or a write fails: no record is half performed

-- p had come since the last end, and of a piece only s was gone through: the memory is that of the records that ended, and nothing was done
-- of what comes later
pub record Stopped (z : Rooms) (p piece : List ℕ) (m after : Mem base) : Type 0 where
  pub s : List ℕ
  pub later : List ℕ
  pub cut : piece ≡ s ++ later
  pub memory : after ≡ memory_after z (parts (p ++ s)).closed m

-- a text was read, and a front of it was gone through: the memory is that of the records that ended there
pub record Failed (z : Rooms) (m after : Mem base) (left rest : Option (List ℕ)) : Type 0 where
  pub text : List ℕ
  pub read : Consumes left rest text
  pub stopped : Stopped z [] text m after

-- s was read, to the end where it is shorter than any number of turns: the memory is that of all its records
pub record Unanswered (z : Rooms) (m after : Mem base) (left rest : Option (List ℕ)) : Type 0 where
  pub s : List ℕ
  pub read : Consumes left rest s
  pub ended : length s < last_id → IsAtEnd rest
  pub memory : after ≡ memory_after z (records s) m

-- on the way, or at the end of the input, where what stands behind the last end is a record too
abbrev pub Broken : Rooms → Mem base → Mem base → Option (List ℕ) → Option (List ℕ) → Type 0
Broken z m after left rest = Failed z m after left rest ⊎ Unanswered z m after left rest
