-- The code's results in the papers' words: what a call answers, with the number of a refusal and what it returns.
use Rattle.std.specs.Prelude.{ℕ, Result, Ok, Err}
use Rattle.kinds.specs.declared.Cell.{Cell}
use Rattle.kinds.specs.declared.Begun.{Begun}
use Rattle.kinds.specs.declared.Vacuumed.{Vacuumed}
use Rattle.kinds.specs.declared.Reading.{Reading}
use Rattle.kinds.specs.declared.refusals.Refusal.{Refusal}
use Rattle.kinds.specs.declared.refusals.Refusal.TheVariants.{BadSize, ClockSpent, NoFreeSlot, BadSlot, NotOwner, BadRow, RowLocked, WriteConflict, ReadConflict, ChainTooLong, NoRoom, WriteSetFull, ReadSetFull, ResultFull, Damaged}
use Rattle.kinds.specs.ReadAnswer.{ReadAnswer}
use Rattle.kinds.specs.Answer.{Answer}
use Rattle.kinds.specs.Verdict.{Verdict}

-- paper 01, "Numbers for no"
abbrev pub number : Refusal → ℕ
number BadSize = 1
number ClockSpent = 2
number NoFreeSlot = 3
number BadSlot = 4
number (NotOwner id) = 5
number (BadRow row) = 6
number (RowLocked row) = 7
number (WriteConflict row) = 8
number (ReadConflict row) = 9
number (ChainTooLong row) = 10
number NoRoom = 11
number WriteSetFull = 12
number (ReadSetFull row) = 13
number ResultFull = 14
number Damaged = 15

-- its column "Returns": the row or the id found; 0 where it returns nothing
abbrev pub about : Refusal → ℕ
about BadSize = 0
about ClockSpent = 0
about NoFreeSlot = 0
about BadSlot = 0
about (NotOwner id) = id.0
about (BadRow row) = row
about (RowLocked row) = row
about (WriteConflict row) = row
about (ReadConflict row) = row
about (ChainTooLong row) = row
about NoRoom = 0
about WriteSetFull = 0
about (ReadSetFull row) = row
about ResultFull = 0
about Damaged = 0

-- ---- what a call's result answers

-- creation, commit and abort
abbrev pub done : Result (Unit {0}) Refusal → Answer
done (Ok _) = Answer.Done
done (Err e) = Answer.Refused (number e) (about e)

abbrev pub begun : Result Begun Refusal → Answer
begun (Ok b) = Answer.Begun b.slot b.id
begun (Err e) = Answer.Refused (number e) (about e)

abbrev pub wrote : Result Cell Refusal → Answer
wrote (Ok c) = Answer.Wrote c
wrote (Err e) = Answer.Refused (number e) (about e)

-- a lookup's count
abbrev pub listed : Result ℕ Refusal → Answer
listed (Ok n) = Answer.Listed n
listed (Err e) = Answer.Refused (number e) (about e)

-- what a row holds, as a read answers it
abbrev pub reading : Reading → ReadAnswer
reading Reading.None = ReadAnswer.None
reading Reading.Empty = ReadAnswer.Empty
reading (Reading.Key k) = ReadAnswer.Key k

abbrev pub seen : Result Reading Refusal → ReadAnswer
seen (Ok r) = reading r
seen (Err e) = ReadAnswer.Refused (number e) (about e)

abbrev pub vacuumed : Result Vacuumed Refusal → Answer
vacuumed (Ok v) = Answer.Vacuumed v.count (reading v.live)
vacuumed (Err e) = Answer.Refused (number e) (about e)

-- ---- what a list of tests comes to

abbrev pub judged : Result (Unit {0}) Refusal → Verdict
judged (Ok _) = Verdict.Fine
judged (Err e) = Verdict.Refused (number e) (about e)
