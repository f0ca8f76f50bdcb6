-- What a record does: the call that it means, on the rules' memory, and the answer line.
use Rattle.std.specs.Prelude.{ℕ, List, [], ◌∷◌, ◌++◌, get_or, take}
use Rattle.std.proofs.Math.Option.{Option, none, some}
use Rattle.kinds.specs.ReadAnswer.{ReadAnswer}
use Rattle.kinds.specs.Answer.{Answer}
use Rattle.words.specs.Sizes.{base}
use Rattle.rules.specs.Memory.{Mem}
use Rattle.rules.specs.Run.{Call, create, begin, read, write, commit, abort, vacuum, lookup_all, Reply, looked, gave, swept, Ran, step}
use Rattle.lines.specs.declared.Line.{Line}
use Rattle.lines.specs.Lines.{meaning}
use Rattle.answers.specs.Answers.{answer, wOk, wNone, wEmpty, wKey, wRefused}
use Rattle.kinds.specs.Results.{done, begun, wrote, seen, vacuumed, listed}
use Rattle.perform.specs.declared.Said.{Said}

-- entries of the report buffer of a vacuum and of the result buffer of a find
pub record Rooms : Type 0 where
  pub reports : ℕ
  pub results : ℕ

-- the rules' call that a line is
abbrev pub call_of : Rooms → Line → Option Call
call_of z (Line.Store n r) = some (create n r)
call_of z Line.Begin = some begin
call_of z (Line.Read slot id row) = some (read slot id row)
call_of z (Line.Write slot id row key) = some (write slot id row (some key))
call_of z (Line.Delete slot id row) = some (write slot id row none)
call_of z (Line.Commit slot id) = some (commit slot id)
call_of z (Line.Abort slot id) = some (abort slot id)
call_of z (Line.Vacuum row request) = some (vacuum row request z.reports)
call_of z (Line.Find slot id key) = some (lookup_all slot id key z.results)
call_of z Line.Other = none

-- ---- answer lines

-- `none`, `empty` or `key` and the key; a refusal prints its number
abbrev pub read_text : ReadAnswer → List ℕ
read_text ReadAnswer.None = answer wNone []
read_text ReadAnswer.Empty = answer wEmpty []
read_text (ReadAnswer.Key k) = answer wKey (k ∷ [])
read_text (ReadAnswer.Refused n x) = answer wRefused (n ∷ [])

-- `ok`, and: slot and id; the cell; the count and the cells; the rows. A refusal prints its number
abbrev pub answer_text : Answer → List ℕ → List ℕ
answer_text Answer.Done l = answer wOk []
answer_text (Answer.Begun slot id) l = answer wOk (slot ∷ id.0 ∷ [])
answer_text (Answer.Wrote cell) l = answer wOk (cell.0 ∷ [])
answer_text (Answer.Vacuumed count live) l = answer wOk (count ∷ l)
answer_text (Answer.Listed count) l = answer wOk l
answer_text (Answer.Refused n x) l = answer wRefused (n ∷ [])

-- the cells of reports
unfoldable pub cells_of : List (List ℕ) → List ℕ
cells_of [] = []
cells_of (r ∷ l) = get_or r 0 0 ∷ cells_of l

abbrev pub reply_text : Reply → List ℕ
reply_text (looked a) = read_text a
reply_text (gave a l) = answer_text a l
reply_text (swept a l) = answer_text a (cells_of l)

-- ---- a record performed

-- the answer line, and the memory after
pub record Performed : Type 0 where
  pub line : List ℕ
  pub after : Mem base

abbrev pub ran_as : Ran base → Performed
ran_as x = record { line = reply_text x.reply; after = x.after }

-- "any other line prints `refused,0`"
abbrev pub perform_call : Option Call → Mem base → Performed
perform_call (some c) m = ran_as (step c m)
perform_call none m = record { line = answer wRefused (0 ∷ []); after = m }

unfoldable pub performed : Rooms → Line → Mem base → Performed
performed z l m = perform_call (call_of z l) m

-- the answer lines of a list of records, one after the other
unfoldable pub replayed : Rooms → List (List ℕ) → Mem base → List ℕ
replayed z [] m = []
replayed z (r ∷ rs) m = let x = performed z (meaning r) m in x.line ++ replayed z rs x.after

-- the memory after them
unfoldable pub memory_after : Rooms → List (List ℕ) → Mem base → Mem base
memory_after z [] m = m
memory_after z (r ∷ rs) m = memory_after z rs (performed z (meaning r) m).after

-- ---- as the code has it between the call and its line: the numbers of a list stand at a buffer's front

abbrev pub count_of : Answer → ℕ
count_of Answer.Done = 0
count_of (Answer.Begun slot id) = 0
count_of (Answer.Wrote cell) = 0
count_of (Answer.Vacuumed count live) = count
count_of (Answer.Listed count) = count
count_of (Answer.Refused n x) = 0

abbrev pub said_text : Said → List ℕ → List ℕ
said_text Said.Other numbers = answer wRefused (0 ∷ [])
said_text (Said.Done a) numbers = answer_text (done a) []
said_text (Said.Begun a) numbers = answer_text (begun a) []
said_text (Said.Wrote a) numbers = answer_text (wrote a) []
said_text (Said.Looked a) numbers = read_text (seen a)
said_text (Said.Swept a) numbers = answer_text (vacuumed a) (take (count_of (vacuumed a)) numbers)
said_text (Said.Listed a) numbers = answer_text (listed a) (take (count_of (listed a)) numbers)
