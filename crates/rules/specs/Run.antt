-- A sequence of calls, each lent the same memory. A buffer is given by its length: what is written stands in the reply.
use Rattle.std.specs.Prelude.{ℕ, List, [], ◌∷◌}
use Rattle.std.proofs.Math.Option.{Option}
use Rattle.kinds.specs.ReadAnswer.{ReadAnswer}
use Rattle.kinds.specs.Answer.{Answer}
use Rattle.words.specs.Sizes.{Sizes}
use Rattle.rules.specs.Memory.{Mem}
use Rattle.rules.specs.Numbers.{read_number, number_of}
use Rattle.rules.specs.Outcome.{Outcome}
use Rattle.rules.specs.Create.{create_out}
use Rattle.rules.specs.Begin.{begin_out}
use Rattle.rules.specs.Read.{read_out}
use Rattle.rules.specs.Write.{write_out}
use Rattle.rules.specs.Commit.{commit_out}
use Rattle.rules.specs.Abort.{abort_out}
use Rattle.rules.specs.Vacuum.{vacuum_out}
use Rattle.rules.specs.Lookup.{lookup_out, lookup_all_out}

pub data Call : Type 0 where
  -- N, R
  create : ℕ → ℕ → Call
  begin : Call
  -- slot, id, row
  read : ℕ → ℕ → ℕ → Call
  -- slot, id, row, a key or none
  write : ℕ → ℕ → ℕ → Option ℕ → Call
  -- slot, id
  commit abort : ℕ → ℕ → Call
  -- row, request, entries of the report buffer
  vacuum : ℕ → ℕ → ℕ → Call
  -- slot, id, key, candidates, entries of the result buffer
  lookup : ℕ → ℕ → ℕ → List ℕ → ℕ → Call
  -- slot, id, key, entries of the result buffer
  lookup_all : ℕ → ℕ → ℕ → ℕ → Call

-- the answer, and what stands at the front of the buffer: rows, or reports
pub data Reply : Type 0 where
  looked : ReadAnswer → Reply
  gave : Answer → List ℕ → Reply
  swept : Answer → List (List ℕ) → Reply

-- 01's number of a reply: 0 where it is no refusal
abbrev pub reply_number : Reply → ℕ
reply_number (looked a) = read_number a
reply_number (gave a l) = number_of a
reply_number (swept a l) = number_of a

-- one call: its reply, and the memory after it
pub record Ran (z : Sizes) : Type 0 where
  pub reply : Reply
  pub after : Mem z

module _ {z : Sizes} where
  abbrev of_read : Outcome z ReadAnswer ℕ → Ran z
  of_read o = record { reply = looked o.answer; after = o.after }

  abbrev of_call : Outcome z Answer ℕ → Ran z
  of_call o = record { reply = gave o.answer o.front; after = o.after }

  abbrev of_vacuum : Outcome z Answer (List ℕ) → Ran z
  of_vacuum o = record { reply = swept o.answer o.front; after = o.after }

  unfoldable pub step : Call → Mem z → Ran z
  step (create n r) m = of_call (create_out m n r)
  step begin m = of_call (begin_out m)
  step (read s id row) m = of_read (read_out m s id row)
  step (write s id row v) m = of_call (write_out m s id row v)
  step (commit s id) m = of_call (commit_out m s id)
  step (abort s id) m = of_call (abort_out m s id)
  step (vacuum row request room) m = of_vacuum (vacuum_out m row request room)
  step (lookup s id key cands room) m = of_call (lookup_out m s id key cands room)
  step (lookup_all s id key room) m = of_call (lookup_all_out m s id key room)

  -- the replies, and the memory after all
  unfoldable pub run : List Call → Mem z → List Reply × Mem z
  run [] m = ([], m)
  run (c ∷ cs) m = let x = step c m in let y = run cs x.after in (x.reply ∷ y.0, y.1)
