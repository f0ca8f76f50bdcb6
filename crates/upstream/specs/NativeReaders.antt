-- A reachable store in which 000's vacuum contract speaks of one open reader and not of the other: the store of the run in which the reader
-- (slot 0) has no writes and the writer (slot 1) has prepared one. Vacuum removes a version there, and ours speaks of both.
use Rattle.std.specs.Prelude.{List, [], ◌∷◌, ◌≡◌}
use Rattle.kinds.specs.Answer.{Vacuumed}
use Rattle.kinds.specs.ReadAnswer.{Key}
use Rattle.words.specs.Sizes.{last_id}
use Rattle.rules.specs.Memory.{head_at, slot_at}
use Rattle.rules.specs.Create.{create_out}
use Rattle.rules.specs.Vacuum.{vacuum_out}
use Rattle.rules.specs.Run.{Reply, run}
use Rattle.rules.specs.History.{Log, log_of, made, who_in, rows_in}
use Rattle.upstream.specs.NativeRun.{lent, to_written, written}

abbrev pub replies : List Reply
replies = (run to_written (create_out lent 4 2).after).0

abbrev pub log : Log
log = log_of to_written replies (made 4 2 ∷ [])

pub record Here : Type 0 where
  -- the reader and the writer are open
  pub reader : who_in log 0 ≡ 3
  pub writer : who_in log 1 ≡ 4
  pub rows : rows_in log ≡ 2
  pub unwritten : (slot_at written 0).writes ≡ []
  pub headed : head_at written 0 ≡ 2
  -- a vacuum of row 0 removes the tail
  pub sweeps : (vacuum_out written 0 last_id 1).answer ≡ Vacuumed 1 (Key 70)
