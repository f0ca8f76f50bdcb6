-- Sizes of the replay program, named once.
use Rattle.std.specs.Prelude.{ℕ, suc, ◌+◌, ◌<◌, ◌≤◌}
use Rattle.std.proofs.Common.{arith}
use Rattle.lines.specs.Longest.{longest}
use Rattle.answers.specs.Answers.{room}
use Rattle.player.specs.declared.TheConstants.{RECORD, CELLS, LARGE}

-- cells of the lent store: as many reports has a vacuum at most, and as many numbers has an answer after its first two
abbrev pub lent_cells : ℕ
lent_cells = 512

abbrev pub lent_rows : ℕ
lent_rows = 64

-- bytes that the longest answer may take
abbrev pub longest_answer : ℕ
longest_answer = room (2 + lent_cells)

-- bytes of a large buffer: so much is read at once, and so much is written
abbrev pub large_buffer : ℕ
large_buffer = 65536

-- the lent buffers are long enough: a record that is too long is known by its front, every report is listed, every answer has room
pub record Lent (front reports numbers out : ℕ) : Type 0 where
  pub record_kept : suc longest < front
  pub all_listed : reports ≤ numbers
  pub few : numbers ≤ lent_cells
  pub room_for_one : longest_answer ≤ out

-- and those of a run are
pub desk_is_lent : Lent RECORD CELLS CELLS LARGE
desk_is_lent = record { record_kept = omega arith; all_listed = omega arith; few = omega arith; room_for_one = omega arith }
