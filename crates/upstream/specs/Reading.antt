-- Upstream's clauses on finding and reading a version, of every reachable store and every open reader: `find_visible_row_ptr`,
-- `latest_pending`, `record_read`, `read`. What is a visible version is said by 000's own `visible`.
use Prim.Native.Nat.{ℕ}
use Rattle.std.proofs.Math.Option.{Option, none, some}
use Rattle.std.proofs.Math.Path.{◌≡◌}
use Rattle.kinds.specs.ReadAnswer.{ReadAnswer}
use Rattle.words.specs.Slots.{Write}

-- ---- the own last write
abbrev pub new_of : Option Write → Option ℕ
new_of none = none
new_of (some w) = some w.new

-- ---- an open reader of a reachable store, a row in range
-- an answer that is no refusal
abbrev pub Accepted : ReadAnswer → Type 0
Accepted a = (k x : ℕ) → a ≡ ReadAnswer.Refused k x → ⊥
