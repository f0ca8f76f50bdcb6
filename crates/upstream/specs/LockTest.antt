-- The lock test in the body of upstream's `read`, which no clause promises: it fails where the version found is locked by another id. 01's
-- read has no such test. The two agree exactly where the version is not so locked; in a reachable store a locked version is its row's head,
-- the base of an open write (`rules`, Demand3.antt, nothing_else_is_locked and base_is_head_and_locked).
use Rattle.std.specs.Prelude.{ℕ, cond}
use Rattle.std.proofs.Math.Option.{Option, none, some}
use Rattle.kinds.specs.Versions.{locked_by_other}
use Rattle.words.specs.Slots.{Slot}
use Rattle.upstream.specs.Images.{Image}
use Rattle.upstream.specs.Transactions.{value_of}

-- what the body answers for the version found, where the row has no own write: none is its error
abbrev pub body_read : Image → Slot → Option ℕ → Option (Option (Option ℕ))
body_read s t none = some none
body_read s t (some c) = cond (locked_by_other (s.rows c) t.id) none (some (some (value_of (s.rows c))))
