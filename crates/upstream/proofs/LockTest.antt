-- The lock test in the body of upstream's `read`, which no clause promises: it fails where the version found is locked by another id. 01's
-- read has no such test. The two agree exactly where the version is not so locked; in a reachable store a locked version is its row's head,
-- the base of an open write (`rules`, Demand3.antt, nothing_else_is_locked and base_is_head_and_locked).
use Rattle.std.specs.Prelude.{ℕ, true, false, ◌↔◌, ◌≡◌}
use Rattle.std.proofs.Math.Option.{none, some}
use Rattle.std.proofs.Common.{arith}
use Rattle.kinds.specs.Versions.{locked_by_other}
use Rattle.words.specs.Slots.{Slot}
use Rattle.rules.proofs.Theory.Cases.{by_bool}
use Rattle.upstream.specs.Images.{Image}
use Rattle.upstream.specs.Transactions.{value_at, value_of}
use Rattle.upstream.specs.LockTest.{body_read}

pub read_body_agrees_where_unlocked : (s : Image) (t : Slot) (c : ℕ) → locked_by_other (s.rows c) t.id ≡ false → body_read s t (some c) ≡ some (value_at s (some c))
read_body_agrees_where_unlocked s t c e = rw e

pub read_body_fails_exactly_where_locked : (s : Image) (t : Slot) (c : ℕ) → (body_read s t (some c) ≡ none) ↔ (locked_by_other (s.rows c) t.id ≡ true)
read_body_fails_exactly_where_locked s t c = (
  λ e. by_bool (locked_by_other (s.rows c) t.id) (λ q. q) (λ q. let h : some (some (value_of (s.rows c))) ≡ none = rw q at e in let y : ◌≡◌ {A = ℕ} 0 1 = cc in absurd (omega arith)),
  λ q. rw q,
)
