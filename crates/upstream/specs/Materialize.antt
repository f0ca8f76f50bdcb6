-- Upstream's clauses on `materialize` and `materialize_after_checked_history`, of every reachable store and every open reader: the lookup
-- over candidates, and the lookup over all rows. The predicate is equality with a key, 000's own `EqualsKey`.
use Prim.Native.Nat.{ℕ}
use Rattle.std.specs.Prelude.{◌≡◌}
use Rattle.kinds.specs.Answer.{Answer}

-- an answer that is no refusal
abbrev pub Granted : Answer → Type 0
Granted a = (k x : ℕ) → a ≡ Answer.Refused k x → ⊥
