-- Where 000's visibility and 01's agree, and the smallest examples where they part. 01 looks at no snapshot xmin, holds id 0 for nobody,
-- and does not see an own version that was superseded by a visible one.
use Rattle.std.specs.Prelude.{◌≤◌, ◌≢◌, ◌≡◌}
use Rattle.kinds.specs.declared.Version.{Version}
use Rattle.words.specs.Slots.{Slot}
use Rattle.rules.specs.Reachable.{All}

-- what agreement asks of a snapshot: xmin is at most xmax and at most every active id
pub record LowFirst (t : Slot) : Type 0 where
  pub top : t.low ≤ t.top
  pub active : All (λ x. t.low ≤ x) t.active

-- and of a version: it has a creator, and is no own version that was superseded
pub record Plain (t : Slot) (v : Version) : Type 0 where
  pub created : v.xmin.0 ≢ 0
  pub unsuperseded : v.xmin.0 ≡ t.id → v.xmax.0 ≡ 0
