-- A lookup refuses exactly when the paper says: "lookup stops at the first trouble in row order, 14 last within a row".
use Rattle.std.specs.Prelude.{ℕ, ◌≡◌, ◌≢◌}
use Rattle.kinds.specs.declared.Version.{Version}

-- the cell that was read is a version with this key
pub record HoldsKey (f : ℕ → Version) (c key : ℕ) : Type 0 where
  pub version : c ≢ 0
  pub keyed : (f c).keyed ≢ 0
  pub same : key ≡ (f c).key
