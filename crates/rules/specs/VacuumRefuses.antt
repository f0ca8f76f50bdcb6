-- A vacuum refuses exactly when the paper says. "vacuum walks, then 14".
use Rattle.std.specs.Prelude.{ℕ, ◌<◌, ◌≢◌, ◌⊎◌}
use mathlib.Core.List.{List, [], ◌∷◌}
use Rattle.std.proofs.Math.Path.{◌≡◌}
use Rattle.kinds.specs.declared.Version.{Version}

-- "reclaimable are the versions after the head with xmax nonzero, below the horizon, unlocked"
pub record Reclaimable (hz : ℕ) (v : Version) : Type 0 where
  pub superseded : v.xmax.0 ≢ 0
  pub below : v.xmax.0 < hz
  pub free : v.locked ≡ 0

-- d is the members of l that have the property, in the order of l
abbrev pub Picks : {A : Type 0} → (A → Type 0) → List A → List A → Type 0
Picks P [] d = d ≡ []
Picks {A} P (a ∷ l) d = (P a × ((e : List A) × (d ≡ a ∷ e) × Picks P l e)) ⊎ ((P a → ⊥) × Picks P l d)
