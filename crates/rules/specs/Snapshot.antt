-- The snapshot rule of Begin, and the horizon.
use Rattle.std.specs.Prelude.{ℕ, suc, min, max, cond, List, [], ◌∷◌, take, get_or, eqb}
use Rattle.words.specs.Sizes.{Sizes, last_id, ID, LOW}
use Rattle.words.specs.Lists.{least, greatest}
use Rattle.rules.specs.Memory.{Mem, clock}

-- word k of the occupied slots, in slot order: "occupied" is an id other than 0
unfoldable pub occupied : ℕ → List (List ℕ) → List ℕ
occupied k [] = []
occupied k (t ∷ l) = cond (eqb (get_or t ID 0) 0) (occupied k l) (get_or t k 0 ∷ occupied k l)

-- "lowest empty slot": how many occupied ones come before it
unfoldable pub vacant : List (List ℕ) → ℕ
vacant [] = 0
vacant (t ∷ l) = cond (eqb (get_or t ID 0) 0) 0 (suc (vacant l))

-- "xmin = smallest"; "No active slot: xmin = xmax". 000, `snapshot_locked`: never above the clock
abbrev pub snap_low : ℕ → List ℕ → ℕ
snap_low now ids = least now ids

-- "xmax = clock"; "at least greatest active + 1, saturating"
abbrev pub snap_top : ℕ → List ℕ → ℕ
snap_top now [] = now
snap_top now (x ∷ l) = max now (min (suc (greatest (x ∷ l))) last_id)

-- "Horizon: least of the request, the clock and the snapshot xmin of all occupied slots"
unfoldable pub horizon_of : ℕ → ℕ → List (List ℕ) → ℕ
horizon_of request now slots = least (min request now) (occupied LOW slots)

abbrev pub horizon : {z : Sizes} → Mem z → ℕ → ℕ
horizon {z} m request = horizon_of request (clock m) (take z.slots m.slots)
