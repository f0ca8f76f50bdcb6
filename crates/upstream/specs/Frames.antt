-- What upstream's lifecycle and initialization clauses say stays: other slots, and the versions that a reader may look at.
use Rattle.std.specs.Prelude.{ℕ, ◌<◌, true, ◌≢◌, ◌≡◌}
use Rattle.std.proofs.Math.Option.{Option}
use Rattle.words.specs.Sizes.{Sizes}
use Rattle.kinds.specs.Versions.{new_version, put_cell}
use Rattle.rules.specs.Memory.{Mem, size_r, with_cells}
use Rattle.rules.specs.Reachable.{chain_at, free_at, times}
use Rattle.upstream.specs.Images.{ImageValid, image_of, stored, Points}

-- ---- `initialize_row`
-- `fresh_cell` is 01's new version with free link 0, `stored` a cell put with its version and link; `initialized` is both
abbrev pub initialized : {z : Sizes} → Mem z → ℕ → Option ℕ → ℕ → ℕ → Mem z
initialized m p v x next = with_cells m (put_cell m.cells p (new_version v x next) 0)

-- `permitted`: a cell may be initialized with this next. `exclusive` is read as free, `protected` as in a chain
pub record Permitted {z : Sizes} (m : Mem z) (p next : ℕ) : Type 0 where
  pub image : ImageValid (image_of m)
  pub cell : stored (image_of m) p ≡ true
  pub exclusive : times p (free_at m).cells ≢ 0
  pub unprotected : (row : ℕ) → row < size_r m → times p (chain_at m row).cells ≡ 0
  pub points : Points (image_of m) next
