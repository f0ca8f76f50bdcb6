-- 000's horizon: `compute_global_xmin`, `min_horizon`, and what `public_vacuum_reclaim_once` and `run_vacuum_pass` pass on. Gap 3: an
-- equality, where 000 promises an upper bound.
use Rattle.std.specs.Prelude.{ℕ, min}

-- `min_horizon`
abbrev pub min_horizon : ℕ → ℕ → ℕ
min_horizon requested retained = min requested retained
