-- 000's horizon: `compute_global_xmin`, `min_horizon`, and what `public_vacuum_reclaim_once` and `run_vacuum_pass` pass on. Gap 3: an
-- equality, where 000 promises an upper bound.
use Rattle.std.specs.Prelude.{ℕ, min, ◌<◌, ◌≤◌, List, [], ◌∷◌, ◌≡◌, refl, ◌≢◌, length, take, get_or}
use Rattle.std.proofs.Common.{sym, arith}
use Rattle.words.specs.Sizes.{Sizes, ID, LOW}
use Rattle.words.specs.Lists.{least}
use Rattle.rules.specs.Memory.{Mem, clock}
use Rattle.rules.specs.Snapshot.{occupied, horizon_of, horizon}
use Rattle.rules.proofs.Horizon.{least_at_most, least_at_most_each, occupied_exactly}
use Rattle.upstream.specs.LifecycleTerms.{minimum_retention}
use Rattle.upstream.proofs.Lifecycle.{minimum_retention_is_least}
use Rattle.upstream.specs.Horizons.{min_horizon}

pub min_horizon_is_at_most_both : (a b : ℕ) → (min_horizon a b ≤ a) × (min_horizon a b ≤ b)
min_horizon_is_at_most_both a b = (omega arith, omega arith)

pub min_horizon_is_one : (a b : ℕ) → (a < b → min_horizon a b ≡ a) × (b ≤ a → min_horizon a b ≡ b)
min_horizon_is_one a b = ((λ h. omega arith), (λ h. omega arith))

least_of_two : (a b : ℕ) (l : List ℕ) → least (min a b) l ≡ min a (least b l)
unfolding least
least_of_two a b [] = refl
least_of_two a b (x ∷ l) = let e = least_of_two a b l in omega arith

module _ {z : Sizes} (m : Mem z) where
  -- `compute_global_xmin`: the least of the clock and the snapshot xmin of the occupied slots
  abbrev pub global_xmin : ℕ
  global_xmin = least (clock m) (occupied LOW (take z.slots m.slots))

  -- .7: at most the snapshot xmin of every occupied slot
  pub compute_global_xmin_is_at_most_each : (s : ℕ) → s < length (take z.slots m.slots) → get_or (get_or (take z.slots m.slots) s []) ID 0 ≢ 0 → global_xmin ≤ get_or (get_or (take z.slots m.slots) s []) LOW 0
  compute_global_xmin_is_at_most_each s b n = least_at_most_each (clock m) (occupied LOW (take z.slots m.slots)) _ ((occupied_exactly LOW (take z.slots m.slots) _).1 (record { slot = s; inside = b; taken = n; word = refl }))

  -- .6: it is `minimum_retention` over all slots, with the clock itself as ceiling
  pub compute_global_xmin_is_minimum_retention : z.slots ≤ length m.slots → global_xmin ≡ minimum_retention m.slots z.slots (clock m)
  compute_global_xmin_is_minimum_retention enough = sym (minimum_retention_is_least m.slots z.slots (clock m) enough)

  -- what a vacuum works with is `min_horizon` of its request and that: an equality, of every memory and every request
  pub vacuum_works_with_min_horizon : (request : ℕ) → horizon m request ≡ min_horizon request global_xmin
  unfolding horizon_of
  vacuum_works_with_min_horizon request = least_of_two request (clock m) (occupied LOW (take z.slots m.slots))

  -- 000 gives its row vacuum a horizon; here any horizon at or below the global xmin is had by requesting it
  pub any_lower_horizon_can_be_requested : (g : ℕ) → g ≤ global_xmin → horizon m g ≡ g
  any_lower_horizon_can_be_requested g b = omega (arith, vacuum_works_with_min_horizon g)

  -- public_vacuum_reclaim_once.4 and .5, run_vacuum_pass.4
  pub public_vacuum_horizon_is_at_most_the_request : (request : ℕ) → horizon m request ≤ request
  public_vacuum_horizon_is_at_most_the_request request = omega (arith, vacuum_works_with_min_horizon request)

  pub public_vacuum_horizon_is_at_most_each : (request s : ℕ) → s < length (take z.slots m.slots) → get_or (get_or (take z.slots m.slots) s []) ID 0 ≢ 0 → horizon m request ≤ get_or (get_or (take z.slots m.slots) s []) LOW 0
  public_vacuum_horizon_is_at_most_each request s b n = omega (arith, vacuum_works_with_min_horizon request, compute_global_xmin_is_at_most_each s b n)

  -- a request that is no bound gives the global xmin itself: `run_vacuum_pass`, which has no request
  pub run_vacuum_pass_works_with_the_global_xmin : (request : ℕ) → clock m ≤ request → horizon m request ≡ global_xmin
  run_vacuum_pass_works_with_the_global_xmin request b = omega (arith, vacuum_works_with_min_horizon request, least_at_most (clock m) (occupied LOW (take z.slots m.slots)))

-- 0 meets 000's bounds and is not the horizon: request 5, clock 9, one slot with snapshot xmin 7
pub zero_would_do_upstream : (horizon_of 5 9 ((3 ∷ 7 ∷ []) ∷ []) ≡ 5) × (0 ≤ 5) × (0 ≤ 7)
unfolding horizon_of occupied least
zero_would_do_upstream = (refl, omega arith, omega arith)
