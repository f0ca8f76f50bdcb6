-- "candidates (any order, repeats allowed) and own written rows are read in ascending order, each once": which rows a lookup reads.
use Rattle.std.specs.Prelude.{ℕ, zero, suc, ◌+◌, ◌≤◌, ◌<◌, ◌||◌, List, [], ◌∷◌, ◌≢◌, ◌↔◌, ◌⊎◌}
use Rattle.std.proofs.Common.{inl, inr, ⊎_elim, arith}
use Rattle.words.specs.Sizes.{Sizes}
use Rattle.words.specs.Lists.{has, from}
use Rattle.rules.proofs.Theory.Cases.{by_eq}
use Rattle.words.specs.Slots.{Write}
use Rattle.rules.specs.Memory.{Mem, size_r}
use Rattle.rules.specs.Lookup.{own_rows, rows_to_read}
use Rattle.rules.specs.Exactly.{In}
use Rattle.rules.proofs.Exactly.{is_in, is_either}
use Rattle.rules.specs.VacuumRefuses.{Picks}
use Rattle.rules.proofs.VacuumRefuses.{keep_picks}
use Rattle.rules.proofs.Members.{all_in, in_all, picks_in}
use Rattle.rules.specs.LookupRows.{Ascending}

from_in : (k a x : ℕ) → In x (from a k) ↔ ((a ≤ x) × (x < a + k))
unfolding from
from_in zero a x = (λ i. absurd i, λ b. absurd (omega (arith, b.0, b.1)))
from_in (suc k) a x = (
  ⊎_elim (λ e. (omega (arith, e), omega (arith, e))) (λ i. let r = (from_in k (suc a) x).0 i in (omega (arith, r.0), omega (arith, r.1))),
  λ b. by_eq x a (λ e. inl e) (λ n. inr ((from_in k (suc a) x).1 (above n b.0, omega (arith, b.1)))),
)
  where
    above : x ≢ a → a ≤ x → suc a ≤ x
    above n h = omega (arith, n)

from_ascending : (k a : ℕ) → Ascending (from a k)
unfolding from
from_ascending zero a = tt
from_ascending (suc k) a = (in_all (λ y. a < y) (from (suc a) k) (λ y i. omega (arith, ((from_in k (suc a) y).0 i).0)), from_ascending k (suc a))

pub picks_ascending : (P : ℕ → Type 0) (l d : List ℕ) → Picks P l d → Ascending l → Ascending d
picks_ascending P [] d q a = rw q tt
picks_ascending P (x ∷ l) d (inl q) a = rw q.1.1 (in_all (λ y. x < y) q.1.0 (λ y i. all_in (λ y. x < y) l a.0 y ((picks_in P l q.1.0 q.1.2 y).0 i).0), picks_ascending P l q.1.0 q.1.2 a.1)
picks_ascending P (x ∷ l) d (inr q) a = picks_ascending P l d q.1 a.1

module _ {z : Sizes} (m : Mem z) (ws : List Write) (cands : List ℕ) where
  picked : Picks (λ r. In r cands ⊎ In r (own_rows ws)) (from 0 (size_r m)) (rows_to_read m ws cands)
  unfolding rows_to_read
  picked = keep_picks (λ r. has r cands || has r (own_rows ws)) (λ r. In r cands ⊎ In r (own_rows ws)) (λ r. is_either _ _ (is_in r cands) (is_in r (own_rows ws))) (from 0 (size_r m))

  -- a row is read exactly when it is below R and a candidate or an own row
  pub rows_read_are_exactly_candidates_and_own : (r : ℕ) → In r (rows_to_read m ws cands) ↔ ((r < size_r m) × (In r cands ⊎ In r (own_rows ws)))
  rows_read_are_exactly_candidates_and_own r =
      let p = picks_in (λ r. In r cands ⊎ In r (own_rows ws)) (from 0 (size_r m)) (rows_to_read m ws cands) picked r in
      let f = from_in (size_r m) 0 r in
      (λ i. let q = p.0 i in (omega (arith, (f.0 q.0).1), q.1), λ i. p.1 (f.1 (omega arith, omega (arith, i.0)), i.1))

  pub rows_are_read_in_ascending_order : Ascending (rows_to_read m ws cands)
  rows_are_read_in_ascending_order = picks_ascending (λ r. In r cands ⊎ In r (own_rows ws)) (from 0 (size_r m)) (rows_to_read m ws cands) picked (from_ascending (size_r m) 0)

-- "A second call serves all rows"
pub all_rows_are_read : {z : Sizes} (m : Mem z) → ((r : ℕ) → In r (from 0 (size_r m)) ↔ (r < size_r m)) × Ascending (from 0 (size_r m))
all_rows_are_read m = (λ r. let f = from_in (size_r m) 0 r in (λ i. omega (arith, (f.0 i).1), λ b. f.1 (omega arith, omega arith)), from_ascending (size_r m) 0)
