-- The occupied slots of an arena: the lowest empty one, and the snapshot's xmax.
use Rattle.std.specs.Prelude.{ℕ, suc, ◌<◌, min, max, cond, Option, Some, None, List, [], ◌∷◌, ◌≡◌, refl, length, get_or, eqb}
use Rattle.std.proofs.Common.{ap, sym, arith, eqb-true}
use Rattle.std.proofs.lemmas.Bool.{eqb-false}
use Rattle.words.specs.Sizes.{ID, last_id}
use Rattle.words.specs.Lists.{greatest}
use Rattle.rules.specs.Snapshot.{occupied, vacant, snap_top}
use Rattle.rules.proofs.Theory.Cases.{by_bool}

-- "lowest empty slot": the occupied ones before it are `vacant`; where every slot is occupied, there is none
abbrev pub IsLowestEmpty : List (List ℕ) → Option ℕ → Type 0
IsLowestEmpty ss (Some i) = (i ≡ vacant ss) × (i < length ss)
IsLowestEmpty ss None = vacant ss ≡ length ss

-- ---- xmax

-- past the greatest active id, saturating; where there is none, the clock
abbrev pub top_over : ℕ → ℕ → ℕ
top_over top now = cond (eqb top 0) now (max now (min (suc top) last_id))

-- an occupied slot's id is not 0
occupied_zero : (l : List (List ℕ)) → greatest (occupied ID l) ≡ 0 → occupied ID l ≡ []
unfolding occupied greatest
occupied_zero [] h = refl
occupied_zero (t ∷ l) h = by_bool (eqb (get_or t ID 0) 0)
    (λ e. rw e (occupied_zero l (rw e at h)))
    (λ e. absurd (let g = rw e at h in eqb-false (get_or t ID 0) 0 e (omega (arith, g))))

pub top_low : (top now : ℕ) → top < now → top_over top now ≡ now
top_low top now h = by_bool (eqb top 0) (λ e. rw e) (λ e. rw e (omega arith))

-- one slot: an empty one has id 0
pub greatest_one : (t : List ℕ) → greatest (occupied ID (t ∷ [])) ≡ get_or t ID 0
unfolding greatest occupied
greatest_one t = by_bool (eqb (get_or t ID 0) 0) (λ e. rw e (sym (eqb-true (get_or t ID 0) 0 e))) (λ e. rw e (omega arith))

pub snap_top_lem : (now : ℕ) (l : List (List ℕ)) → top_over (greatest (occupied ID l)) now ≡ snap_top now (occupied ID l)
unfolding greatest
snap_top_lem now l = of (occupied ID l) (occupied_zero l)
  where
    of : (ids : List ℕ) → (greatest ids ≡ 0 → ids ≡ []) → top_over (greatest ids) now ≡ snap_top now ids
    of [] f = refl
    of (x ∷ l) f = by_bool (eqb (greatest (x ∷ l)) 0)
        (λ e. absurd (let z : length (x ∷ l) ≡ 0 = ap length (f (eqb-true _ _ e)) in omega arith))
        (λ e. rw e)
