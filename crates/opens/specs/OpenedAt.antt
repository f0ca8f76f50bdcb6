-- The arena with one slot opened, in the terms of the rules' begin.
use Rattle.std.specs.Prelude.{ℕ, ◌+◌, ◌<◌, List, [], ◌≡◌, length, get_or, set, take}
use Rattle.std.proofs.Common.{set-set, get_or-set_same}
use Rattle.words.specs.Sizes.{base, ID}
use Rattle.words.specs.Slots.{opened}
use Rattle.rules.specs.Snapshot.{occupied, snap_low, snap_top}

-- "active = occupied slots in slot order, own included"
unfoldable pub ids_at : List (List ℕ) → ℕ → ℕ → List ℕ
ids_at ss s id = occupied ID (take base.slots (set ss s (set (get_or ss s []) ID id)))

-- the snapshot is taken with the clock one past the id
unfoldable pub opened_at : List (List ℕ) → ℕ → ℕ → List (List ℕ)
opened_at ss s id = set ss s (opened base (get_or ss s []) id (snap_low (id + 1) (ids_at ss s id)) (snap_top (id + 1) (ids_at ss s id)) (ids_at ss s id))

-- the id that was stored before is stored again
opened_again : (t : List ℕ) (x id low top : ℕ) (ids : List ℕ) → opened base (set t ID x) id low top ids ≡ opened base t id low top ids
unfolding opened
opened_again t x id low top ids = rw (set-set t ID x id)

-- the stores of the code, one after the other
pub opened_at_lem : (ss : List (List ℕ)) (s id low top : ℕ) (ids : List ℕ) → s < length ss
    → low ≡ snap_low (id + 1) (ids_at ss s id) → top ≡ snap_top (id + 1) (ids_at ss s id) → ids ≡ ids_at ss s id
    → set (set ss s (set (get_or ss s []) ID id)) s (opened base (get_or (set ss s (set (get_or ss s []) ID id)) s []) id low top ids) ≡ opened_at ss s id
unfolding opened_at
opened_at_lem ss s id low top ids h a b e =
    rw (set-set, get_or-set_same ss s (set (get_or ss s []) ID id) [] h, opened_again (get_or ss s []) id id low top ids, a, b, e)
