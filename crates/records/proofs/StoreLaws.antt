-- The records of a store's slots say what the slots' words say: a host that copies id and snapshot xmin out of them takes the horizon that
-- the store's own vacuum takes.
use Rattle.std.specs.Prelude.{ℕ, Bool, true, false, List, [], ◌∷◌, map, ◌≡◌, refl, eqb, get_or, take}
use Rattle.words.specs.Lists.{keep}
use Rattle.words.specs.Sizes.{Sizes, ID, LOW}
use Rattle.rules.specs.Memory.{Mem, clock}
use Rattle.rules.specs.Snapshot as store
use Rattle.records.specs.declared.Slot.{Slot}
use Rattle.records.specs.Horizon.{occupied, horizon_of, least_active}
use Rattle.records.specs.StoreLaws.{record_of}

-- the same slots are occupied
same_occupied : (k : ℕ) (own : Slot → ℕ) (slots : List (List ℕ)) → ((t : List ℕ) → own (record_of t) ≡ get_or t k 0) → map own (occupied (map record_of slots)) ≡ store.occupied k slots
unfolding keep store.occupied
same_occupied k own [] e = refl
same_occupied k own (t ∷ l) e = by_test (same_occupied k own l e) (eqb (get_or t ID 0) 0) refl
  where
    by_test : map own (occupied (map record_of l)) ≡ store.occupied k l → (b : Bool) → eqb (get_or t ID 0) 0 ≡ b → map own (occupied (map record_of (t ∷ l))) ≡ store.occupied k (t ∷ l)
    by_test rest true q = rw q rest
    by_test rest false q = rw (q, e t, rest)

-- the horizon that a host takes of the records is the one that the store's vacuum takes of the words
pub horizon_of_store : (slots : List (List ℕ)) (clock request : ℕ) → horizon_of (map record_of slots) clock request ≡ store.horizon_of request clock slots
unfolding horizon_of store.horizon_of
horizon_of_store slots clock request = rw (same_occupied LOW (λ s. s.xmin) slots (λ t. refl))

-- the same of a whole store
pub horizon_of_memory : {z : Sizes} (m : Mem z) (request : ℕ) → horizon_of (map record_of (take z.slots m.slots)) (clock m) request ≡ store.horizon m request
horizon_of_memory {z} m request = horizon_of_store (take z.slots m.slots) (clock m) request

-- and the least active id is the xmin that a snapshot gets
pub least_active_of_store : (slots : List (List ℕ)) (clock : ℕ) → least_active (map record_of slots) clock ≡ store.snap_low clock (store.occupied ID slots)
unfolding least_active
least_active_of_store slots clock = rw (same_occupied ID (λ s. s.id) slots (λ t. refl))
