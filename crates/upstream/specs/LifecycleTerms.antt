-- What 000 says of slots and clock, over the words of the slots: `active`, `minimum_active`, `maximum_active`, `minimum_retention`,
-- `coherent_snapshot`, `well_formed`. 000 counts over the first n slots, from the last one down.
use Rattle.std.specs.Prelude.{ℕ, zero, suc, ◌<◌, ◌≤◌, cond, List, [], ◌∷◌, ◌++◌, ◌≢◌, ◌≡◌, eqb, ltb, get_or, length}
use Rattle.words.specs.Sizes.{Sizes, last_id, ID, LOW}
use Rattle.rules.specs.Memory.{Mem, clock, slot_at}

-- the id and the snapshot xmin of slot i
abbrev pub id_of : List (List ℕ) → ℕ → ℕ
id_of ss i = get_or (get_or ss i []) ID 0

abbrev pub low_of : List (List ℕ) → ℕ → ℕ
low_of ss i = get_or (get_or ss i []) LOW 0

-- an empty slot leaves what is there; another lowers, or raises it
abbrev pub lowered : ℕ → ℕ → ℕ → ℕ
lowered id x least = cond (eqb id 0) least (cond (ltb x least) x least)

abbrev pub raised : ℕ → ℕ → ℕ
raised id most = cond (ltb most id) id most

-- `active`: the ids of the occupied slots among the first n, in slot order
unfoldable pub active : List (List ℕ) → ℕ → List ℕ
active ss zero = []
active ss (suc n) = cond (eqb (id_of ss n) 0) (active ss n) (active ss n ++ id_of ss n ∷ [])

-- `minimum_active`: the least of a ceiling and these ids
unfoldable pub minimum_active : List (List ℕ) → ℕ → ℕ → ℕ
minimum_active ss zero c = c
minimum_active ss (suc n) c = lowered (id_of ss n) (id_of ss n) (minimum_active ss n c)

-- `maximum_active`: the greatest id, 0 for none
unfoldable pub maximum_active : List (List ℕ) → ℕ → ℕ
maximum_active ss zero = 0
maximum_active ss (suc n) = raised (id_of ss n) (maximum_active ss n)

-- `minimum_retention`: the least of a ceiling and the snapshot xmin of the occupied slots
unfoldable pub minimum_retention : List (List ℕ) → ℕ → ℕ → ℕ
minimum_retention ss zero c = c
minimum_retention ss (suc n) c = lowered (id_of ss n) (low_of ss n) (minimum_retention ss n c)

-- the xmax of `coherent_snapshot`, over unbounded numbers: the greater of the clock and the greatest active id + 1
abbrev pub top_of : ℕ → ℕ → ℕ
top_of now most = cond (ltb (suc most) now) now (suc most)

-- `coherent_snapshot`: a snapshot is the one of these n slots and this clock. Its saved count is the number of its active ids: a slot's
-- count word stands for the list (`rules`, Slots.antt)
pub record Coherent (ss : List (List ℕ)) (n now low top : ℕ) (ids : List ℕ) : Type 0 where
  pub active_is : ids ≡ active ss n
  pub xmax_is : top ≡ top_of now (maximum_active ss n)
  pub xmin_is : low ≡ minimum_active ss n now

-- `well_formed`, but for what 01 replaces (reservations, the sampled clock): the slots are there, the clock runs, an empty slot has xmin 0,
-- an occupied one 0 < xmin ≤ id < clock, and no id is in two slots
pub record WellFormed {z : Sizes} (m : Mem z) : Type 0 where
  pub count : z.slots ≤ length m.slots
  pub runs : 0 < clock m
  pub empty : (s : ℕ) → s < z.slots → (slot_at m s).id ≡ 0 → (slot_at m s).low ≡ 0
  pub some_low : (s : ℕ) → s < z.slots → (slot_at m s).id ≢ 0 → 0 < (slot_at m s).low
  pub low_first : (s : ℕ) → s < z.slots → (slot_at m s).id ≢ 0 → (slot_at m s).low ≤ (slot_at m s).id
  pub drawn : (s : ℕ) → s < z.slots → (slot_at m s).id ≢ 0 → (slot_at m s).id < clock m
  pub apart : (i j : ℕ) → i < z.slots → j < z.slots → i ≢ j → (slot_at m i).id ≢ 0 → (slot_at m i).id ≢ (slot_at m j).id

-- `observation`: the clock was looked at, it has not gone back, and the slots are as they were
pub record Observation {z : Sizes} (before after : Mem z) : Type 0 where
  pub slots : after.slots ≡ before.slots
  pub clock_on : clock before ≤ clock after
  pub runs : 0 < clock after

-- `reservation`, of the clock: the id is at least the clock before, below 2^64 - 1, and the clock after is one more
pub record Reservation {z : Sizes} (before after : Mem z) (id : ℕ) : Type 0 where
  pub drawn : clock before ≤ id
  pub last : id < last_id
  pub next : clock after ≡ suc id
