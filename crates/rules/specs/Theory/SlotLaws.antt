-- What is read back from a slot after each store. All of it rests on one fact: two word lists that agree where a list lies decode alike.
use mathlib.Core.List.{List, ◌++◌, ◌∷◌, []}
use Rattle.std.specs.Prelude.{◌≡◌, ℕ, ◌≤◌, ◌<◌, ◌+◌, length}
use Rattle.std.proofs.Math.ListN.{get_or}
use Rattle.words.specs.Sizes.{Sizes, used, ACTIVE, WRITES, READS}
use Rattle.words.specs.Slots.{Slot, Write, Rec}

-- ---- lists of words and of triples
-- u agrees with t from a on, k words
abbrev pub Agree : List ℕ → List ℕ → ℕ → ℕ → Type 0
Agree u t a k = (i : ℕ) → a ≤ i → i < a + k → get_or u i 0 ≡ get_or t i 0

-- ---- the slot as a whole
-- a slot's words: as many as there must be, each count within its limit
pub record SlotOk (z : Sizes) (t : List ℕ) : Type 0 where
  pub long : used z ≤ length t
  pub actives : get_or t ACTIVE 0 ≤ z.slots
  pub writes : get_or t (WRITES z) 0 ≤ z.writes
  pub reads : get_or t (READS z) 0 ≤ z.reads

abbrev pub with_write : Slot → Write → Slot
with_write s w = record { id = s.id; low = s.low; top = s.top; active = s.active; writes = s.writes ++ (w ∷ []); recs = s.recs }

abbrev pub put_recs : Slot → List Rec → Slot
put_recs s l = record { id = s.id; low = s.low; top = s.top; active = s.active; writes = s.writes; recs = l }

abbrev pub with_recs : Slot → List Rec → Slot
with_recs s l = put_recs s (s.recs ++ l)

abbrev pub new_slot : ℕ → ℕ → ℕ → List ℕ → Slot
new_slot id low top active = record { id = id; low = low; top = top; active = active; writes = []; recs = [] }
