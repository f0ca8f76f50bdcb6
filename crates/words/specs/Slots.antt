-- A slot: what its words say, and the stores that change them.
use Rattle.std.specs.Prelude.{ℕ, zero, suc, ◌+◌, ◌*◌, min, List, [], ◌∷◌, length, get_or, set, replicate}
use Rattle.std.proofs.lemmas.List.Edits.{sets}
use Rattle.words.specs.Sizes.{Sizes, ID, LOW, TOP, ACTIVE, WRITES, READS}
use Rattle.words.specs.Lists.{fold}

-- an entry of the write set
pub record Write : Type 0 where
  pub row : ℕ
  pub base : ℕ
  pub new : ℕ

-- a read record
pub record Rec : Type 0 where
  pub row : ℕ
  pub cell : ℕ
  pub xmin : ℕ

abbrev pub write : ℕ → ℕ → ℕ → Write
write r b n = record { row = r; base = b; new = n }

abbrev pub rec : ℕ → ℕ → ℕ → Rec
rec r c x = record { row = r; cell = c; xmin = x }

-- id 0 is an empty slot; low and top are the snapshot's xmin and xmax
pub record Slot : Type 0 where
  pub id : ℕ
  pub low : ℕ
  pub top : ℕ
  pub active : List ℕ
  pub writes : List Write
  pub recs : List Rec

-- ---- what the words say

-- k words from index a on; k triples of words from index a on
unfoldable pub words : List ℕ → ℕ → ℕ → List ℕ
words t a zero = []
words t a (suc k) = get_or t a 0 ∷ words t (a + 1) k

unfoldable pub threes : {A : Type 0} → (ℕ → ℕ → ℕ → A) → List ℕ → ℕ → ℕ → List A
threes f t a zero = []
threes f t a (suc k) = f (get_or t a 0) (get_or t (a + 1) 0) (get_or t (a + 2) 0) ∷ threes f t (a + 3) k

-- A count above its limit reads as the limit, so that every slot says something. No call looks: it refuses such a slot with 15.
abbrev pub capped : List ℕ → ℕ → ℕ → ℕ
capped t a most = min (get_or t a 0) most

unfoldable pub slot_of : Sizes → List ℕ → Slot
slot_of z t =
    record {
      id = get_or t ID 0;
      low = get_or t LOW 0;
      top = get_or t TOP 0;
      active = words t (ACTIVE + 1) (capped t ACTIVE z.slots);
      writes = threes write t (WRITES z + 1) (capped t (WRITES z) z.writes);
      recs = threes rec t (READS z + 1) (capped t (READS z) z.reads);
    }

-- ---- the stores

-- one triple more in the list whose count stands at `a`
unfoldable pub push : ℕ → ℕ → ℕ → ℕ → List ℕ → List ℕ
push a x y v t =
    let e = a + 1 + 3 * get_or t a 0 in
    set (set (set (set t e x) (e + 1) y) (e + 2) v) a (get_or t a 0 + 1)

abbrev pub add_write : Sizes → Write → List ℕ → List ℕ
add_write z w t = push (WRITES z) w.row w.base w.new t

abbrev pub add_rec : Sizes → Rec → List ℕ → List ℕ
add_rec z q t = push (READS z) q.row q.cell q.xmin t

abbrev pub add_recs : Sizes → List Rec → List ℕ → List ℕ
add_recs z l t = fold (add_rec z) l t

-- Begin: the id, the snapshot, no writes, no records. The words past the counts stay as they lie: no call looks at them.
unfoldable pub opened : Sizes → List ℕ → ℕ → ℕ → ℕ → List ℕ → List ℕ
opened z t id low top active = set (set (sets t ID (id ∷ low ∷ top ∷ length active ∷ active)) (WRITES z) 0) (READS z) 0

-- Commit: "the slot is emptied: every field 0"
abbrev pub emptied : Sizes → List ℕ
emptied z = replicate z.width 0
