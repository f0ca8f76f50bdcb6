-- 000's `Image` and `Snapshot`, of a memory and of a slot. The rank is not kept: `ImageValid` asks that there is one.
use Rattle.std.specs.Prelude.{ℕ, ◌<◌, Bool, true, List, ◌≢◌, ◌⊎◌, ◌≡◌}
use Rattle.kinds.specs.declared.Version.{Version}
use Rattle.words.specs.Sizes.{Sizes}
use Rattle.kinds.specs.Versions.{version_at}
use Rattle.words.specs.Slots.{Slot}
use Rattle.rules.specs.Memory.{Mem, size_r, size_n, head_at, slot_at}
use Rattle.rules.specs.Outcome.{is_cell}

-- `Image`: heads by row, versions by cell, the number of rows. The cells that have a stored version are 1 to `cells`
pub record Image : Type 0 where
  pub heads : ℕ → ℕ
  pub rows : ℕ → Version
  pub cells : ℕ
  pub capacity : ℕ

-- the image that a memory shows
abbrev pub image_of : {z : Sizes} → Mem z → Image
image_of m = record { heads = head_at m; rows = version_at m.cells; cells = size_n m; capacity = size_r m }

-- `rows.contains_key`: cell p has a stored version
abbrev pub stored : Image → ℕ → Bool
stored s p = is_cell s.cells p

-- pointer 0, or a cell that has a stored version
abbrev pub Points : Image → ℕ → Type 0
Points s p = (p ≡ 0) ⊎ (stored s p ≡ true)

-- `image_valid`: heads and links name stored versions, and there is a rank that falls along next
pub record ImageValid (s : Image) : Type 0 where
  pub heads : (r : ℕ) → r < s.capacity → Points s (s.heads r)
  pub links : (p : ℕ) → stored s p ≡ true → Points s (s.rows p).next.0
  pub rank : ℕ → ℕ
  pub falls : (p : ℕ) → stored s p ≡ true → (s.rows p).next.0 ≢ 0 → rank (s.rows p).next.0 < rank p

-- `Snapshot`: the four snapshot fields of a transaction
pub record Snapshot : Type 0 where
  pub txid : ℕ
  pub xmin : ℕ
  pub xmax : ℕ
  pub active : List ℕ

-- `Transaction` is what a slot's words say: id, snapshot, write set, read records
abbrev pub transaction : {z : Sizes} → Mem z → ℕ → Slot
transaction m s = slot_at m s

-- `snapshot`
abbrev pub snapshot : Slot → Snapshot
snapshot t = record { txid = t.id; xmin = t.low; xmax = t.top; active = t.active }
