-- What 000 says of a transaction and its image: `last_write`, `transaction_valid`, `selected_pointer`, `selected_value`.
use Rattle.std.specs.Prelude.{ℕ, ◌<◌, ◌≤◌, true, cond, List, [], ◌∷◌, ◌≡◌, eqb}
use Rattle.std.proofs.Math.Option.{Option, none, some}
use Rattle.kinds.specs.declared.Version.{Version}
use Rattle.kinds.specs.ReadAnswer.{ReadAnswer, None, Empty, Key}
use Rattle.words.specs.Lists.{nonzero, or_else}
use Rattle.words.specs.Slots.{Slot, Write}
use Rattle.rules.specs.Reachable.{All}
use Rattle.upstream.specs.Images.{Image, ImageValid, stored, snapshot}
use Rattle.upstream.specs.Seen.{first_visible}

-- `last_write`: the new cell of the last entry for a row, if any
unfoldable pub last_write : List Write → ℕ → Option ℕ
last_write [] r = none
last_write (w ∷ l) r = or_else (last_write l r) (cond (eqb w.row r) (some w.new) none)

-- `transaction_valid`: a valid image and a transaction that fits it
pub record TransactionValid (s : Image) (t : Slot) : Type 0 where
  pub image : ImageValid s
  pub real : 0 < t.id
  pub early : t.id < t.top
  pub low : 0 < t.low
  pub lowest : t.low ≤ t.id
  pub rows : All (λ w. w.row < s.capacity) t.writes
  pub news : All (λ w. stored s w.new ≡ true) t.writes

-- `selected_pointer`: the own last write of a row, else its first visible version
abbrev pub selected_pointer : Image → Slot → ℕ → Option ℕ
selected_pointer s t r = or_else (last_write t.writes r) (first_visible s (s.heads r) (snapshot t))

-- the value of a version: a key or none
abbrev pub value_of : Version → Option ℕ
value_of v = cond (nonzero v.keyed) (some v.key) none

abbrev pub value_at : Image → Option ℕ → Option (Option ℕ)
value_at s none = none
value_at s (some p) = some (value_of (s.rows p))

-- `selected_value`: the value at the selected pointer; none where there is no version
abbrev pub selected_value : Image → Slot → ℕ → Option (Option ℕ)
selected_value s t r = value_at s (selected_pointer s t r)

abbrev pub key_at : Image → Option ℕ → Option ℕ
key_at s none = none
key_at s (some p) = value_of (s.rows p)

-- `stored_snapshot_key`: the key of a row's first visible version, or none
abbrev pub stored_snapshot_key : Image → Slot → ℕ → Option ℕ
stored_snapshot_key s t r = key_at s (first_visible s (s.heads r) (snapshot t))

-- upstream's answer of a read, as ours: no version, a version without a key, a key
abbrev pub answered : Option (Option ℕ) → ReadAnswer
answered none = None
answered (some none) = Empty
answered (some (some k)) = Key k
