-- 001's `native_` functions over our calls, of any memory that shows the picture: publication, vacuum, reuse, the old reader, validation,
-- the release of the anchor. `seeded` is asked for but for the base's lock and the prepared cell's next, which our calls set otherwise.
use Prim.Native.Nat.{ℕ}
use Rattle.std.specs.Prelude.{Bool, false, ◌≡◌, ◌⊎◌}
use Rattle.std.proofs.Math.Bool.{true}
use Rattle.std.proofs.Math.Option.{some}
use Rattle.kinds.specs.declared.Version.{Version}
use Rattle.rules.specs.Terms.{CellOf}
use Rattle.upstream.specs.Images.{Image}
use Rattle.upstream.specs.Transactions.{value_of}
use Rattle.upstream.specs.RetentionTerms.{first_seen}
use Rattle.upstream.specs.Story.{Layout}

-- a rule by which a reader sees the birth, standing or superseded by the writer, and nothing of the writer
pub record SeesTheBirth (see : Version → Bool) (birth writer : ℕ) : Type 0 where
  pub seen : (v : Version) → v.xmin.0 ≡ birth → (v.xmax.0 ≡ 0) ⊎ (v.xmax.0 ≡ writer) → see v ≡ true
  pub unseen : (v : Version) → v.xmin.0 ≡ writer → see v ≡ false

-- a reader finds the anchor at row 0, with the key of before: 000's `history_maps_snapshot` of one row and no events
pub record ReadsTheAnchor (see : Version → Bool) (l : Layout) (before : ℕ) (s : Image) : Type 0 where
  pub first : first_seen see s (s.heads 0) ≡ some l.anchor
  pub key : value_of (s.rows l.anchor) ≡ some before

-- the cells of the layout are cells of the store
pub record Inside (n : ℕ) (l : Layout) : Type 0 where
  pub tail : CellOf n l.tail
  pub anchor : CellOf n l.anchor
  pub fresh : CellOf n l.fresh
