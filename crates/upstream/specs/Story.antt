-- 001 and the root of 000: one row, whose version `anchor` lies over `tail`; a writer publishes `fresh` over it; vacuum takes the tail; its
-- cell is used anew; a reader that began before the writer still reads the anchor. The pictures, and who reads.
use Rattle.std.specs.Prelude.{ℕ, ◌<◌, ◌≤◌, false, cond, ◌≡◌, ◌≢◌, ◌⊎◌, eqb}
use Rattle.std.proofs.Math.Option.{some}
use Rattle.kinds.specs.Versions.{version, new_version, empty_version}
use Rattle.words.specs.Slots.{Write}
use Rattle.rules.specs.Exactly.{In, All}
use Rattle.upstream.specs.Images.{Image, Snapshot}
use Rattle.upstream.specs.Seen.{creator_visible}
use Rattle.upstream.specs.Publication.{set_row, publication_prefix}
use Rattle.upstream.specs.RetentionTerms.{spliced}
use Rattle.words.specs.Slots as S

-- `Layout`: three cells
pub record Layout : Type 0 where
  pub tail : ℕ
  pub anchor : ℕ
  pub fresh : ℕ

-- `distinct`: not 0, and no two alike
pub record Distinct (l : Layout) : Type 0 where
  pub tail : l.tail ≢ 0
  pub anchor : l.anchor ≢ 0
  pub fresh : l.fresh ≢ 0
  pub tail_anchor : l.tail ≢ l.anchor
  pub tail_fresh : l.tail ≢ l.fresh
  pub anchor_fresh : l.anchor ≢ l.fresh

-- the write of row 0 from the anchor to the fresh cell
abbrev pub write : Layout → Write
write l = S.write 0 l.anchor l.fresh

-- `old_reader`: a snapshot that sees the anchor's birth and not the writer
pub record OldReader (t : Snapshot) (birth writer : ℕ) : Type 0 where
  pub born : 0 < birth
  pub early : birth < t.xmin
  pub lowest : t.xmin ≤ t.txid
  pub inside : t.txid < t.xmax
  pub foreign : writer ≢ t.txid
  pub hidden : creator_visible writer t ≡ false
  pub later : (t.xmax ≤ writer) ⊎ In writer t.active
  pub active : All (λ x. t.xmin ≤ x) t.active

module _ (l : Layout) (birth writer before after : ℕ) where
  -- `seeded`: the anchor over the tail, and the prepared cell, whose next is the anchor already. n cells, one row
  abbrev pub seeded : ℕ → Image
  seeded n =
      record {
        heads = λ r. l.anchor;
        rows = λ c. cond (eqb c l.fresh) (version writer 0 l.anchor 1 after 0 0) (cond (eqb c l.anchor) (version birth 0 l.tail 1 before 0 0) (cond (eqb c l.tail) (version 1 birth 0 0 0 0 0) empty_version));
        cells = n;
        capacity = 1;
      }

  -- `published`: phase 3 of the write
  abbrev pub published : ℕ → Image
  published n = publication_prefix (seeded n) (write l) writer 3

  -- `pruned`: the tail unlinked
  abbrev pub pruned : ℕ → Image
  pruned n = spliced (published n) l.anchor 0

  -- `reused`: the tail's cell holds a version of a later writer
  abbrev pub reused : ℕ → ℕ → ℕ → Image
  reused n reuser key = set_row (pruned n) l.tail (new_version (some key) reuser 0)

-- two images agree at row 0 and at a cell; at the cells of the layout
abbrev pub AgreeAt : Image → Image → ℕ → Type 0
AgreeAt a b c = a.rows c ≡ b.rows c

pub record Agree (l : Layout) (a b : Image) : Type 0 where
  pub head : a.heads 0 ≡ b.heads 0
  pub tail : AgreeAt a b l.tail
  pub anchor : AgreeAt a b l.anchor
  pub fresh : AgreeAt a b l.fresh

-- but for the tail
pub record AgreeButTail (l : Layout) (a b : Image) : Type 0 where
  pub head : a.heads 0 ≡ b.heads 0
  pub anchor : AgreeAt a b l.anchor
  pub fresh : AgreeAt a b l.fresh
