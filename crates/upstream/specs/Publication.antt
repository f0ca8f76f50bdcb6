-- 000, module publication: its terms over an image. One write is published in three steps: the base marked, the new cell linked, the head
-- moved; `publication_prefix` is the image after the first so many of them.
use Rattle.std.specs.Prelude.{ℕ, zero, suc, ◌<◌, true, cond, List, [], ◌∷◌, ◌≢◌, ◌⊎◌, ◌≡◌, eqb}
use Rattle.kinds.specs.declared.Version.{Version}
use Rattle.kinds.specs.Versions.{with_xmax, with_next, unlocked}
use Rattle.words.specs.Slots.{Write}
use Rattle.rules.specs.Exactly.{In}
use Rattle.upstream.specs.Images.{Image, ImageValid, stored}

-- one version changed, the rest of the image kept
abbrev pub set_row : Image → ℕ → Version → Image
set_row s p v = record { heads = s.heads; rows = λ q. cond (eqb q p) v (s.rows q); cells = s.cells; capacity = s.capacity }

-- `set_xmax`, `set_next`
abbrev pub set_xmax : Image → ℕ → ℕ → Image
set_xmax s p x = set_row s p (with_xmax (s.rows p) x)

abbrev pub set_next : Image → ℕ → ℕ → Image
set_next s p n = set_row s p (with_next (s.rows p) n)

-- `set_head`
abbrev pub set_head : Image → ℕ → ℕ → Image
set_head s r c = record { heads = λ q. cond (eqb q r) c (s.heads q); rows = s.rows; cells = s.cells; capacity = s.capacity }

-- `publication_prefix`: phase 0 nothing, 1 the base marked, 2 the new cell linked, 3 the head moved
abbrev pub deleted : Image → Write → ℕ → Image
deleted s w id = cond (eqb w.base 0) s (set_xmax s w.base id)

abbrev pub linked : Image → Write → ℕ → Image
linked s w id = set_next (deleted s w id) w.new w.base

abbrev pub publication_prefix : Image → Write → ℕ → ℕ → Image
publication_prefix s w id zero = s
publication_prefix s w id (suc zero) = deleted s w id
publication_prefix s w id (suc (suc zero)) = linked s w id
publication_prefix s w id (suc (suc (suc k))) = set_head (linked s w id) w.row w.new

-- `prepared`: a write is ready to be published
pub record Prepared (s : Image) (w : Write) (id : ℕ) : Type 0 where
  pub valid : ImageValid s
  pub real : 0 < id
  pub row : w.row < s.capacity
  pub head : s.heads w.row ≡ w.base
  pub new : stored s w.new ≡ true
  pub apart : w.new ≢ w.base
  pub xmin : (s.rows w.new).xmin.0 ≡ id
  pub xmax : (s.rows w.new).xmax.0 ≡ 0
  pub base : w.base ≢ 0 → stored s w.base ≡ true
  pub live : w.base ≢ 0 → (s.rows w.base).xmax.0 ≡ 0
  pub unheaded : (r : ℕ) → r < s.capacity → s.heads r ≢ w.new
  pub unlinked : (p : ℕ) → stored s p ≡ true → p ≢ w.new → (s.rows p).next.0 ≢ w.new

-- one image in all its parts
pub record Same (a b : Image) : Type 0 where
  pub heads : (r : ℕ) → r < a.capacity → a.heads r ≡ b.heads r
  pub rows : (p : ℕ) → stored a p ≡ true → a.rows p ≡ b.rows p
  pub cells : a.cells ≡ b.cells
  pub capacity : a.capacity ≡ b.capacity

-- "held but for the base's lock and owner, which commit clears"
pub record SameButLock (b0 : ℕ) (a b : Image) : Type 0 where
  pub heads : (r : ℕ) → r < a.capacity → a.heads r ≡ b.heads r
  pub rows : (p : ℕ) → p ≢ b0 → a.rows p ≡ b.rows p
  pub base : b0 ≢ 0 → b.rows b0 ≡ unlocked (a.rows b0)
  pub cells : a.cells ≡ b.cells
  pub capacity : a.capacity ≡ b.capacity

-- several writes, one after the other, each in its three phases
unfoldable pub published_all : List Write → ℕ → Image → Image
published_all [] id s = s
published_all (w ∷ ws) id s = published_all ws id (publication_prefix s w id 3)

-- the same of two images, but for the lock and owner of each base
pub record SameButLocks (ws : List Write) (a b : Image) : Type 0 where
  pub heads : (r : ℕ) → r < a.capacity → a.heads r ≡ b.heads r
  pub rows : (p : ℕ) → ((w : Write) → In w ws → w.base ≢ 0 → p ≢ w.base) → a.rows p ≡ b.rows p
  pub bases : (w : Write) → In w ws → w.base ≢ 0 → b.rows w.base ≡ unlocked (a.rows w.base)
  pub cells : a.cells ≡ b.cells
  pub capacity : a.capacity ≡ b.capacity

-- `allowed_prefix`: the image after is that of one of the phases
abbrev pub AllowedPrefix : Image → Image → Write → ℕ → Type 0
AllowedPrefix a b w id = Same (publication_prefix a w id 0) b ⊎ (Same (publication_prefix a w id 1) b ⊎ (Same (publication_prefix a w id 2) b ⊎ Same (publication_prefix a w id 3) b))
