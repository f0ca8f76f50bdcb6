-- Publication looks at the heads and the cells alone, and changes nothing else: what is promised of those two arenas holds of a whole
-- memory.
use Rattle.std.specs.Prelude.{ℕ, List, [], ◌∷◌, ◌≡◌, refl, length}
use Rattle.std.proofs.Common.{sym, ap, ◌∙◌}
use Rattle.words.specs.Sizes.{base}
use Rattle.words.specs.Lists.{fold}
use Rattle.words.specs.Slots.{Write}
use Rattle.rules.specs.Memory.{Mem, mem}
use Rattle.rules.specs.Commit.{publish, publish_all}
use Rattle.rules.specs.Theory.Bridge.{WriteIn}

-- the two arenas that publication changes
abbrev pub lent : List ℕ → List (List ℕ) → Mem base
lent rows cells = mem [] rows cells []

-- ---- a whole memory

publish_parts : (id : ℕ) (ws : List Write) (a r : List ℕ) (c s : List (List ℕ))
    → ◌≡◌ {A = Mem base} (publish_all id ws (mem a r c s)) (mem a (publish_all id ws (lent r c)).rows (publish_all id ws (lent r c)).cells s)
unfolding fold publish
publish_parts id [] a r c s = refl
publish_parts id (w ∷ l) a r c s = publish_parts id l a (publish id w (lent r c)).rows (publish id w (lent r c)).cells s

pub publish_whole : (id : ℕ) (ws : List Write) (a r r' : List ℕ) (c c' s : List (List ℕ))
    → lent r' c' ≡ publish_all id ws (lent r c) → ◌≡◌ {A = Mem base} (mem a r' c' s) (publish_all id ws (mem a r c s))
publish_whole id ws a r r' c c' s e = ap (λ (k : Mem base). mem a k.rows k.cells s) e ∙ sym (publish_parts id ws a r c s)

-- what is there stays there where the lengths do
pub still_in : (m n : Mem base) (w : Write) → length n.rows ≡ length m.rows → length n.cells ≡ length m.cells → WriteIn m w → WriteIn n w
still_in m n w r c k = record { row_in = rw r k.row_in; base_in = rw c k.base_in; new_in = record { low = k.new_in.low; high = rw c k.new_in.high } }
