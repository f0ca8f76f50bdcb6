-- "Cells are handed out 1, 2, 3..; a cell given back is the next handed out": the free list, spelled by the links, after a creation,
-- after a write that takes a cell, and after cells are given back.
use Prim.Native.Nat.{ℕ}
use Rattle.std.specs.Prelude.{◌≡◌, ◌≢◌}
use mathlib.Core.List.{List, [], ◌∷◌}
use Rattle.words.specs.Sizes.{Sizes}
use Rattle.kinds.specs.Versions.{link_at}
use Rattle.rules.specs.Memory.{Mem, free}

-- from the first free cell p the free links pass exactly the cells of l, to 0
abbrev pub FreeFrom : List (List ℕ) → ℕ → List ℕ → Type 0
FreeFrom cs p [] = p ≡ 0
FreeFrom cs p (c ∷ l) = (p ≡ c) × ((c ≢ 0) × FreeFrom cs (link_at cs c) l)

-- the free list of a memory
abbrev pub FreeList : {z : Sizes} → Mem z → List ℕ → Type 0
FreeList m l = FreeFrom m.cells (free m) l
