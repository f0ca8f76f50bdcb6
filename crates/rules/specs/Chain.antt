-- A row's chain as a list, and the first visible version of it.
use Rattle.std.specs.Prelude.{ℕ, zero, suc, cond, List, [], ◌∷◌, eqb, ltb}
use Rattle.std.proofs.Math.Option.{Option, none, some}
use Rattle.kinds.specs.declared.Version.{Version}
use Rattle.words.specs.Lists.{first}
use Rattle.words.specs.Slots.{Slot}
use Rattle.kinds.specs.Visible.{visible}

-- what comes after the cells of a chain: pointer 0; a further pointer, where the limit is reached; a pointer above N
pub data After : Type 0 where
  ends goes_on broken : After

pub record Chain : Type 0 where
  pub cells : List ℕ
  pub after : After

abbrev pub chained : List ℕ → After → Chain
chained l a = record { cells = l; after = a }

-- The chain from pointer c as a list: its cells, `most` at the most, and what comes after them. "Pointer 0 ends a chain"; a pointer
-- is followed only where the limit is not reached, so a pointer past the limit is not looked at (10 before 15). The rules that only
-- look take the versions as a function f of the cell.
unfoldable pub chain : ℕ → (ℕ → Version) → ℕ → ℕ → Chain
chain n f zero c = cond (eqb c 0) (chained [] ends) (chained [] goes_on)
chain n f (suc most) c =
    cond (eqb c 0) (chained [] ends)
    (cond (ltb n c) (chained [] broken)
    (let l = chain n f most (f c).next.0 in chained (c ∷ l.cells) l.after))

-- what a reader finds along a chain
pub data Look : Type 0 where
  found : ℕ → Look
  nothing too_long harmed : Look

abbrev pub look_of : Option ℕ → After → Look
look_of (some c) a = found c
look_of none ends = nothing
look_of none goes_on = too_long
look_of none broken = harmed

-- "the first visible version from the head (000, `first_visible`)", among the first `limit`
unfoldable pub look : ℕ → Slot → (ℕ → Version) → ℕ → ℕ → Look
look n t f limit c =
    let l = chain n f limit c in
    look_of (first (λ d. visible t (f d)) l.cells) l.after
