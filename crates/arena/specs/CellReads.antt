-- A cell that is not there reads as the empty version: so a version is read of any pointer.
use Rattle.std.specs.Prelude.{ℕ, ◌-◌, ◌<◌, ◌≤◌, List, [], ◌∷◌, ◌≡◌, Option, Some, None, MatchOption, length, get_or}
use Rattle.std.proofs.Common.{Bor, ap, sym, ◌∙◌, arith}
use Rattle.rules.proofs.Theory.CellLaws.{cell_index}
use Rattle.std.specs.Slice.{IsItemAt}
use Rattle.std.proofs.Math.ListN.{get_or-eq_default}
use Rattle.kinds.specs.Versions.{empty_version, version_of, cell_at, version_at, link_at}

pub version_of_none : (cs : List (List ℕ)) (c : ℕ) → c ≡ 0 → version_at cs c ≡ empty_version
unfolding version_of cell_at
version_of_none cs c e = rw e

pub version_past_end : (cs : List (List ℕ)) (c : ℕ) → length cs < c → version_at cs c ≡ empty_version
unfolding version_of cell_at
version_past_end cs c h = ap version_of (get_or-eq_default ([] ∷ cs) [] {n = c} (omega arith))

-- and its free link as 0
pub link_of_none : (cs : List (List ℕ)) (c : ℕ) → c ≡ 0 → link_at cs c ≡ 0
unfolding cell_at
link_of_none cs c e = rw e

pub link_past_end : (cs : List (List ℕ)) (c : ℕ) → length cs < c → link_at cs c ≡ 0
unfolding cell_at
link_past_end cs c h = ap (λ (w : List ℕ). get_or w 7 0) (get_or-eq_default ([] ∷ cs) [] {n = c} (omega arith))

-- its words: none
pub cell_none : (cs : List (List ℕ)) (c : ℕ) → c ≡ 0 → cell_at cs c ≡ []
unfolding cell_at
cell_none cs c e = rw e

-- what stands at the code's index of a cell is the cell, and nothing stands there where there is no such cell
pub cell_got : (cs : List (List ℕ)) (c i : ℕ) (r : Option (Bor (List ℕ))) → 1 ≤ c → i ≡ c - 1 → IsItemAt cs i r → MatchOption r (cell_at cs c ≡ []) (λ w. cell_at cs c ≡ w.now)
cell_got cs c i None p e h = cell_index cs c p ∙ ap (λ (k : ℕ). get_or cs k []) (sym e) ∙ sym (h.4 (omega arith) [])
cell_got cs c i (Some w) p e h = cell_index cs c p ∙ ap (λ (k : ℕ). get_or cs k []) (sym e) ∙ sym (h.4 (omega arith) [])
