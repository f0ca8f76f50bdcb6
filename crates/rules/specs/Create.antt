-- Creation: R rows, N cells, a new history.
use Rattle.std.specs.Prelude.{ℕ, zero, suc, ◌+◌, not, cond, List, [], ◌∷◌, replicate, eqb}
use Rattle.std.proofs.lemmas.List.Edits.{sets}
use Rattle.kinds.specs.Answer.{Answer, Done}
use Rattle.words.specs.Sizes.{Sizes}
use Rattle.rules.specs.Numbers.{bad_size}
use Rattle.kinds.specs.Versions.{empty_version, words_of}
use Rattle.words.specs.Slots.{emptied}
use Rattle.rules.specs.Memory.{Mem, mem}
use Rattle.rules.specs.Outcome.{Outcome, out, test, guard, refuse, fits}

-- k free cells from c on, each linked to the next: "Cells are handed out 1, 2, 3.."
unfoldable pub fresh_cells : ℕ → ℕ → List (List ℕ)
fresh_cells zero c = []
fresh_cells (suc k) c = words_of empty_version (cond (eqb k 0) 0 (c + 1)) ∷ fresh_cells k (c + 1)

-- "Fresh: clock 1, heads 0, slots empty, cells free". A longer arena keeps its rest
unfoldable pub created : {z : Sizes} → Mem z → ℕ → ℕ → Mem z
created {z} m n r =
    mem (sets m.meta 0 (r ∷ n ∷ 1 ∷ 1 ∷ [])) (sets m.rows 0 (replicate r 0)) (sets m.cells 0 (fresh_cells n 1))
    (sets m.slots 0 (replicate z.slots (emptied z)))

-- 1: "R or N out of range, or a lent length too short for them (a longer one is taken, its rest untouched)"
unfoldable pub create_out : {z : Sizes} → Mem z → ℕ → ℕ → Outcome z Answer ℕ
create_out m n r = guard (refuse m) (test (not (fits m r n)) bad_size 0 ∷ []) (out Done [] (created m n r))
