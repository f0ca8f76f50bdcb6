-- 000's three witnesses, with their numbers, on hand-made memory and by our calls: a write published over a base, a vacuum that keeps the
-- anchor and a later one that takes it, a locked version that survives.
use Rattle.std.specs.Prelude.{ℕ, List, [], ◌∷◌, set, replicate}
use Rattle.std.proofs.lemmas.List.Edits.{sets}
use Rattle.words.specs.Sizes.{base, WRITES}
use Rattle.kinds.specs.Versions.{version, words_of}
use Rattle.rules.specs.Memory.{Mem, mem}
use Rattle.rules.specs.Vacuum.{vacuum_out}

abbrev pub empty : List ℕ
empty = replicate base.width 0

-- ---- native_publication_has_executable_witness: base 1 (1, 0) with key 42, fresh 2 (9, 0) with key 77, the writer 9
abbrev pub ready : Mem base
ready =
    mem (1 ∷ 2 ∷ 10 ∷ 0 ∷ []) (1 ∷ []) (words_of (version 1 0 0 1 42 0 0) 0 ∷ words_of (version 9 0 1 1 77 0 0) 0 ∷ [])
    (set (replicate base.slots empty) 0 (sets (sets empty 0 (9 ∷ 9 ∷ 10 ∷ 1 ∷ 9 ∷ [])) (WRITES base) (1 ∷ 0 ∷ 1 ∷ 2 ∷ [])))

-- ---- the vacuum's: versions 1 (1, 2), 2 (2, 9) and 3 (9, 0) with keys 10, 20 and 30, one over the other; lock and owner of the oldest
abbrev pub three : ℕ → ℕ → Mem base
three locked owner =
    mem (1 ∷ 3 ∷ 12 ∷ 0 ∷ []) (3 ∷ []) (words_of (version 1 2 0 1 10 locked owner) 0 ∷ words_of (version 2 9 1 1 20 0 0) 0 ∷ words_of (version 9 0 2 1 30 0 0) 0 ∷ [])
    (replicate base.slots empty)

abbrev pub once : Mem base
once = (vacuum_out (three 0 0) 0 4 3).after
