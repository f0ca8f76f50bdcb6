-- Gap 5: 000's `image_valid` lets two rows share a tail, so that freeing for one row can hurt the other. No reachable store has one.
use Rattle.std.specs.Prelude.{[], ◌∷◌, replicate}
use Rattle.words.specs.Sizes.{base}
use Rattle.kinds.specs.Versions.{version, words_of}
use Rattle.rules.specs.Memory.{Mem, mem}

-- rows 0 and 1 have heads of their own, 2 and 3, over one tail, 1, which has been superseded
abbrev pub sharing : Mem base
sharing =
    mem (2 ∷ 3 ∷ 9 ∷ 0 ∷ []) (2 ∷ 3 ∷ []) (words_of (version 1 2 0 1 60 0 0) 0 ∷ words_of (version 2 0 1 1 70 0 0) 0 ∷ words_of (version 3 0 1 1 80 0 0) 0 ∷ [])
    (replicate base.slots (replicate base.width 0))
