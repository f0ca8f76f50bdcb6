-- The four arenas as a contract has them: lent slices, before the call (`mem_in`) and after it (`mem_out`), at the sizes of paper 01.
use Rattle.std.specs.Prelude.{ℕ, List}
use Rattle.std.specs.Borrow.{MutBor}
use denote.Triple.Both.{Both}
use Rattle.words.specs.Sizes.{base}
use Rattle.rules.specs.Memory.{Mem, mem}

-- a lent slice of words, and one of arrays of words
abbrev pub Words : Type 0
Words = Both (MutBor (List ℕ)) (MutBor (List ℕ))

abbrev pub Arrays : Type 0
Arrays = Both (MutBor (List (List ℕ))) (MutBor (List (List ℕ)))

abbrev pub mem_in : Words → Words → Arrays → Arrays → Mem base
mem_in a b c d = mem a.entry.now b.entry.now c.entry.now d.entry.now

abbrev pub mem_out : Words → Words → Arrays → Arrays → Mem base
mem_out a b c d = mem a.exit.now b.exit.now c.exit.now d.exit.now

-- the same, arena by arena, where some are lent to be read alone
abbrev pub lent : List ℕ → List ℕ → List (List ℕ) → List (List ℕ) → Mem base
lent a b c d = mem a b c d
