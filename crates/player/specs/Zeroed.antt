-- A store in which every word is 0: r rows and n cells are lent.
use Rattle.std.specs.Prelude.{ℕ, replicate}
use Rattle.words.specs.Sizes.{base, meta_words}
use Rattle.rules.specs.Memory.{Mem, mem}

abbrev pub zeroed : ℕ → ℕ → Mem base
zeroed r n = mem (replicate meta_words 0) (replicate r 0) (replicate n (replicate 8 0)) (replicate base.slots (replicate base.width 0))
