-- Creation, as its two ways out give it: refused where the sizes do not fit, and otherwise each arena as it is stored.
use Rattle.std.specs.Prelude.{ℕ, true, false, List, [], ◌∷◌, ◌≡◌, replicate}
use Rattle.std.proofs.lemmas.List.Edits.{sets}
use Rattle.kinds.specs.Answer.{Done}
use Rattle.words.specs.Sizes.{Sizes}
use Rattle.rules.specs.Numbers.{bad_size}
use Rattle.words.specs.Slots.{emptied}
use Rattle.rules.specs.Memory.{Mem, mem}
use Rattle.rules.specs.Outcome.{out, guard, refuse, fits}
use Rattle.rules.specs.Create.{fresh_cells, created, create_out}

module _ {z : Sizes} (m : Mem z) (n r : ℕ) where
  pub create_refused : fits m r n ≡ false → refuse m bad_size 0 ≡ create_out m n r
  unfolding create_out guard
  create_refused e = rw e

  pub create_done : fits m r n ≡ true
      → (meta rows : List ℕ) (cells slots : List (List ℕ))
      → meta ≡ sets m.meta 0 (r ∷ n ∷ 1 ∷ 1 ∷ [])
      → rows ≡ sets m.rows 0 (replicate r 0)
      → cells ≡ sets m.cells 0 (fresh_cells n 1)
      → slots ≡ sets m.slots 0 (replicate z.slots (emptied z))
      → out Done [] (mem meta rows cells slots) ≡ create_out m n r
  unfolding create_out created guard
  create_done e meta rows cells slots a b c d = rw (e, a, b, c, d)
