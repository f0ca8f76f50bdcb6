-- "Fresh: clock 1, heads 0, slots empty, cells free. An accepted creation call starts a new history." And "a longer one is taken, its
-- rest untouched".
use Prim.Native.Nat.{ℕ, zero, suc, ◌≤◌, ◌<◌}
use mathlib.Core.List.{[], ◌∷◌}
use Rattle.std.specs.Prelude.{◌≡◌, length, get_or, replicate}
use Rattle.std.proofs.Math.Path.{ap}
use Rattle.std.proofs.Common.{◌∙◌, arith}
use Rattle.std.proofs.lemmas.List.{length-replicate}
use Rattle.std.proofs.Math.ListN.{get_or-replicate}
use Rattle.words.specs.Sizes.{Sizes, meta_words}
use Rattle.kinds.specs.Versions.{empty_version, version_of, words_of, cell_at, version_at}
use Rattle.words.specs.Slots.{emptied}
use Rattle.rules.specs.Memory.{Mem, size_r, size_n, clock, head_at, words_at}
use Rattle.rules.specs.Create.{fresh_cells, created}
use Rattle.rules.specs.Terms.{Fitting}
use Rattle.rules.proofs.SetsAtFront.{front_is, rest_is}
use Rattle.rules.proofs.HandedOut.{fresh_at, fresh_length}

module _ {z : Sizes} (m : Mem z) (n r : ℕ) (fit : Fitting m r n) where
  abbrev fresh : Mem z
  fresh = created m n r

  heads_fit : length (replicate {A = ℕ} r 0) ≤ length m.rows
  heads_fit = rw (length-replicate {A = ℕ} r 0) fit.heads

  cells_fit : length (fresh_cells n 1) ≤ length m.cells
  cells_fit = rw (fresh_length n 1) fit.cells

  slots_fit : length (replicate z.slots (emptied z)) ≤ length m.slots
  slots_fit = rw (length-replicate z.slots (emptied z)) fit.slots

  pub created_sizes_and_clock : (size_r fresh ≡ r) × (size_n fresh ≡ n) × (clock fresh ≡ 1)
  unfolding created
  created_sizes_and_clock = (
    front_is m.meta (r ∷ n ∷ 1 ∷ 1 ∷ []) 0 fit.metas 0 (omega arith),
    front_is m.meta (r ∷ n ∷ 1 ∷ 1 ∷ []) 0 fit.metas 1 (omega arith),
    front_is m.meta (r ∷ n ∷ 1 ∷ 1 ∷ []) 0 fit.metas 2 (omega arith),
  )

  pub created_heads_are_0 : (i : ℕ) → i < r → head_at fresh i ≡ 0
  unfolding created
  created_heads_are_0 i h = front_is m.rows (replicate r 0) 0 heads_fit i (rw (length-replicate {A = ℕ} r 0) h) ∙ get_or-replicate r i 0 0 h

  pub created_slots_are_empty : (s : ℕ) → s < z.slots → words_at fresh s ≡ emptied z
  unfolding created
  created_slots_are_empty s h = front_is m.slots (replicate z.slots (emptied z)) [] slots_fit s (rw (length-replicate z.slots (emptied z)) h) ∙ get_or-replicate z.slots s (emptied z) [] h

  pub created_cells_are_cleared : (c : ℕ) → 1 ≤ c → c ≤ n → version_at fresh.cells c ≡ empty_version
  unfolding created version_of cell_at words_of
  created_cells_are_cleared zero a b = absurd (omega arith)
  created_cells_are_cleared (suc i) a b = ap version_of (front_is m.cells (fresh_cells n 1) [] cells_fit i (rw (fresh_length n 1) b) ∙ fresh_at n 1 i b)

  -- "its rest untouched"
  pub created_leaves_the_rest : ((i : ℕ) → meta_words ≤ i → get_or fresh.meta i 0 ≡ get_or m.meta i 0) × ((i : ℕ) → r ≤ i → get_or fresh.rows i 0 ≡ get_or m.rows i 0) × ((i : ℕ) → n ≤ i → get_or fresh.cells i [] ≡ get_or m.cells i []) × ((i : ℕ) → z.slots ≤ i → get_or fresh.slots i [] ≡ get_or m.slots i [])
  unfolding created
  created_leaves_the_rest = (
    (λ i h. rest_is m.meta (r ∷ n ∷ 1 ∷ 1 ∷ []) 0 fit.metas i h),
    (λ i h. rest_is m.rows (replicate r 0) 0 heads_fit i (rw (length-replicate {A = ℕ} r 0) h)),
    (λ i h. rest_is m.cells (fresh_cells n 1) [] cells_fit i (rw (fresh_length n 1) h)),
    (λ i h. rest_is m.slots (replicate z.slots (emptied z)) [] slots_fit i (rw (length-replicate z.slots (emptied z)) h)),
  )
