-- A cell is stored whole: what is read back asks nothing of its length.
use mathlib.Core.List.{List, []}
use Rattle.std.specs.Prelude.{◌≢◌, ◌≡◌, length, set}
use Rattle.std.proofs.Common.{◌∙◌, not-suc-le-zero, arith}
use Rattle.std.proofs.Math.Path.{ap, refl}
use Prim.Native.Nat.{ℕ, ◌<◌, ◌-◌, zero, suc}
use Rattle.std.proofs.Math.ListN.{get_or, length-set}
use Rattle.std.proofs.Math.Seq.{get_or-set_same, get_or-set_other}
use Rattle.kinds.specs.declared.Version.{Version}
use Rattle.kinds.specs.Versions.{cell_at, put_cell, words_of, version_at, version_of, link_at}
use Rattle.rules.specs.Theory.CellLaws.{HasCell}

-- the code's index
pub cell_index : (cs : List (List ℕ)) (c : ℕ) → 0 < c → cell_at cs c ≡ get_or cs (c - 1) []
unfolding cell_at
cell_index cs zero h = absurd (not-suc-le-zero h)
cell_index cs (suc c) h =
    let e : suc c - 1 ≡ c = omega arith in
    rw e

module _ (cs : List (List ℕ)) (c : ℕ) (v : Version) (l : ℕ) where
  pub length_put : length (put_cell cs c v l) ≡ length cs
  unfolding put_cell
  length_put = length-set cs (c - 1) _

  pub put_cell_lem : HasCell cs c → cell_at (put_cell cs c v l) c ≡ words_of v l
  unfolding put_cell
  put_cell_lem h = cell_index (set cs (c - 1) (words_of v l)) c h.low ∙ get_or-set_same cs (c - 1) (words_of v l) [] (omega (arith, h.low, h.high))

  pub put_on : HasCell cs c → version_at (put_cell cs c v l) c ≡ v
  unfolding version_of words_of
  put_on h = ap version_of (put_cell_lem h)

  pub put_link : HasCell cs c → link_at (put_cell cs c v l) c ≡ l
  unfolding words_of
  put_link h = ap (λ (w : List ℕ). get_or w 7 0) (put_cell_lem h)

  -- every other cell is as it was
  pub put_else : (d : ℕ) → 0 < c → d ≢ c → cell_at (put_cell cs c v l) d ≡ cell_at cs d
  unfolding put_cell cell_at
  put_else zero p n = refl
  put_else (suc d) p n = get_or-set_other cs (c - 1) d (words_of v l) [] (λ e. n (omega arith))

  pub put_off : (d : ℕ) → 0 < c → d ≢ c → version_at (put_cell cs c v l) d ≡ version_at cs d
  put_off d p n = ap version_of (put_else d p n)
