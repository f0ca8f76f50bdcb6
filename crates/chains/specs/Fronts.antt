-- The first word of each report is its cell. Where the loop that gives the cells back stands: the reports left give what all give.
use Prim.Native.Nat.{ℕ, zero, suc, ◌+◌, ◌-◌, ◌≤◌, ◌<◌}
use Rattle.std.proofs.Common.{add-one, sym, ◌∙◌, get_or-set_same, get_or-set_other}
use native.Mathlib.Omega.{arith}
use Rattle.std.specs.Prelude.{List, [], ◌∷◌, ◌≡◌, refl, set}
use Rattle.std.proofs.Math.Path.{ap}
use Rattle.std.proofs.Math.ListN.{length, get_or, length-set, take}
use Rattle.std.proofs.Math.Nat.{sub-zero}
use Rattle.std.proofs.lemmas.List.{get_or-take, length-take-le}
use Rattle.std.proofs.lemmas.List.Edits.{sets}
use Rattle.words.specs.Sizes.{base, FREE}
use Rattle.words.specs.Lists.{fold}
use Rattle.kinds.specs.Versions.{empty_version, put_cell}
use Rattle.rules.specs.Memory.{mem}
use Rattle.rules.specs.Abort.{give_back}
use Rattle.rules.specs.Vacuum.{report_of, reports}
use Rattle.rules.specs.Theory.CellLaws.{HasCell}
use Rattle.rules.proofs.Theory.CellLaws.{length_put}
use Rattle.rules.specs.Theory.Bridge.{AllCells}
use Rattle.rules.proofs.Theory.Bridge.{all_cells}

-- the first words of k reports, from place i on
unfoldable pub fronts : List (List ℕ) → ℕ → ℕ → List ℕ
fronts rs i zero = []
fronts rs i (suc k) = get_or (get_or rs i []) 0 0 ∷ fronts rs (suc i) k

-- ---- of reports that were stored: the cells

sets_below : (buf : List (List ℕ)) (i : ℕ) (l : List (List ℕ)) (j : ℕ) → j < i → get_or (sets buf i l) j [] ≡ get_or buf j []
sets_below buf i [] j h = refl
sets_below buf i (a ∷ l) j h = sets_below (set buf i a) (suc i) l j (omega arith) ∙ get_or-set_other buf i j a [] (λ e. omega arith)

pub fronts_reports : (cs buf : List (List ℕ)) (i : ℕ) (l : List ℕ) → i + length l ≤ length buf → fronts (sets buf i (reports cs l)) i (length l) ≡ l
unfolding fronts reports
fronts_reports cs buf i [] h = refl
fronts_reports cs buf i (c ∷ l) h =
    let len = length-set buf i (report_of cs c) in
    let e = sets_below (set buf i (report_of cs c)) (suc i) (reports cs l) i (omega arith) ∙ get_or-set_same buf i (report_of cs c) [] (omega arith) in
    rw e (ap (λ (x : List ℕ). c ∷ x) (fronts_reports cs (set buf i (report_of cs c)) (suc i) l (omega arith)))

-- ---- of the first reports alone

fronts_below : (rs : List (List ℕ)) (i k n : ℕ) → i + k ≤ n → fronts (take n rs) i k ≡ fronts rs i k
unfolding fronts
fronts_below rs i zero n h = refl
fronts_below rs i (suc k) n h = rw (get_or-take n rs i [] (omega arith), fronts_below rs (suc i) k n (omega arith))

pub fronts_take : (rs : List (List ℕ)) (n : ℕ) → n ≤ length rs → fronts (take n rs) 0 (length (take n rs)) ≡ fronts rs 0 n
fronts_take rs n h = rw (length-take-le n rs h) (fronts_below rs 0 n n (omega arith))

-- ---- the loop

module _ (rs : List (List ℕ)) where
  -- from place i on
  abbrev rest : ℕ → List ℕ
  rest i = fronts rs i (length rs - i)

  rest_next : (i : ℕ) → i < length rs → rest i ≡ get_or (get_or rs i []) 0 0 ∷ rest (i + 1)
  unfolding fronts
  rest_next i h =
      let q : length rs - i ≡ suc (length rs - (i + 1)) = omega arith in
      rw q (ap (λ (x : ℕ). get_or (get_or rs i []) 0 0 ∷ fronts rs x (length rs - (i + 1))) (sym (add-one i)))

  module _ (all : List ℕ) (meta₀ : List ℕ) (cells₀ : List (List ℕ)) where
    pub record Giving (i : ℕ) (meta : List ℕ) (cells : List (List ℕ)) : Type 0 where
      pub ahead : AllCells cells (rest i)
      pub same : (r : List ℕ) (s : List (List ℕ)) → fold give_back (rest i) (mem {z = base} meta r cells s) ≡ fold give_back all (mem meta₀ r cells₀ s)

    module _ (i : ℕ) (meta : List ℕ) (cells : List (List ℕ)) (g : Giving i meta cells) where
      pub giving_end : length rs ≤ i → (r : List ℕ) (s : List (List ℕ)) → mem {z = base} meta r cells s ≡ fold give_back all (mem meta₀ r cells₀ s)
      unfolding fronts fold
      giving_end h r s =
          let q : length rs - i ≡ 0 = omega arith in
          (rw q at (g.same r s))

      module _ (h : i < length rs) where
        pub giving_cell : HasCell cells (get_or (get_or rs i []) 0 0)
        giving_cell = (rw (rest_next i h) at g.ahead).0

        pub giving_next : (meta' : List ℕ) (cells' : List (List ℕ)) → meta' ≡ set meta FREE (get_or (get_or rs i []) 0 0)
            → cells' ≡ put_cell cells (get_or (get_or rs i []) 0 0) empty_version (get_or meta FREE 0) → Giving (i + 1) meta' cells'
        unfolding fold give_back
        giving_next meta' cells' em ec =
            let len = ap length ec ∙ length_put cells (get_or (get_or rs i []) 0 0) empty_version (get_or meta FREE 0) in
            record {
              ahead = all_cells cells cells' len (rest (i + 1)) (rw (rest_next i h) at g.ahead).1;
              same = λ r s. rw (em, ec) (rw (rest_next i h) at (g.same r s));
            }

  pub giving_start : (meta : List ℕ) (cells : List (List ℕ)) → AllCells cells (fronts rs 0 (length rs)) → Giving (fronts rs 0 (length rs)) meta cells 0 meta cells
  giving_start meta cells a =
      let e : rest 0 ≡ fronts rs 0 (length rs) = rw (sub-zero (length rs)) refl in
      record { ahead = rw e a; same = λ r s. rw e refl }
