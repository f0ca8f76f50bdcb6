-- Paper 01's twelve worked numbers, together: one table, one test that is computed over it, one lemma.
-- "Reader id 6, xmin 4, xmax 7, active 4 and 6."
use Rattle.std.specs.Prelude.{ℕ, zero, suc, ◌<◌, Bool, true, false, not, ◌&&◌, List, [], ◌∷◌, ◌≡◌, refl, length, get_or}
use Rattle.std.proofs.Common.{not-suc-le-zero, le_of_suc-le-suc, arith}
use Rattle.words.specs.Lists.{has}
use Rattle.kinds.specs.Versions.{version}
use Rattle.words.specs.Slots.{Slot}
use Rattle.kinds.specs.Visible.{creator_visible, visible, conflict}

abbrev reader : Slot
reader = record { id = 6; low = 4; top = 7; active = 4 ∷ 6 ∷ []; writes = []; recs = [] }

-- what is asked: is the version (xmin, xmax) seen? does a record of this xmin conflict with its cell (xmin, xmax)?
pub data Question : Type 0 where
  seen : ℕ → ℕ → Question
  conflicts : ℕ → ℕ → ℕ → Question

pub record Worked : Type 0 where
  pub asked : Question
  pub says : Bool

abbrev pub ruled : Question → Bool
ruled (seen x y) = visible reader (version x y 0 0 0 0 0)
ruled (conflicts r x y) = conflict reader (version x y 0 0 0 0 0) r

abbrev worked : Question → Bool → Worked
worked q b = record { asked = q; says = b }

abbrev pub table : List Worked
table =
    worked (seen 5 0) true
    ∷ worked (seen 6 0) true
    ∷ worked (seen 5 4) true
    ∷ worked (seen 3 7) true
    ∷ worked (seen 4 0) false
    ∷ worked (seen 7 0) false
    ∷ worked (seen 3 5) false
    ∷ worked (seen 3 6) false
    ∷ worked (seen 0 0) false
    ∷ worked (conflicts 3 3 5) false
    ∷ worked (conflicts 3 3 4) true
    ∷ worked (conflicts 3 2 0) true
    ∷ []

-- ---- the test, and what it shows

no_false : false ≡ true → ⊥
no_false h =
    let q : ◌≡◌ {A = ℕ} 0 1 = cc in
    omega arith

abbrev agrees : Bool → Bool → Bool
agrees true b = b
agrees false b = not b

agreed : (a b : Bool) → agrees a b ≡ true → a ≡ b
agreed true true h = refl
agreed true false h = absurd (no_false h)
agreed false true h = absurd (no_false h)
agreed false false h = refl

abbrev right : List Worked → Bool
right [] = true
right (w ∷ l) = agrees (ruled w.asked) w.says && right l

both : (a b : Bool) → a && b ≡ true → (a ≡ true) × (b ≡ true)
both true b h = (refl, h)
both false b h = absurd (no_false h)

right_at : (l : List Worked) (d : Worked) → right l ≡ true → (i : ℕ) → i < length l → ruled (get_or l i d).asked ≡ (get_or l i d).says
right_at [] d t i h = absurd (not-suc-le-zero h)
right_at (w ∷ l) d t zero h = agreed (ruled w.asked) w.says (both (agrees (ruled w.asked) w.says) (right l) t).0
right_at (w ∷ l) d t (suc i) h = right_at l d (both (agrees (ruled w.asked) w.says) (right l) t).1 i (le_of_suc-le-suc h)

-- each of the twelve is as the paper says
pub twelve_worked_numbers : (d : Worked) (i : ℕ) → i < length table → ruled (get_or table i d).asked ≡ (get_or table i d).says
unfolding has creator_visible visible conflict
twelve_worked_numbers d = right_at table d refl
