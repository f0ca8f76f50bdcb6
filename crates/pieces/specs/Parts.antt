-- A text as the records whose end has come, and what stands behind the last end.
use Rattle.std.specs.Prelude.{ℕ, cond, List, [], ◌∷◌, ◌++◌}
use Rattle.pieces.specs.Ends.{is_end}

pub record Parts : Type 0 where
  pub closed : List (List ℕ)
  pub rest : List ℕ

-- a record that ended, in front of the others
abbrev pub shut : List ℕ → Parts → Parts
shut r p = record { closed = r ∷ p.closed; rest = p.rest }

-- a byte in front: of the first record that ended, or of the rest where none did
abbrev pub longer : ℕ → List (List ℕ) → List ℕ → Parts
longer a [] q = record { closed = []; rest = a ∷ q }
longer a (r ∷ rs) q = record { closed = (a ∷ r) ∷ rs; rest = q }

unfoldable pub parts : List ℕ → Parts
parts [] = record { closed = []; rest = [] }
parts (a ∷ []) = record { closed = []; rest = a ∷ [] }
parts (a ∷ b ∷ l) = cond (is_end a b) (shut [] (parts l)) (longer a (parts (b ∷ l)).closed (parts (b ∷ l)).rest)

-- ---- one text after another: it goes on with the rest of the first
-- records in front of those that ended
abbrev pub behind : List (List ℕ) → Parts → Parts
behind rs p = record { closed = rs ++ p.closed; rest = p.rest }
