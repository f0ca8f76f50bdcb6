-- The records of a whole text, and that it may be cut into pieces anywhere.
use Rattle.std.specs.Prelude.{ℕ, suc, true, false, cond, List, [], ◌∷◌, ◌++◌, ◌≡◌, take, drop}
use Rattle.std.proofs.Math.Option.{none, some}
use Rattle.pieces.specs.Ends.{is_end, first_end}

-- a byte in front of the first record
abbrev pub onto : ℕ → List (List ℕ) → List (List ℕ)
onto b [] = (b ∷ []) ∷ []
onto b (r ∷ rs) = (b ∷ r) ∷ rs

-- the records of a text: CR LF ends one, every other byte belongs to its record, and the last may lack its end
unfoldable pub records : List ℕ → List (List ℕ)
records [] = []
records (a ∷ []) = (a ∷ []) ∷ []
records (a ∷ b ∷ l) = cond (is_end a b) ([] ∷ records l) (onto a (records (b ∷ l)))

-- an end is at the first two bytes, or further
pub data Where (a b : ℕ) (l : List ℕ) (k : ℕ) : Type 0 where
  here : is_end a b ≡ true → k ≡ 0 → Where a b l k
  later : (j : ℕ) → is_end a b ≡ false → k ≡ suc j → first_end (b ∷ l) ≡ some j → Where a b l k

-- ---- pieces
-- the pieces put together again
abbrev pub joined : List (List ℕ) → List ℕ
joined [] = []
joined (s ∷ ss) = s ++ joined ss

-- what a reader of pieces hands out, as `next_record` does: p has come and has no end; the pieces that are still to come; the records
pub data Reads : List ℕ → List (List ℕ) → List (List ℕ) → Type 0 where
  -- in what has come and the next piece a record ends: it is handed out, and the reader goes on behind it
  hands_out : {p s : List ℕ} {ss rs : List (List ℕ)} {k : ℕ} → first_end (p ++ s) ≡ some k → Reads [] (drop (suc (suc k)) (p ++ s) ∷ ss) rs → Reads p (s ∷ ss) (take k (p ++ s) ∷ rs)
  -- no record ends there: the piece is kept with what has come
  keeps : {p s : List ℕ} {ss rs : List (List ℕ)} → first_end (p ++ s) ≡ none → Reads (p ++ s) ss rs → Reads p (s ∷ ss) rs
  -- at the end of the text, what has come is a last record
  last_one : {a : ℕ} {l : List ℕ} → first_end (a ∷ l) ≡ none → Reads (a ∷ l) [] ((a ∷ l) ∷ [])
  -- or nothing has
  finished : Reads [] [] []
