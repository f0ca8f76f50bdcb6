-- The end of a record: the first CR that an LF follows.
use Rattle.std.specs.Prelude.{ℕ, suc, Bool, ◌&&◌, cond, List, [], ◌∷◌, eqb}
use Rattle.std.proofs.Math.Option.{Option, none, some}

-- CR and LF
abbrev pub is_end : ℕ → ℕ → Bool
is_end a b = eqb a 13 && eqb b 10

-- one byte further
abbrev pub further : Option ℕ → Option ℕ
further none = none
further (some k) = some (suc k)

-- the bytes before the first end; a lone CR or LF is none
unfoldable pub first_end : List ℕ → Option ℕ
first_end [] = none
first_end (a ∷ []) = none
first_end (a ∷ b ∷ l) = cond (is_end a b) (some 0) (further (first_end (b ∷ l)))
