-- Answer lines: a word, its numbers after commas, and the line's end.
use Rattle.std.specs.Prelude.{ℕ, ◌+◌, ◌*◌, List, [], ◌∷◌, ◌++◌}
use Rattle.digits.specs.Numbers.{digits}

-- a comma and a number
abbrev pub field : ℕ → List ℕ
field n = 44 ∷ digits n

unfoldable pub fields : List ℕ → List ℕ
fields [] = []
fields (n ∷ ns) = field n ++ fields ns

abbrev pub crlf : List ℕ
crlf = 13 ∷ 10 ∷ []

-- the line of a word and its numbers
unfoldable pub answer : List ℕ → List ℕ → List ℕ
answer w ns = w ++ (fields ns ++ crlf)

-- in ASCII
abbrev pub wOk : List ℕ
wOk = 111 ∷ 107 ∷ []

abbrev pub wNone : List ℕ
wNone = 110 ∷ 111 ∷ 110 ∷ 101 ∷ []

abbrev pub wEmpty : List ℕ
wEmpty = 101 ∷ 109 ∷ 112 ∷ 116 ∷ 121 ∷ []

abbrev pub wKey : List ℕ
wKey = 107 ∷ 101 ∷ 121 ∷ []

abbrev pub wRefused : List ℕ
wRefused = 114 ∷ 101 ∷ 102 ∷ 117 ∷ 115 ∷ 101 ∷ 100 ∷ []

-- room that holds a comma and any number
abbrev pub span : ℕ
span = 21

-- room that holds any answer of k numbers
abbrev pub room : ℕ → ℕ
room k = 9 + span * k
