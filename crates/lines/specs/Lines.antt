-- What a record means: its fields stand between commas, the first is the word of a call, the others are its numbers.
use Rattle.std.specs.Prelude.{ℕ, Bool, true, false, ◌&&◌, cond, Option, None, Some, List, [], ◌∷◌, eqb}
use Rattle.digits.specs.Numbers.{number_of}
use Rattle.lines.specs.declared.Line.{Line}
use Rattle.lines.specs.declared.Word.{Word}

-- ---- fields

-- a byte in front of the first field
abbrev pub onto : ℕ → List (List ℕ) → List (List ℕ)
onto b [] = (b ∷ []) ∷ []
onto b (f ∷ fs) = (b ∷ f) ∷ fs

-- a comma opens a field, any other byte belongs to its field
abbrev pub joined : Bool → ℕ → List (List ℕ) → List (List ℕ)
joined true b fs = [] ∷ fs
joined false b fs = onto b fs

-- the fields of a record: one more than it has commas
unfoldable pub split : List ℕ → List (List ℕ)
split [] = [] ∷ []
split (b ∷ l) = joined (eqb b 44) b (split l)

-- ---- words

unfoldable pub same : List ℕ → List ℕ → Bool
same [] [] = true
same [] (b ∷ m) = false
same (a ∷ l) [] = false
same (a ∷ l) (b ∷ m) = eqb a b && same l m

-- in ASCII
abbrev pub w_store : List ℕ
w_store = 115 ∷ 116 ∷ 111 ∷ 114 ∷ 101 ∷ []

abbrev pub w_begin : List ℕ
w_begin = 98 ∷ 101 ∷ 103 ∷ 105 ∷ 110 ∷ []

abbrev pub w_read : List ℕ
w_read = 114 ∷ 101 ∷ 97 ∷ 100 ∷ []

abbrev pub w_write : List ℕ
w_write = 119 ∷ 114 ∷ 105 ∷ 116 ∷ 101 ∷ []

abbrev pub w_commit : List ℕ
w_commit = 99 ∷ 111 ∷ 109 ∷ 109 ∷ 105 ∷ 116 ∷ []

abbrev pub w_abort : List ℕ
w_abort = 97 ∷ 98 ∷ 111 ∷ 114 ∷ 116 ∷ []

abbrev pub w_vacuum : List ℕ
w_vacuum = 118 ∷ 97 ∷ 99 ∷ 117 ∷ 117 ∷ 109 ∷ []

abbrev pub w_find : List ℕ
w_find = 102 ∷ 105 ∷ 110 ∷ 100 ∷ []

unfoldable pub word_of : List ℕ → Word
word_of w =
    cond (same w w_store) Word.Store
    (cond (same w w_begin) Word.Begin
    (cond (same w w_read) Word.Read
    (cond (same w w_write) Word.Write
    (cond (same w w_commit) Word.Commit
    (cond (same w w_abort) Word.Abort
    (cond (same w w_vacuum) Word.Vacuum
    (cond (same w w_find) Word.Find Word.Other)))))))

-- ---- calls

-- nothing where there is no number
abbrev pub on_number : Option ℕ → (ℕ → Line) → Line
on_number None k = Line.Other
on_number (Some n) k = k n

-- a field that is a number, and then the fields after it
unfoldable pub number : (ℕ → List (List ℕ) → Line) → List (List ℕ) → Line
number k [] = Line.Other
number k (f ∷ fs) = on_number (number_of f) (λ n. k n fs)

-- no field more
unfoldable pub done : Line → List (List ℕ) → Line
done l [] = l
done l (f ∷ fs) = Line.Other

-- the key of a write, the last field: an empty one deletes
unfoldable pub keyed : ℕ → ℕ → ℕ → List (List ℕ) → Line
keyed slot id row [] = Line.Other
keyed slot id row ([] ∷ fs) = done (Line.Delete slot id row) fs
keyed slot id row ((b ∷ f) ∷ fs) = number (λ key. done (Line.Write slot id row key)) ((b ∷ f) ∷ fs)

abbrev pub two : (ℕ → ℕ → Line) → List (List ℕ) → Line
two k = number (λ a. number (λ b. done (k a b)))

abbrev pub three_then : (ℕ → ℕ → ℕ → List (List ℕ) → Line) → List (List ℕ) → Line
three_then k = number (λ a. number (λ b. number (λ c. k a b c)))

abbrev pub three : (ℕ → ℕ → ℕ → Line) → List (List ℕ) → Line
three k = three_then (λ a b c. done (k a b c))

unfoldable pub call : Word → List (List ℕ) → Line
call Word.Store fs = two (λ n r. Line.Store n r) fs
call Word.Begin fs = done Line.Begin fs
call Word.Read fs = three (λ slot id row. Line.Read slot id row) fs
call Word.Write fs = three_then keyed fs
call Word.Commit fs = two (λ slot id. Line.Commit slot id) fs
call Word.Abort fs = two (λ slot id. Line.Abort slot id) fs
call Word.Vacuum fs = two (λ row request. Line.Vacuum row request) fs
call Word.Find fs = three (λ slot id key. Line.Find slot id key) fs
call Word.Other fs = Line.Other

unfoldable pub line_of : List (List ℕ) → Line
line_of [] = Line.Other
line_of (w ∷ fs) = call (word_of w) fs

-- the call that a record is
unfoldable pub meaning : List ℕ → Line
meaning s = line_of (split s)
