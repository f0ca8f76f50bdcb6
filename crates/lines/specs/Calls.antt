-- A record read as a call: the word first, its numbers, and what follows them.
use Rattle.std.specs.Prelude.{ℕ, Option, Some, List, [], ◌≡◌, refl, length, take}
use Rattle.std.proofs.Common.{sym, ◌∙◌, arith}
use Rattle.std.proofs.Math.Path.{ap}
use Rattle.std.proofs.Math.Nat.{sub-zero}
use Rattle.lines.specs.declared.Line.{Line}
use Rattle.lines.specs.declared.Word.{Word}
use Rattle.lines.specs.declared.Numbers.{Numbers}
use Rattle.lines.specs.Lines.{word_of, done, keyed, call, line_of, meaning}
use Rattle.lines.specs.Fields.{rest, Cut, Counted, numbered, numbers_end, rest_none}

-- how many numbers follow a word; a write's key comes after them
abbrev pub numbers_of : Word → ℕ
numbers_of Word.Store = 2
numbers_of Word.Begin = 0
numbers_of Word.Read = 3
numbers_of Word.Write = 3
numbers_of Word.Commit = 2
numbers_of Word.Abort = 2
numbers_of Word.Vacuum = 2
numbers_of Word.Find = 3
numbers_of Word.Other = 0

-- the call of a word and its numbers, for the fields after them
unfoldable pub ending : Word → ℕ → ℕ → ℕ → List (List ℕ) → Line
ending Word.Store a b c = done (Line.Store b c)
ending Word.Begin a b c = done Line.Begin
ending Word.Read a b c = done (Line.Read a b c)
ending Word.Write a b c = keyed a b c
ending Word.Commit a b c = done (Line.Commit b c)
ending Word.Abort a b c = done (Line.Abort b c)
ending Word.Vacuum a b c = done (Line.Vacuum b c)
ending Word.Find a b c = done (Line.Find a b c)
ending Word.Other a b c = λ fs. Line.Other

-- every call is its numbers, then its ending
call_is : (w : Word) (fs : List (List ℕ)) → call w fs ≡ numbered (numbers_of w) (ending w) 0 0 0 fs
unfolding call ending
call_is Word.Store fs = refl
call_is Word.Begin fs = refl
call_is Word.Read fs = refl
call_is Word.Write fs = refl
call_is Word.Commit fs = refl
call_is Word.Abort fs = refl
call_is Word.Vacuum fs = refl
call_is Word.Find fs = refl
call_is Word.Other fs = refl

-- w is the word that the code found, which ends at e, n how many numbers it looked for, r what it found of them
module _ (s : List ℕ) (e : ℕ) (cut : Cut s 0 e) (w : Word) (found : w ≡ word_of (take e s)) (n : ℕ) (many : n ≡ numbers_of w) where
  worded : meaning s ≡ call w (rest s e)
  unfolding meaning line_of
  worded = ap line_of cut.fields ∙ rw (sub-zero e) (ap (λ (w : Word). call w (rest s e)) (sym found))

  pub means : (r : Option Numbers) → Counted s e n r → numbers_end (ending w) s r ≡ meaning s
  means r t = sym (worded ∙ call_is w (rest s e) ∙ ap (λ (n : ℕ). numbered n (ending w) 0 0 0 (rest s e)) (sym many) ∙ t.all (ending w))

  pub means_all : (x : Numbers) → Counted s e n (Some x) → x.end ≡ length s → ending w x.a x.b x.c [] ≡ meaning s
  means_all x t h = ap (ending w x.a x.b x.c) (sym (rest_none s x.end (omega arith))) ∙ means (Some x) t
