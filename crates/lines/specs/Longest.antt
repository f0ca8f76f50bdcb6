-- How long a record can be that means a call.
use Rattle.std.specs.Prelude.{ℕ, zero, suc, ◌+◌, ◌-◌, ◌*◌, ◌<◌, Bool, true, false, Option, None, Some, List, [], ◌∷◌, ◌≡◌, refl, eqb, ltb, length, take}
use Rattle.std.proofs.Common.{sym, ap, ◌∙◌, arith, length-take, take_all, ltb-true, ltb-false}
use Rattle.digits.specs.Numbers.{number_of, most}
use Rattle.digits.specs.Laws.{too_long_for_a_number}
use Rattle.lines.specs.declared.Line.{Line}
use Rattle.lines.specs.declared.Word.{Word}
use Rattle.lines.specs.Lines.{onto, joined, split, word_of, w_store, w_begin, w_read, w_write, w_commit, w_abort, w_vacuum, w_find, number, done, keyed, call, line_of, meaning}
use Rattle.lines.specs.Fields.{numbered}
use Rattle.lines.specs.Words.{same_lengths}

-- the longest: a word of six bytes, and four numbers of twenty, each after its comma
abbrev pub longest : ℕ
longest = 90

-- the bytes of fields, each with the comma before it
abbrev total : List (List ℕ) → ℕ
total [] = 0
total (f ∷ fs) = suc (length f) + total fs

total_onto : (b : ℕ) (fs : List (List ℕ)) → 0 < total fs → total (onto b fs) ≡ suc (total fs)
total_onto b [] h = absurd (omega arith)
total_onto b (f ∷ fs) h = omega arith

total_split : (s : List ℕ) → total (split s) ≡ suc (length s)
unfolding split
total_split [] = refl
total_split (b ∷ l) = by (eqb b 44) (total_split l)
  where
    by : (t : Bool) → total (split l) ≡ suc (length l) → total (joined t b (split l)) ≡ suc (suc (length l))
    by true e = omega arith
    by false e = total_onto b (split l) (omega arith) ∙ ap suc e

-- nothing after the last field
done_long : (x : Line) (fs : List (List ℕ)) → 0 < total fs → done x fs ≡ Line.Other
unfolding done
done_long x [] h = absurd (omega arith)
done_long x (f ∷ fs) h = refl

-- a number takes twenty bytes at most, and its comma
number_long : (m : ℕ) (k : ℕ → List (List ℕ) → Line) → ((n : ℕ) (fs : List (List ℕ)) → m < total fs → k n fs ≡ Line.Other)
    → (fs : List (List ℕ)) → m + 21 < total fs → number k fs ≡ Line.Other
unfolding number
number_long m k rest [] h = absurd (omega arith)
number_long m k rest (f ∷ fs) h = by (ltb most (length f)) refl
  where
    on : m < total fs → (o : Option ℕ) → number_of f ≡ o → number k (f ∷ fs) ≡ Line.Other
    on g None e = rw e
    on g (Some n) e = rw e (rest n fs g)

    by : (t : Bool) → ltb most (length f) ≡ t → number k (f ∷ fs) ≡ Line.Other
    by true e = rw (too_long_for_a_number f (ltb-true most (length f) e))
    by false e = on (omega (arith, ltb-false most (length f) e)) (number_of f) refl

-- so do n numbers
numbered_long : (n m : ℕ) (k : ℕ → ℕ → ℕ → List (List ℕ) → Line) → ((a b c : ℕ) (fs : List (List ℕ)) → m < total fs → k a b c fs ≡ Line.Other)
    → (a b c : ℕ) (fs : List (List ℕ)) → m + 21 * n < total fs → numbered n k a b c fs ≡ Line.Other
numbered_long zero m k rest a b c fs h = rest a b c fs (omega arith)
numbered_long (suc n) m k rest a b c fs h = number_long (m + 21 * n) (λ v. numbered n k b c v) (λ v. numbered_long n m k rest b c v) fs (omega arith)

keyed_long : (a b c : ℕ) (fs : List (List ℕ)) → 21 < total fs → keyed a b c fs ≡ Line.Other
unfolding keyed
keyed_long a b c [] h = absurd (omega arith)
keyed_long a b c ([] ∷ fs) h = done_long (Line.Delete a b c) fs (omega arith)
keyed_long a b c ((d ∷ f) ∷ fs) h = number_long 0 (λ key. done (Line.Write a b c key)) (λ key. done_long (Line.Write a b c key)) ((d ∷ f) ∷ fs) h

call_long : (w : Word) (fs : List (List ℕ)) → 84 < total fs → call w fs ≡ Line.Other
unfolding call
call_long Word.Store fs h = numbered_long 2 0 (λ x n r. done (Line.Store n r)) (λ x n r. done_long (Line.Store n r)) 0 0 0 fs (omega arith)
call_long Word.Begin fs h = done_long Line.Begin fs (omega arith)
call_long Word.Read fs h = numbered_long 3 0 (λ slot id row. done (Line.Read slot id row)) (λ slot id row. done_long (Line.Read slot id row)) 0 0 0 fs (omega arith)
call_long Word.Write fs h = numbered_long 3 21 keyed keyed_long 0 0 0 fs (omega arith)
call_long Word.Commit fs h = numbered_long 2 0 (λ x slot id. done (Line.Commit slot id)) (λ x slot id. done_long (Line.Commit slot id)) 0 0 0 fs (omega arith)
call_long Word.Abort fs h = numbered_long 2 0 (λ x slot id. done (Line.Abort slot id)) (λ x slot id. done_long (Line.Abort slot id)) 0 0 0 fs (omega arith)
call_long Word.Vacuum fs h = numbered_long 2 0 (λ x row request. done (Line.Vacuum row request)) (λ x row request. done_long (Line.Vacuum row request)) 0 0 0 fs (omega arith)
call_long Word.Find fs h = numbered_long 3 0 (λ slot id key. done (Line.Find slot id key)) (λ slot id key. done_long (Line.Find slot id key)) 0 0 0 fs (omega arith)
call_long Word.Other fs h = refl

-- no word of a call is longer than six bytes
word_long : (w : List ℕ) → 6 < length w → word_of w ≡ Word.Other
unfolding word_of
word_long w h =
    rw (
      same_lengths w w_store (λ e. omega arith),
      same_lengths w w_begin (λ e. omega arith),
      same_lengths w w_read (λ e. omega arith),
      same_lengths w w_write (λ e. omega arith),
      same_lengths w w_commit (λ e. omega arith),
      same_lengths w w_abort (λ e. omega arith),
      same_lengths w w_vacuum (λ e. omega arith),
      same_lengths w w_find (λ e. omega arith),
    )

-- a longer record means no call
pub too_long_for_a_call : (s : List ℕ) → longest < length s → meaning s ≡ Line.Other
unfolding meaning line_of call
too_long_for_a_call s h = by (split s) (total_split s)
  where
    on : (w : List ℕ) (fs : List (List ℕ)) → longest < total (w ∷ fs) - 1 → (t : Bool) → ltb 6 (length w) ≡ t → line_of (w ∷ fs) ≡ Line.Other
    on w fs g true e = rw (word_long w (ltb-true 6 (length w) e))
    on w fs g false e = call_long (word_of w) fs (omega (arith, ltb-false 6 (length w) e))

    by : (fs : List (List ℕ)) → total fs ≡ suc (length s) → line_of fs ≡ Line.Other
    by [] e = absurd (omega arith)
    by (w ∷ fs) e = on w fs (omega arith) (ltb 6 (length w)) refl

-- so it may be cut short: what is left means the same
pub cut_means_the_same : (n : ℕ) (s : List ℕ) → longest < n → meaning (take n s) ≡ meaning s
cut_means_the_same n s h = by (ltb n (length s)) refl
  where
    by : (t : Bool) → ltb n (length s) ≡ t → meaning (take n s) ≡ meaning s
    by true e =
        let g : n < length s = ltb-true n (length s) e in
        let f : longest < length (take n s) = rw (length-take n s) (omega arith) in
        too_long_for_a_call (take n s) f ∙ sym (too_long_for_a_call s (omega arith))
    by false e = ap meaning (take_all n s (ltb-false n (length s) e))
