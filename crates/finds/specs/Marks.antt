-- The rows that a lookup reads, as marks: what marking and testing a list of rows comes to, member by member.
use Rattle.std.specs.Prelude.{ℕ, ◌+◌, ◌-◌, ◌<◌, ◌≤◌, Bool, true, false, ◌||◌, cond, ◌≡◌, refl, length, get_or, set, eqb, leb}
use mathlib.Core.List.{List, [], ◌∷◌}
use Rattle.std.proofs.Math.Path.{ap}
use Rattle.std.proofs.Common.{◌∙◌, length-set, get_or-set_same, get_or-set_other, eq-eqb, ne_eqb}
use Rattle.std.proofs.lemmas.Bool.{lt-leb}
use Rattle.kinds.specs.Verdict.{Fine, Refused}
use Rattle.words.specs.Sizes.{base}
use Rattle.rules.specs.Numbers.{bad_row, damaged}
use Rattle.words.specs.Lists.{has, fold, nonzero}
use Rattle.words.specs.Slots.{write, threes}
use Rattle.words.specs.WordLaws.{threes_step, threes_done}
use Rattle.rules.specs.Lookup.{own_rows}
use Rattle.rules.specs.Outcome.{Test, test, each}
use Rattle.rules.specs.Verdicts.{verdict}
use Rattle.rules.proofs.Verdicts.{verdict_none, verdict_each}
use Rattle.rules.proofs.Theory.Cases.{by_bool, by_eq}

-- rows that no store has are passed over
unfoldable pub marked : ℕ → List ℕ → List ℕ
marked r marks = cond (leb base.rows r) marks (set marks r 1)

-- 6: a candidate at R or above. 15: an own row there
abbrev pub candidate_test : ℕ → ℕ → List Test
candidate_test r q = test (leb r q) bad_row q ∷ []

abbrev pub own_row_test : ℕ → ℕ → List Test
own_row_test r q = test (leb r q) damaged 0 ∷ []

-- ---- the rows of a write set, as its entries lie from word a on

module _ (t : List ℕ) (a k : ℕ) where
  pub own_rows_next : 0 < k → own_rows (threes write t a k) ≡ get_or t a 0 ∷ own_rows (threes write t (a + 3) (k - 1))
  own_rows_next h = ap own_rows (threes_step write t a k h)

  pub own_rows_end : k ≤ 0 → own_rows (threes write t a k) ≡ []
  own_rows_end h = ap own_rows (threes_done write t a k h)

-- ---- one member more, of a list l that is x and l'

module _ (l l' : List ℕ) (x : ℕ) (e : l ≡ x ∷ l') where
  pub marks_next : (marks : List ℕ) → fold marked l marks ≡ fold marked l' (marked x marks)
  unfolding fold
  marks_next marks = rw e

  module _ (f : ℕ → List Test) (b : Bool) (k v : ℕ) (one : f x ≡ test b k v ∷ []) where
    pub tests_stop : b ≡ true → verdict (each f l) ≡ Refused k v
    unfolding verdict
    tests_stop h = ap (λ (l : List ℕ). verdict (each f l)) e ∙ verdict_each f x l' ∙ rw (one, h)

    pub tests_next : b ≡ false → verdict (each f l) ≡ verdict (each f l')
    unfolding verdict
    tests_next h = ap (λ (l : List ℕ). verdict (each f l)) e ∙ verdict_each f x l' ∙ rw (one, h)

pub marks_end : (l marks : List ℕ) → l ≡ [] → fold marked l marks ≡ marks
unfolding fold
marks_end l marks e = rw e

pub tests_end : (f : ℕ → List Test) (l : List ℕ) → l ≡ [] → verdict (each f l) ≡ Fine
tests_end f l e = ap (λ (l : List ℕ). verdict (each f l)) e ∙ verdict_none f

-- ---- a mark is set where the row is in the list, or was marked before

marked_length : (x : ℕ) (marks : List ℕ) → length (marked x marks) ≡ length marks
unfolding marked
marked_length x marks = by_bool (leb base.rows x) (λ e. rw e) (λ e. rw e (length-set marks x 1))

mark_one : (x r : ℕ) (marks : List ℕ) → r < length marks → r < base.rows → nonzero (get_or (marked x marks) r 0) ≡ (eqb r x || nonzero (get_or marks r 0))
unfolding marked
mark_one x r marks h b =
    by_eq r x
    (λ e. rw (eq-eqb r x e, ← e, lt-leb base.rows r b, get_or-set_same marks r 1 0 h))
    (λ n. by_bool (leb base.rows x) (λ e. rw (ne_eqb r x n, e)) (λ e. rw (ne_eqb r x n, e, get_or-set_other marks x r 1 0 n)))

or_swap : (a b c : Bool) → (a || (b || c)) ≡ ((b || a) || c)
or_swap true true c = refl
or_swap true false c = refl
or_swap false true c = refl
or_swap false false c = refl

pub marks_length : (l marks : List ℕ) → length (fold marked l marks) ≡ length marks
unfolding fold
marks_length [] marks = refl
marks_length (x ∷ l) marks = marks_length l (marked x marks) ∙ marked_length x marks

pub marks_has : (r : ℕ) (l marks : List ℕ) → r < length marks → r < base.rows → nonzero (get_or (fold marked l marks) r 0) ≡ (has r l || nonzero (get_or marks r 0))
unfolding fold has
marks_has r [] marks h b = refl
marks_has r (x ∷ l) marks h b =
    let q : r < length (marked x marks) = rw (marked_length x marks) h in
    marks_has r l (marked x marks) q b ∙ rw (mark_one x r marks h b) (or_swap (has r l) (eqb r x) (nonzero (get_or marks r 0)))
