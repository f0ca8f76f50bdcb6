-- Tests over a slot's list, entry by entry: what a loop knows where it is refused, goes on and ends.
use Rattle.std.specs.Prelude.{ℕ, ◌+◌, ◌-◌, ◌<◌, ◌≤◌, true, false, not, List, [], ◌∷◌, ◌≡◌, ◌≢◌, get_or}
use Rattle.std.proofs.Common.{sym, ap, ◌∙◌, arith, eq-eqb, ne_eqb, le-leb}
use Rattle.std.proofs.lemmas.Bool.{lt-leb}
use Rattle.kinds.specs.Verdict.{Verdict, Fine, Refused}
use Rattle.words.specs.Slots.{threes}
use Rattle.rules.specs.Outcome.{Test, each, is_cell}
use Rattle.rules.specs.Verdicts.{verdict, and_then}
use Rattle.rules.proofs.Verdicts.{verdict_append, verdict_none, verdict_each}
use Rattle.words.specs.WordLaws.{threes_step, threes_done}
use Rattle.rules.proofs.Theory.Cases.{by_bool}
use Rattle.rules.specs.Theory.Guard.{Passed}

-- a list of triples, tested in order
module _ {A : Type 0} (mk : ℕ → ℕ → ℕ → A) (f : A → List Test) (t : List ℕ) (a k : ℕ) where
  pub tests_done : k ≤ 0 → verdict (each f (threes mk t a k)) ≡ Fine
  tests_done h = rw (threes_done mk t a k h) (verdict_none f)

  pub tests_step : 0 < k → verdict (each f (threes mk t a k)) ≡ and_then (verdict (f (mk (get_or t a 0) (get_or t (a + 1) 0) (get_or t (a + 2) 0)))) (verdict (each f (threes mk t (a + 3) (k - 1))))
  tests_step h = rw (threes_step mk t a k h) (verdict_each f _ _)

  -- the member at hand is fine: the rest decides
  pub tests_next : (v : Verdict) → 0 < k → v ≡ verdict (f (mk (get_or t a 0) (get_or t (a + 1) 0) (get_or t (a + 2) 0))) → v ≡ Fine
      → verdict (each f (threes mk t a k)) ≡ verdict (each f (threes mk t (a + 3) (k - 1)))
  tests_next v h e q = tests_step h ∙ ap (λ (u : Verdict). and_then u (verdict (each f (threes mk t (a + 3) (k - 1))))) (sym e ∙ q)

  -- it is refused: so is the list
  pub tests_stop : (v : Verdict) (x y : ℕ) → 0 < k → v ≡ verdict (f (mk (get_or t a 0) (get_or t (a + 1) 0) (get_or t (a + 2) 0))) → v ≡ Refused x y
      → verdict (each f (threes mk t a k)) ≡ v
  tests_stop v x y h e q = tests_step h ∙ ap (λ (u : Verdict). and_then u (verdict (each f (threes mk t (a + 3) (k - 1))))) (sym e ∙ q) ∙ sym q

-- ---- a fine verdict
-- no test fails
pub fine_passed : (l : List Test) → verdict l ≡ Fine → Passed l
unfolding verdict
fine_passed [] h = tt
fine_passed (t ∷ l) h = by_bool t.fails
    (λ e. absurd (let g : Refused t.number t.value ≡ Fine = rw e at h in let z : ◌≡◌ {A = ℕ} 0 1 = cc in omega arith))
    (λ e. (e, fine_passed l (rw e at h)))

-- ---- the first test, judged alone
module _ (t : Test) (v : Verdict) (e : v ≡ verdict (t ∷ [])) where
  pub first_fails : (l : List Test) (x y : ℕ) → v ≡ Refused x y → verdict (t ∷ l) ≡ v
  first_fails l x y q = verdict_append (t ∷ []) l ∙ ap (λ (u : Verdict). and_then u (verdict l)) (sym e ∙ q) ∙ sym q

  pub first_passes : v ≡ Fine → t.fails ≡ false
  first_passes q = (fine_passed (t ∷ []) (sym e ∙ q)).0

-- ---- a cell's number
pub no_cell : (n c : ℕ) → c ≡ 0 → not (is_cell n c) ≡ true
no_cell n c e = rw (eq-eqb c 0 e)

pub past_cell : (n c : ℕ) → c ≢ 0 → n < c → not (is_cell n c) ≡ true
past_cell n c z h = rw (ne_eqb c 0 z, lt-leb c n h)

pub some_cell_lem : (n c : ℕ) → c ≢ 0 → c ≤ n → not (is_cell n c) ≡ false
some_cell_lem n c z h = rw (ne_eqb c 0 z, le-leb c n h)
