-- A text as the records whose end has come, and what stands behind the last end.
use Rattle.std.specs.Prelude.{ℕ, zero, suc, ◌≤◌, List, [], ◌∷◌, ◌++◌, ◌≡◌, refl, length, take, drop}
use Rattle.std.proofs.Math.Option.{Option, none, some}
use Rattle.std.proofs.Common.{sym, ap, ◌∙◌, arith, length-take, length-drop, take-take}
use Rattle.std.proofs.Math.Seq.{drop-nil}
use Rattle.std.proofs.lemmas.List.{drop-append-le, take-append-le}
use Rattle.pieces.specs.Ends.{further, first_end}
use Rattle.pieces.specs.Texts.{records, Where, here, later}
use Rattle.pieces.proofs.Texts.{end_where, no_end_further, no_end_nil, no_end_one, first_end_first_record, first_end_stays, end_within}
use Rattle.pieces.specs.Parts.{Parts, shut, longer, parts, behind}

-- ---- the definition by first ends
-- without an end all is rest
pub no_end_no_part : (t : List ℕ) → first_end t ≡ none → parts t ≡ record { closed = []; rest = t }
unfolding parts
no_end_no_part [] e = refl
no_end_no_part (a ∷ []) e = refl
no_end_no_part (a ∷ b ∷ l) e = rw (no_end_further a b l e).0 (ap (λ (p : Parts). longer a p.closed p.rest) (no_end_no_part (b ∷ l) (no_end_further a b l e).1))

-- what stands before the first end is the first record that ended
pub first_end_first_part : (t : List ℕ) (k : ℕ) → first_end t ≡ some k → parts t ≡ shut (take k t) (parts (drop (suc (suc k)) t))
unfolding parts
first_end_first_part [] k e = absurd (no_end_nil k e)
first_end_first_part (a ∷ []) k e = absurd (no_end_one a k e)
first_end_first_part (a ∷ b ∷ l) k e = by (first_end_first_part (b ∷ l)) (end_where a b l k e)
  where
    by : ((j : ℕ) → first_end (b ∷ l) ≡ some j → parts (b ∷ l) ≡ shut (take j (b ∷ l)) (parts (drop (suc (suc j)) (b ∷ l))))
        → Where a b l k → parts (a ∷ b ∷ l) ≡ shut (take k (a ∷ b ∷ l)) (parts (drop (suc (suc k)) (a ∷ b ∷ l)))
    by r (here q z) = rw (q, z)
    by r (later j q z f) = rw (q, z) (ap (λ (p : Parts). longer a p.closed p.rest) (r j f))

-- what holds of texts without an end, and of a text where it holds of what stands behind the first end, holds of every text
pub by_ends : (P : List ℕ → Type 0) → ((t : List ℕ) → first_end t ≡ none → P t)
    → ((t : List ℕ) (k : ℕ) → first_end t ≡ some k → P (drop (suc (suc k)) t) → P t) → (t : List ℕ) → P t
by_ends P u v t = within (length t) t (omega arith)
  where
    within : (n : ℕ) (t : List ℕ) → length t ≤ n → P t
    within zero t h = on (first_end t) refl
      where
        on : (o : Option ℕ) → first_end t ≡ o → P t
        on none e = u t e
        on (some k) e = absurd (omega (arith, end_within t k e))
    within (suc n) t h = on (within n) (first_end t) refl
      where
        on : ((s : List ℕ) → length s ≤ n → P s) → (o : Option ℕ) → first_end t ≡ o → P t
        on f none e = u t e
        on f (some k) e = v t k e (f (drop (suc (suc k)) t) (rw (length-drop (suc (suc k)) t) (omega (arith, end_within t k e))))

pub rest_has_no_end : (t : List ℕ) → first_end (parts t).rest ≡ none
rest_has_no_end =
    by_ends (λ t. first_end (parts t).rest ≡ none)
    (λ t e. ap (λ (p : Parts). first_end p.rest) (no_end_no_part t e) ∙ e)
    (λ t k e h. ap (λ (p : Parts). first_end p.rest) (first_end_first_part t k e) ∙ h)

module _ (u : List ℕ) where
  -- the first end is in the first text: it stays, and what stands behind it goes on
  goes_on : (t : List ℕ) (k : ℕ) → first_end t ≡ some k
      → (first_end (t ++ u) ≡ some k) × (take k (t ++ u) ≡ take k t) × (drop (suc (suc k)) (t ++ u) ≡ drop (suc (suc k)) t ++ u)
  goes_on t k e =
      let h : suc (suc k) ≤ length t = end_within t k e in
      (first_end_stays t u k e, take-append-le k t u (omega arith), drop-append-le (suc (suc k)) t u h)

  pub parts_go_on : (t : List ℕ) → parts (t ++ u) ≡ behind (parts t).closed (parts ((parts t).rest ++ u))
  parts_go_on =
      by_ends (λ t. parts (t ++ u) ≡ behind (parts t).closed (parts ((parts t).rest ++ u)))
      (λ t e. sym (ap (λ (p : Parts). behind p.closed (parts (p.rest ++ u))) (no_end_no_part t e)))
      (λ t k e h.
      let g = goes_on t k e in
      first_end_first_part (t ++ u) k g.0 ∙ rw (g.1, g.2) (ap (shut (take k t)) h)
      ∙ sym (ap (λ (p : Parts). behind p.closed (parts (p.rest ++ u))) (first_end_first_part t k e)))

  pub records_go_on : (t : List ℕ) → records (t ++ u) ≡ (parts t).closed ++ records ((parts t).rest ++ u)
  records_go_on =
      by_ends (λ t. records (t ++ u) ≡ (parts t).closed ++ records ((parts t).rest ++ u))
      (λ t e. sym (ap (λ (p : Parts). p.closed ++ records (p.rest ++ u)) (no_end_no_part t e)))
      (λ t k e h.
      let g = goes_on t k e in
      first_end_first_record (t ++ u) k g.0 ∙ rw (g.1, g.2) (ap (λ (l : List (List ℕ)). take k t ∷ l) h)
      ∙ sym (ap (λ (p : Parts). p.closed ++ records (p.rest ++ u)) (first_end_first_part t k e)))

-- ---- a text up to its first end
first_end_taken : (t : List ℕ) (k : ℕ) → first_end t ≡ some k → first_end (take (suc (suc k)) t) ≡ some k
unfolding first_end
first_end_taken [] k e = absurd (no_end_nil k e)
first_end_taken (a ∷ []) k e = absurd (no_end_one a k e)
first_end_taken (a ∷ b ∷ l) k e = by (first_end_taken (b ∷ l)) (end_where a b l k e)
  where
    by : ((j : ℕ) → first_end (b ∷ l) ≡ some j → first_end (b ∷ take (suc j) l) ≡ some j) → Where a b l k → first_end (take (suc (suc k)) (a ∷ b ∷ l)) ≡ some k
    by r (here q z) = rw (z, q)
    by r (later j q z f) = rw (z, q) (ap further (r j f))

pub drop_all : (l : List ℕ) (n : ℕ) → length l ≤ n → drop n l ≡ []
drop_all [] n h = drop-nil n
drop_all (a ∷ l) zero h = absurd (omega arith)
drop_all (a ∷ l) (suc n) h = drop_all l n (omega arith)

-- it is one record, and nothing is left
pub up_to_the_end : (t : List ℕ) (k : ℕ) → first_end t ≡ some k → parts (take (suc (suc k)) t) ≡ record { closed = take k t ∷ []; rest = [] }
unfolding parts
up_to_the_end t k e =
    first_end_first_part (take (suc (suc k)) t) k (first_end_taken t k e)
    ∙ rw (take-take k (suc (suc k)) t (omega arith), drop_all (take (suc (suc k)) t) (suc (suc k)) (rw (length-take (suc (suc k)) t) (omega arith)))
