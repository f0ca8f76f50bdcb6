-- The records of a whole text, and that it may be cut into pieces anywhere.
use Rattle.std.specs.Prelude.{ℕ, suc, ◌≤◌, Bool, true, false, List, [], ◌∷◌, ◌++◌, ◌≡◌, refl, length, take, drop}
use Rattle.std.proofs.Common.{append-nil, append_assoc, sym, ap, ◌∙◌, arith}
use Rattle.std.proofs.Math.Option.{Option, none, some}
use Rattle.std.proofs.lemmas.List.{drop-append-le, take-append-le}
use Rattle.pieces.specs.Ends.{is_end, further, first_end}
use Rattle.pieces.specs.Texts.{onto, records, Where, joined, Reads, later, here, last_one, finished, hands_out, keeps}

-- ---- the definition by first ends
unended : (o : Option ℕ) → further o ≡ none → o ≡ none
unended none q = refl
unended (some k) q = absurd (let z : ◌≡◌ {A = ℕ} 0 1 = cc in omega arith)

-- where the first two bytes are no end, it is one byte further than in what follows
pub one_further : (a b : ℕ) (l : List ℕ) → is_end a b ≡ false → first_end (a ∷ b ∷ l) ≡ further (first_end (b ∷ l))
unfolding first_end
one_further a b l q = rw q

pub no_end_further : (a b : ℕ) (l : List ℕ) → first_end (a ∷ b ∷ l) ≡ none → (is_end a b ≡ false) × (first_end (b ∷ l) ≡ none)
unfolding first_end
no_end_further a b l e = by (is_end a b) refl
  where
    by : (t : Bool) → is_end a b ≡ t → (is_end a b ≡ false) × (first_end (b ∷ l) ≡ none)
    by true q = absurd (let f : ◌≡◌ {A = Option ℕ} (some 0) none = rw q at e in let z : ◌≡◌ {A = ℕ} 0 1 = cc in omega arith)
    by false q = (q, unended (first_end (b ∷ l)) (rw q at e))

pub end_where : (a b : ℕ) (l : List ℕ) (k : ℕ) → first_end (a ∷ b ∷ l) ≡ some k → Where a b l k
unfolding first_end
end_where a b l k e = by (is_end a b) refl
  where
    on : is_end a b ≡ false → (o : Option ℕ) → first_end (b ∷ l) ≡ o → further o ≡ some k → Where a b l k
    on q none f g = absurd (let z : ◌≡◌ {A = ℕ} 0 1 = cc in omega arith)
    on q (some j) f g = later j q (cc) f

    by : (t : Bool) → is_end a b ≡ t → Where a b l k
    by true q = let f : some 0 ≡ some k = rw q at e in here q (cc)
    by false q = on q (first_end (b ∷ l)) refl (rw q at e)

pub no_end_nil : (k : ℕ) → first_end [] ≡ some k → ⊥
unfolding first_end
no_end_nil k e = let z : ◌≡◌ {A = ℕ} 0 1 = cc in omega arith

pub no_end_one : (a k : ℕ) → first_end (a ∷ []) ≡ some k → ⊥
unfolding first_end
no_end_one a k e = let z : ◌≡◌ {A = ℕ} 0 1 = cc in omega arith

-- a text without an end is one record, or none where it is empty
pub no_end_one_record : (a : ℕ) (l : List ℕ) → first_end (a ∷ l) ≡ none → records (a ∷ l) ≡ (a ∷ l) ∷ []
unfolding records
no_end_one_record a [] e = refl
no_end_one_record a (b ∷ l) e = rw (no_end_further a b l e).0 (ap (onto a) (no_end_one_record b l (no_end_further a b l e).1))

-- what stands before the first end is the first record, what stands after it has the others
pub first_end_first_record : (s : List ℕ) (k : ℕ) → first_end s ≡ some k → records s ≡ take k s ∷ records (drop (suc (suc k)) s)
unfolding records
first_end_first_record [] k e = absurd (no_end_nil k e)
first_end_first_record (a ∷ []) k e = absurd (no_end_one a k e)
first_end_first_record (a ∷ b ∷ l) k e = by (first_end_first_record (b ∷ l)) (end_where a b l k e)
  where
    by : ((j : ℕ) → first_end (b ∷ l) ≡ some j → records (b ∷ l) ≡ take j (b ∷ l) ∷ records (drop (suc (suc j)) (b ∷ l)))
        → Where a b l k → records (a ∷ b ∷ l) ≡ take k (a ∷ b ∷ l) ∷ records (drop (suc (suc k)) (a ∷ b ∷ l))
    by r (here q z) = rw (q, z)
    by r (later j q z f) = rw (q, z) (ap (onto a) (r j f))

-- an end stays the first, whatever comes after it
pub first_end_stays : (s t : List ℕ) (k : ℕ) → first_end s ≡ some k → first_end (s ++ t) ≡ some k
unfolding first_end
first_end_stays [] t k e = absurd (no_end_nil k e)
first_end_stays (a ∷ []) t k e = absurd (no_end_one a k e)
first_end_stays (a ∷ b ∷ l) t k e = by (first_end_stays (b ∷ l) t) (end_where a b l k e)
  where
    by : ((j : ℕ) → first_end (b ∷ l) ≡ some j → first_end (b ∷ (l ++ t)) ≡ some j) → Where a b l k → first_end (a ∷ b ∷ (l ++ t)) ≡ some k
    by r (here q z) = rw (q, z)
    by r (later j q z f) = rw (q, z) (ap further (r j f))

-- an end stands within its text
pub end_within : (s : List ℕ) (k : ℕ) → first_end s ≡ some k → suc (suc k) ≤ length s
end_within [] k e = absurd (no_end_nil k e)
end_within (a ∷ []) k e = absurd (no_end_one a k e)
end_within (a ∷ b ∷ l) k e = by (end_within (b ∷ l)) (end_where a b l k e)
  where
    by : ((j : ℕ) → first_end (b ∷ l) ≡ some j → suc (suc j) ≤ suc (length l)) → Where a b l k → suc (suc k) ≤ suc (suc (length l))
    by r (here q z) = omega arith
    by r (later j q z f) = omega (arith, r j f)

-- however a text is cut into pieces, its records are handed out, in order, each once
pub pieces_change_nothing : {p : List ℕ} {ss rs : List (List ℕ)} → Reads p ss rs → rs ≡ records (p ++ joined ss)
unfolding records
pieces_change_nothing (hands_out {p} {s} {ss} {rs} {k} e t) =
    let q : (p ++ s) ++ joined ss ≡ p ++ (s ++ joined ss) = append_assoc p s (joined ss) in
    let h : suc (suc k) ≤ length (p ++ s) = end_within (p ++ s) k e in
    let d : drop (suc (suc k)) ((p ++ s) ++ joined ss) ≡ drop (suc (suc k)) (p ++ s) ++ joined ss = drop-append-le (suc (suc k)) (p ++ s) (joined ss) h in
    let f : take k ((p ++ s) ++ joined ss) ≡ take k (p ++ s) = take-append-le k (p ++ s) (joined ss) (omega arith) in
    let r : records ((p ++ s) ++ joined ss) ≡ take k ((p ++ s) ++ joined ss) ∷ records (drop (suc (suc k)) ((p ++ s) ++ joined ss)) =
    first_end_first_record ((p ++ s) ++ joined ss) k (first_end_stays (p ++ s) (joined ss) k e) in
    let i : rs ≡ records (drop (suc (suc k)) (p ++ s) ++ joined ss) = pieces_change_nothing t in
    rw (sym q) (sym (r ∙ rw (f, d) (ap (λ (l : List (List ℕ)). take k (p ++ s) ∷ l) (sym i))))
pieces_change_nothing (keeps {p} {s} {ss} {rs} e t) = pieces_change_nothing t ∙ ap records (append_assoc p s (joined ss))
pieces_change_nothing (last_one {a} {l} e) = sym (ap records (append-nil (a ∷ l)) ∙ no_end_one_record a l e)
pieces_change_nothing finished = refl
