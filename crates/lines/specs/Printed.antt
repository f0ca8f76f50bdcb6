-- A call printed as a record, and the law that the record is read back as that call.
use Rattle.std.specs.Prelude.{ℕ, ◌^◌, ◌<◌, Bool, true, false, not, ◌&&◌, List, [], ◌∷◌, ◌++◌, ◌≡◌, refl, eqb, leb}
use Rattle.std.proofs.Common.{append-nil, sym, ap, ◌∙◌, arith, ne_eqb, leb-true}
use Rattle.digits.specs.Numbers.{is_digit, all_digits, leads, digits, most}
use Rattle.digits.specs.Laws.{spell_digits, digits_lead, round_trip}
use Rattle.lines.specs.declared.Line.{Line}
use Rattle.lines.specs.Lines.{split, same, word_of, w_store, w_begin, w_read, w_write, w_commit, w_abort, w_vacuum, w_find, number, done, keyed, call, line_of, meaning}
use Rattle.lines.specs.Fields.{after}

-- a comma and a number
abbrev pub a_field : ℕ → List ℕ
a_field n = 44 ∷ digits n

-- no call is the empty record
unfoldable pub printed : Line → List ℕ
printed (Line.Store n r) = w_store ++ (a_field n ++ a_field r)
printed Line.Begin = w_begin
printed (Line.Read slot id row) = w_read ++ (a_field slot ++ (a_field id ++ a_field row))
printed (Line.Write slot id row key) = w_write ++ (a_field slot ++ (a_field id ++ (a_field row ++ a_field key)))
printed (Line.Delete slot id row) = w_write ++ (a_field slot ++ (a_field id ++ (a_field row ++ (44 ∷ []))))
printed (Line.Commit slot id) = w_commit ++ (a_field slot ++ a_field id)
printed (Line.Abort slot id) = w_abort ++ (a_field slot ++ a_field id)
printed (Line.Vacuum row request) = w_vacuum ++ (a_field row ++ a_field request)
printed (Line.Find slot id key) = w_find ++ (a_field slot ++ (a_field id ++ a_field key))
printed Line.Other = []

abbrev pub Word64 : ℕ → Type 0
Word64 n = n < 2 ^ 64

-- every number of the call is one of the code's
abbrev pub Small : Line → Type 0
Small (Line.Store n r) = Word64 n × Word64 r
Small Line.Begin = 0 < 1
Small (Line.Read slot id row) = Word64 slot × (Word64 id × Word64 row)
Small (Line.Write slot id row key) = Word64 slot × (Word64 id × (Word64 row × Word64 key))
Small (Line.Delete slot id row) = Word64 slot × (Word64 id × Word64 row)
Small (Line.Commit slot id) = Word64 slot × Word64 id
Small (Line.Abort slot id) = Word64 slot × Word64 id
Small (Line.Vacuum row request) = Word64 row × Word64 request
Small (Line.Find slot id key) = Word64 slot × (Word64 id × Word64 key)
Small Line.Other = 0 < 1

-- ---- fields side by side are told apart

-- no comma in it
abbrev plain : List ℕ → Bool
plain [] = true
plain (b ∷ l) = not (eqb b 44) && plain l

-- the end, or a comma
abbrev opens : List ℕ → Bool
opens [] = true
opens (b ∷ l) = eqb b 44

split_open : (l : List ℕ) → opens l ≡ true → split l ≡ [] ∷ after l
unfolding split after
split_open [] e = refl
split_open (b ∷ l) e = rw e

apart : (t u : Bool) → (not t && u) ≡ true → (t ≡ false) × (u ≡ true)
apart true u e = absurd (let z : ◌≡◌ {A = ℕ} 0 1 = cc in omega arith)
apart false u e = (refl, e)

split_field : (p l : List ℕ) → plain p ≡ true → opens l ≡ true → split (p ++ l) ≡ p ∷ after l
unfolding split
split_field [] l e f = split_open l f
split_field (b ∷ p) l e f = rw ((apart (eqb b 44) (plain p) e).0, split_field p l (apart (eqb b 44) (plain p) e).1 f)

both : (t u : Bool) → (t && u) ≡ true → (t ≡ true) × (u ≡ true)
both true u e = (refl, e)
both false u e = absurd (let z : ◌≡◌ {A = ℕ} 0 1 = cc in omega arith)

digits_plain : (p : List ℕ) → all_digits p ≡ true → plain p ≡ true
unfolding all_digits
digits_plain [] e = refl
digits_plain (b ∷ p) e =
    let d : is_digit b ≡ true = (both (is_digit b) (all_digits p) e).0 in
    let h : leb 48 b ≡ true = (both (leb 48 b) (leb b 57) d).0 in
    rw (ne_eqb b 44 (λ q. omega (arith, leb-true 48 b h)), digits_plain p (both (is_digit b) (all_digits p) e).1)

-- ---- a field printed is read back

field_apart : (n : ℕ) (l : List ℕ) → opens l ≡ true → after (a_field n ++ l) ≡ digits n ∷ after l
unfolding after
field_apart n l f = split_field (digits n) l (digits_plain (digits n) (spell_digits most n)) f

number_field : (k : ℕ → List (List ℕ) → Line) (n : ℕ) (l : List ℕ) → Word64 n → opens l ≡ true → number k (after (a_field n ++ l)) ≡ k n (after l)
unfolding number
number_field k n l h f = rw (field_apart n l f, round_trip n h)

number_last : (k : ℕ → List (List ℕ) → Line) (n : ℕ) → Word64 n → number k (after (a_field n)) ≡ k n []
unfolding after
number_last k n h = ap (λ (l : List ℕ). number k (after l)) (sym (append-nil (a_field n))) ∙ number_field k n [] h refl

keyed_some : (x y z : ℕ) (p : List ℕ) (fs : List (List ℕ)) → leads p ≡ true → keyed x y z (p ∷ fs) ≡ number (λ key. done (Line.Write x y z key)) (p ∷ fs)
unfolding keyed leads
keyed_some x y z [] fs e = absurd (let z : ◌≡◌ {A = ℕ} 0 1 = cc in omega arith)
keyed_some x y z (b ∷ p) fs e = refl

keyed_last : (x y z n : ℕ) → Word64 n → keyed x y z (after (a_field n)) ≡ Line.Write x y z n
unfolding after done
keyed_last x y z n h =
    let e : after (a_field n) ≡ digits n ∷ [] = ap after (sym (append-nil (a_field n))) ∙ field_apart n [] refl in
    ap (keyed x y z) e ∙ keyed_some x y z (digits n) [] (digits_lead n h) ∙ ap (number (λ key. done (Line.Write x y z key))) (sym e)
    ∙ number_last (λ key. done (Line.Write x y z key)) n h

worded : (w l : List ℕ) → plain w ≡ true → opens l ≡ true → meaning (w ++ l) ≡ call (word_of w) (after l)
unfolding meaning line_of
worded w l e f = ap line_of (split_field w l e f)

two_back : (k : ℕ → ℕ → Line) (a b : ℕ) → Word64 a → Word64 b → number (λ a. number (λ b. done (k a b))) (after (a_field a ++ a_field b)) ≡ k a b
unfolding done
two_back k a b f g = number_field (λ a. number (λ b. done (k a b))) a (a_field b) f refl ∙ number_last (λ b. done (k a b)) b g

then_back : (k : ℕ → ℕ → ℕ → List (List ℕ) → Line) (a b c : ℕ) (l : List ℕ) → Word64 a → Word64 b → Word64 c → opens l ≡ true
    → number (λ a. number (λ b. number (λ c. k a b c))) (after (a_field a ++ (a_field b ++ (a_field c ++ l)))) ≡ k a b c (after l)
then_back k a b c l f g h e =
    number_field (λ a. number (λ b. number (λ c. k a b c))) a (a_field b ++ (a_field c ++ l)) f refl
    ∙ number_field (λ b. number (λ c. k a b c)) b (a_field c ++ l) g refl
    ∙ number_field (λ c. k a b c) c l h e

three_back : (k : ℕ → ℕ → ℕ → Line) (a b c : ℕ) → Word64 a → Word64 b → Word64 c
    → number (λ a. number (λ b. number (λ c. done (k a b c)))) (after (a_field a ++ (a_field b ++ a_field c))) ≡ k a b c
unfolding done
three_back k a b c f g h =
    number_field (λ a. number (λ b. number (λ c. done (k a b c)))) a (a_field b ++ a_field c) f refl
    ∙ number_field (λ b. number (λ c. done (k a b c))) b (a_field c) g refl
    ∙ number_last (λ c. done (k a b c)) c h

-- a call printed as a record is read as that call
pub read_back : (l : Line) → Small l → meaning (printed l) ≡ l
unfolding printed call word_of same keyed done after split meaning line_of
read_back (Line.Store n r) h =
    worded w_store (a_field n ++ a_field r) refl refl ∙ two_back (λ n r. Line.Store n r) n r h.0 h.1
read_back Line.Begin h = refl
read_back (Line.Read slot id row) h =
    worded w_read (a_field slot ++ (a_field id ++ a_field row)) refl refl
    ∙ three_back (λ slot id row. Line.Read slot id row) slot id row h.0 h.1.0 h.1.1
read_back (Line.Write slot id row key) h =
    worded w_write (a_field slot ++ (a_field id ++ (a_field row ++ a_field key))) refl refl
    ∙ then_back keyed slot id row (a_field key) h.0 h.1.0 h.1.1.0 refl
    ∙ keyed_last slot id row key h.1.1.1
read_back (Line.Delete slot id row) h =
    worded w_write (a_field slot ++ (a_field id ++ (a_field row ++ (44 ∷ [])))) refl refl
    ∙ then_back keyed slot id row (44 ∷ []) h.0 h.1.0 h.1.1 refl
read_back (Line.Commit slot id) h =
    worded w_commit (a_field slot ++ a_field id) refl refl ∙ two_back (λ slot id. Line.Commit slot id) slot id h.0 h.1
read_back (Line.Abort slot id) h =
    worded w_abort (a_field slot ++ a_field id) refl refl ∙ two_back (λ slot id. Line.Abort slot id) slot id h.0 h.1
read_back (Line.Vacuum row request) h =
    worded w_vacuum (a_field row ++ a_field request) refl refl ∙ two_back (λ row request. Line.Vacuum row request) row request h.0 h.1
read_back (Line.Find slot id key) h =
    worded w_find (a_field slot ++ (a_field id ++ a_field key)) refl refl
    ∙ three_back (λ slot id key. Line.Find slot id key) slot id key h.0 h.1.0 h.1.1
read_back Line.Other h = refl
