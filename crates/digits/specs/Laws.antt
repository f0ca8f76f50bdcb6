-- Laws of decimal numbers: reading goes digit by digit, spelling goes by the last digit, and what is spelled is read back.
use Rattle.std.specs.Prelude.{ℕ, zero, suc, ◌+◌, ◌*◌, ◌-◌, ◌/◌, ◌%◌, ◌^◌, ◌<◌, ◌≤◌, Bool, true, false, not, ◌&&◌, None, Some, List, [], ◌∷◌, ◌++◌, ◌≡◌, refl, ◌≢◌, eqb, ltb, leb, length, get_or, drop, set}
use Rattle.std.proofs.Common.{sym, ap, ◌∙◌, le_refl, add-zero, mod-eq_of_lt, pow-suc, add-one, arith, length-append, drop_of_length-le}
use Rattle.std.proofs.Math.Nat.{pow-le-pow_right}
use Rattle.std.proofs.lemmas.List.Edits.{sets}
use Rattle.std.proofs.Math.Seq.{drop-cons}
use Rattle.std.proofs.lemmas.List.{set_comm}
use borrow.Author.Tests.{lt-ltb, le-ltb, le-leb, lt-leb, ne_eqb, ltb-true, ltb-false, leb-true, eqb-false, not-true}
use Rattle.digits.specs.Numbers.{is_digit, all_digits, leads, value_on, read_on, number_of, spell, most, digits}

-- ---- a number is read digit by digit

pub leads_none : (s : List ℕ) → length s ≡ 0 → leads s ≡ false
unfolding leads
leads_none [] e = refl
leads_none (b ∷ l) e = absurd (omega arith)

pub leads_one : (s : List ℕ) → length s ≡ 1 → leads s ≡ true
unfolding leads
leads_one [] e = absurd (omega arith)
leads_one (b ∷ []) e = refl
leads_one (b ∷ c ∷ l) e = absurd (omega arith)

pub leads_more : (s : List ℕ) → 1 < length s → leads s ≡ not (eqb (get_or s 0 0) 48)
unfolding leads
leads_more [] h = absurd (omega arith)
leads_more (b ∷ []) h = absurd (omega arith)
leads_more (b ∷ c ∷ l) h = refl

-- a further digit never makes a number smaller
grows : (v : ℕ) (l : List ℕ) → v ≤ value_on v l
unfolding value_on
grows v [] = le_refl v
grows v (b ∷ l) = omega (arith, grows (v * 10 + (b - 48)) l)

off : (b : Bool) → (b && false) ≡ false
off true = refl
off false = refl

module _ (s : List ℕ) (v i : ℕ) where
  pub read_done : length s ≤ i → v < 2 ^ 64 → read_on v (drop i s) ≡ Some v
  unfolding read_on all_digits value_on
  read_done h f = rw (drop_of_length-le s h, lt-ltb v (2 ^ 64) f)

  pub read_low : i < length s → get_or s i 0 < 48 → read_on v (drop i s) ≡ None
  unfolding read_on all_digits
  read_low h d = rw (drop-cons s i 0 h, lt-leb 48 (get_or s i 0) d)

  pub read_high : i < length s → 57 < get_or s i 0 → read_on v (drop i s) ≡ None
  unfolding read_on all_digits
  read_high h d = rw (drop-cons s i 0 h, le-leb 48 (get_or s i 0) (omega arith), lt-leb (get_or s i 0) 57 d)

  pub read_big : i < length s → 48 ≤ get_or s i 0 → get_or s i 0 ≤ 57 → 2 ^ 64 ≤ v * 10 + (get_or s i 0 - 48) → read_on v (drop i s) ≡ None
  unfolding read_on all_digits value_on
  read_big h a b g =
      rw (drop-cons s i 0 h, le-leb 48 (get_or s i 0) a, le-leb (get_or s i 0) 57 b)
      (rw (le-ltb (value_on (v * 10 + (get_or s i 0 - 48)) (drop (suc i) s)) (2 ^ 64) (omega (arith, grows (v * 10 + (get_or s i 0 - 48)) (drop (suc i) s))), off))

  pub read_step : i < length s → 48 ≤ get_or s i 0 → get_or s i 0 ≤ 57 → (w : ℕ) → w ≡ v * 10 + (get_or s i 0 - 48) → read_on v (drop i s) ≡ read_on w (drop (i + 1) s)
  unfolding read_on all_digits value_on
  read_step h a b w e = rw (e, add-one i, drop-cons s i 0 h, le-leb 48 (get_or s i 0) a, le-leb (get_or s i 0) 57 b)

pub number_bad : (s : List ℕ) → leads s ≡ false → number_of s ≡ None
unfolding number_of
number_bad s e = rw e

pub number_start : (s : List ℕ) → leads s ≡ true → read_on 0 s ≡ number_of s
unfolding number_of
number_start s e = rw e

-- ---- a number is put from its last digit back

-- the last k digits of n
unfoldable pub last_digits : ℕ → ℕ → List ℕ
last_digits zero n = []
last_digits (suc k) n = last_digits k (n / 10) ++ ((48 + n % 10) ∷ [])

length_last : (k n : ℕ) → length (last_digits k n) ≡ k
unfolding last_digits
length_last zero n = refl
length_last (suc k) n = rw (length-append (last_digits k (n / 10)) ((48 + n % 10) ∷ []), length_last k (n / 10), add-one k)

spell_short : (k n : ℕ) → n < 10 → spell (suc k) n ≡ (48 + n) ∷ []
unfolding spell
spell_short k n h = rw (lt-ltb n 10 h)

spell_long : (k n : ℕ) → 10 ≤ n → spell (suc k) n ≡ spell k (n / 10) ++ ((48 + n % 10) ∷ [])
unfolding spell
spell_long k n h = rw (le-ltb n 10 h)

by_ten : {C : Type 0} (n : ℕ) → (n < 10 → C) → (10 ≤ n → C) → C
by_ten {C} n f g = by (ltb n 10) refl
  where
    by : (b : Bool) → ltb n 10 ≡ b → C
    by true e = f (ltb-true n 10 e)
    by false e = g (ltb-false n 10 e)

pub spell_last : (k n : ℕ) → last_digits (length (spell k n)) n ≡ spell k n
unfolding last_digits spell
spell_last zero n = refl
spell_last (suc k) n =
    by_ten n
    (λ h. rw (spell_short k n h, mod-eq_of_lt h))
    (λ h. rw (spell_long k n h, length-append (spell k (n / 10)) ((48 + n % 10) ∷ []), add-one (length (spell k (n / 10))), spell_last k (n / 10)))

pub spell_fits : (k n : ℕ) → length (spell k n) ≤ k
unfolding spell
spell_fits zero n = le_refl 0
spell_fits (suc k) n =
    by_ten n
    (λ h. rw (spell_short k n h) (omega arith))
    (λ h. rw (spell_long k n h, length-append (spell k (n / 10)) ((48 + n % 10) ∷ [])) (omega (arith, spell_fits k (n / 10))))

pub digits_fit : (n : ℕ) → length (digits n) ≤ most
digits_fit n = spell_fits most n

-- ---- how many digits

pub count_done : (k n : ℕ) → n < 10 → length (spell (suc k) n) ≡ 1
count_done k n h = rw (spell_short k n h)

pub count_step : (k n : ℕ) → 10 ≤ n → length (spell (suc k) n) ≡ length (spell k (n / 10)) + 1
count_step k n h = rw (spell_long k n h, length-append (spell k (n / 10)) ((48 + n % 10) ∷ []))

pub small : (j n : ℕ) → n < 10 ^ suc j → n / 10 < 10 ^ j
small j n h = omega (arith, rw (pow-suc 10 j) at h)

-- a number with a digit more to come has room for it
pub enough : (k n : ℕ) → k ≤ most → n < 10 ^ suc (most - k) → 10 ≤ n → k < most
enough k n h f t = by (ltb k most) refl
  where
    by : (b : Bool) → ltb k most ≡ b → k < most
    by true e = ltb-true k most e
    by false e =
        let q : k ≡ most = omega (arith, ltb-false k most e) in
        let g : n < 10 ^ suc (most - most) = rw q at f in
        absurd (omega arith)

pub again : (w k n : ℕ) → k < most → n < 10 ^ suc (most - k) → 10 ≤ n → k + length (spell (suc (most - k)) n) ≡ w
    → (1 ≤ k + 1) × (k + 1 ≤ most) × (n / 10 < 10 ^ suc (most - (k + 1))) × (k + 1 + length (spell (suc (most - (k + 1))) (n / 10)) ≡ w)
again w k n h f t e =
    let q : suc (most - (k + 1)) ≡ most - k = omega arith in (
      omega arith,
      omega arith,
      rw q (small (most - k) n f),
      rw q (omega (arith, count_step (most - k) n t)),
    )

-- ---- bytes put one by one, the last first

sets_snoc : (l : List ℕ) (a : ℕ) (s : List ℕ) (d : ℕ) → sets l a (s ++ (d ∷ [])) ≡ sets (set l (a + length s) d) a s
sets_snoc l a [] d = rw (add-zero a)
sets_snoc l a (x ∷ s) d =
    let e : suc a + length s ≡ a + suc (length s) = omega arith in
    let ne : a ≢ suc a + length s = λ q. omega arith in
    sets_snoc (set l a x) (suc a) s d
    ∙ ap (λ (m : List ℕ). sets m (suc a) s) (set_comm l a (suc a + length s) x d ne ∙ ap (λ (k : ℕ). set (set l k d) a x) e)

put_on : (l : List ℕ) (a k n : ℕ) → sets (set l (a + k) (48 + n % 10)) a (last_digits k (n / 10)) ≡ sets l a (last_digits (suc k) n)
unfolding last_digits
put_on l a k n =
    sym (sets_snoc l a (last_digits k (n / 10)) (48 + n % 10)
    ∙ ap (λ (j : ℕ). sets (set l (a + j) (48 + n % 10)) a (last_digits k (n / 10))) (length_last k (n / 10)))

-- the digits from a up to i are still to come
pub put_step : (l : List ℕ) (a i n : ℕ) → a < i
    → sets (set l (i - 1) (48 + n % 10)) a (last_digits (i - 1 - a) (n / 10)) ≡ sets l a (last_digits (i - a) n)
put_step l a i n h =
    let e : i - 1 ≡ a + (i - 1 - a) = omega arith in
    let f : suc (i - 1 - a) ≡ i - a = omega arith in
    ap (λ (m : ℕ). sets (set l m (48 + n % 10)) a (last_digits (i - 1 - a) (n / 10))) e
    ∙ put_on l a (i - 1 - a) n
    ∙ ap (λ (m : ℕ). sets l a (last_digits m n)) f

pub put_start : (l : List ℕ) (a n k : ℕ) → k ≡ length (digits n) → sets l a (last_digits (a + k - a) n) ≡ sets l a (digits n)
put_start l a n k e =
    let f : a + k - a ≡ length (digits n) = omega arith in
    rw (f, spell_last most n)

pub put_done : (l : List ℕ) (a i n : ℕ) → i ≤ a → sets l a (last_digits (i - a) n) ≡ l
unfolding last_digits
put_done l a i n h = let e : i - a ≡ 0 = omega arith in rw e

-- ---- what is spelled is read back

value_snoc : (v : ℕ) (l : List ℕ) (d : ℕ) → value_on v (l ++ (d ∷ [])) ≡ value_on v l * 10 + (d - 48)
unfolding value_on
value_snoc v [] d = refl
value_snoc v (b ∷ l) d = value_snoc (v * 10 + (b - 48)) l d

both : (t u w : Bool) → (t && u) ≡ true → (u ≡ true → w ≡ true) → (t && w) ≡ true
both true u w e k = k e
both false u w e k = e

digits_snoc : (l : List ℕ) (d : ℕ) → all_digits l ≡ true → is_digit d ≡ true → all_digits (l ++ (d ∷ [])) ≡ true
unfolding all_digits
digits_snoc [] d e f = rw f
digits_snoc (b ∷ l) d e f = both (is_digit b) (all_digits l) (all_digits (l ++ (d ∷ []))) e (λ q. digits_snoc l d q f)

digit_is : (m : ℕ) → m < 10 → is_digit (48 + m) ≡ true
digit_is m h = rw (le-leb 48 (48 + m) (omega arith), le-leb (48 + m) 57 (omega arith))

pub spell_digits : (k n : ℕ) → all_digits (spell k n) ≡ true
unfolding spell all_digits
spell_digits zero n = refl
spell_digits (suc k) n =
    by_ten n
    (λ h. rw (spell_short k n h, digit_is n h))
    (λ h. rw (spell_long k n h) (digits_snoc (spell k (n / 10)) (48 + n % 10) (spell_digits k (n / 10)) (digit_is (n % 10) (omega arith))))

value_short : (k n : ℕ) → n < 10 → value_on 0 (spell (suc k) n) ≡ n
unfolding value_on
value_short k n h = rw (spell_short k n h) (omega arith)

spell_value : (k n : ℕ) → n < 10 ^ suc k → value_on 0 (spell (suc k) n) ≡ n
spell_value zero n f = value_short 0 n (omega arith)
spell_value (suc k) n f =
    by_ten n
    (value_short (suc k) n)
    (λ h. rw (spell_long (suc k) n h, value_snoc 0 (spell (suc k) (n / 10)) (48 + n % 10), spell_value k (n / 10) (small (suc k) n f)) (omega arith))

-- a byte in front that is no zero
unfoldable heads : List ℕ → Bool
heads [] = false
heads (b ∷ l) = not (eqb b 48)

heads_leads : (l : List ℕ) → heads l ≡ true → leads l ≡ true
unfolding heads leads
heads_leads [] e = e
heads_leads (b ∷ []) e = refl
heads_leads (b ∷ c ∷ l) e = e

heads_more : (l m : List ℕ) → heads l ≡ true → heads (l ++ m) ≡ true
unfolding heads
heads_more [] m e = absurd (let y : ◌≡◌ {A = ℕ} 0 1 = cc in omega arith)
heads_more (b ∷ l) m e = e

heads_short : (k n : ℕ) → 0 < n → n < 10 → heads (spell (suc k) n) ≡ true
unfolding heads
heads_short k n p h = rw (spell_short k n h, ne_eqb (48 + n) 48 (λ q. omega arith))

spell_heads : (k n : ℕ) → 0 < n → n < 10 ^ suc k → heads (spell (suc k) n) ≡ true
spell_heads zero n p f = heads_short 0 n p (omega arith)
spell_heads (suc k) n p f =
    by_ten n
    (heads_short (suc k) n p)
    (λ h. rw (spell_long (suc k) n h) (heads_more (spell (suc k) (n / 10)) ((48 + n % 10) ∷ []) (spell_heads k (n / 10) (omega arith) (small (suc k) n f))))

pub digits_lead : (n : ℕ) → n < 2 ^ 64 → leads (digits n) ≡ true
unfolding leads spell
digits_lead zero h = refl
digits_lead (suc n) h = heads_leads (digits (suc n)) (spell_heads 19 (suc n) (omega arith) (omega arith))

-- a number printed is read back as itself
pub round_trip : (n : ℕ) → n < 2 ^ 64 → number_of (digits n) ≡ Some n
unfolding number_of read_on
round_trip n h =
    rw (digits_lead n h, spell_digits most n, spell_value 19 n (omega arith), lt-ltb n (2 ^ 64) h)

-- ---- more than twenty digits are no number

-- each further digit makes a number at least ten times larger
grows_tenfold : (k v : ℕ) (l : List ℕ) → 10 ^ k ≤ v → 10 ^ (k + length l) ≤ value_on v l
unfolding value_on
grows_tenfold k v [] h = rw (add-zero k) h
grows_tenfold k v (b ∷ l) h =
    let e : k + suc (length l) ≡ suc k + length l = omega arith in
    let m : 10 ^ suc k ≤ v * 10 + (b - 48) = rw (pow-suc 10 k) (omega arith) in
    rw e (grows_tenfold (suc k) (v * 10 + (b - 48)) l m)

-- a byte in front that is a digit and no zero
front_digit : (b : ℕ) (l : List ℕ) → leads (b ∷ l) ≡ true → 0 < length l → all_digits (b ∷ l) ≡ true → 1 ≤ b - 48
unfolding leads all_digits
front_digit b [] e h d = absurd (omega arith)
front_digit b (c ∷ l) e h d =
    let q : b ≡ 48 → ⊥ = eqb-false b 48 (not-true (eqb b 48) e) in
    let f : 48 ≤ b = leb-true 48 b (first_of (leb 48 b) (leb b 57) (first_of (is_digit b) (all_digits (c ∷ l)) d)) in
    by (b - 48) refl f q
  where
    first_of : (t u : Bool) → (t && u) ≡ true → t ≡ true
    first_of true u z = refl
    first_of false u z = z

    by : (n : ℕ) → b - 48 ≡ n → 48 ≤ b → (b ≡ 48 → ⊥) → 1 ≤ n
    by zero z f q = absurd (q (omega arith))
    by (suc n) z f q = omega arith

-- a text longer than any number's digits says none
pub too_long_for_a_number : (s : List ℕ) → most < length s → number_of s ≡ None
unfolding number_of read_on value_on
too_long_for_a_number [] h = absurd (omega arith)
too_long_for_a_number (b ∷ l) h = by (leads (b ∷ l)) (all_digits (b ∷ l)) refl refl
  where
    big : leads (b ∷ l) ≡ true → all_digits (b ∷ l) ≡ true → 2 ^ 64 ≤ value_on 0 (b ∷ l)
    big e d =
        let f : 1 ≤ b - 48 = front_digit b l e (omega arith) d in
        let m : 10 ^ 0 ≤ 0 * 10 + (b - 48) = omega arith in
        let z : 0 + length l ≡ length l = omega arith in
        let g : 10 ^ length l ≤ value_on (0 * 10 + (b - 48)) l = rw z at (grows_tenfold 0 (0 * 10 + (b - 48)) l m) in
        let p : 10 ^ most ≤ 10 ^ length l = pow-le-pow_right (omega arith) {i = most} {j = length l} (omega arith) in
        omega arith

    by : (e d : Bool) → leads (b ∷ l) ≡ e → all_digits (b ∷ l) ≡ d → number_of (b ∷ l) ≡ None
    by false d p q = rw p
    by true false p q = rw (p, q)
    by true true p q = rw (p, q, le-ltb (value_on 0 (b ∷ l)) (2 ^ 64) (big p q))
