-- Bytes put one after the other into a buffer.
use Rattle.std.specs.Prelude.{ℕ, suc, ◌+◌, ◌-◌, ◌*◌, ◌<◌, ◌≤◌, List, [], ◌∷◌, ◌++◌, ◌≡◌, refl, length, get_or, take, drop, set}
use Rattle.std.proofs.Common.{append-nil, append_assoc, sym, ap, ◌∙◌, add-zero, add-one, arith, length-append, take-suc, take_all}
use Rattle.std.proofs.lemmas.List.Edits.{sets, sets-eq}
use Rattle.std.proofs.lemmas.Slice.{put_mid-paste}
use borrow.Rule.Slice.PartMut.{put_mid}
use Rattle.std.proofs.Math.Seq.{length-sets}
use Rattle.digits.specs.Numbers.{Laid}
use Rattle.digits.specs.Laws.{digits_fit}
use Rattle.answers.specs.Answers.{field, fields, crlf, answer}

sets_append : (l : List ℕ) (a : ℕ) (s t : List ℕ) → sets l a (s ++ t) ≡ sets (sets l a s) (a + length s) t
sets_append l a [] t = rw (add-zero a)
sets_append l a (x ∷ s) t =
    let e : suc a + length s ≡ a + suc (length s) = omega arith in
    sets_append (set l a x) (suc a) s t ∙ ap (λ (k : ℕ). sets (sets (set l a x) (suc a) s) k t) e

-- nothing put
pub laid_none : (b : List ℕ) (at : ℕ) → Laid b b at at []
laid_none b at = record { bytes = refl; past = sym (add-zero at) }

-- one after the other
pub laid_then : {a b c s t : List ℕ} {at m n : ℕ} → Laid a b at m s → Laid b c m n t → Laid a c at n (s ++ t)
laid_then {a} {b} {c} {s} {t} {at} {m} {n} x y =
    record {
      bytes = y.bytes ∙ ap (λ (l : List ℕ). sets l m t) x.bytes ∙ ap (λ (k : ℕ). sets (sets a at s) k t) x.past ∙ sym (sets_append a at s t);
      past = rw (length-append s t) (omega (arith, x.past, y.past));
    }

-- the same bytes under another name
pub laid_as : {a b s t : List ℕ} {at m : ℕ} → Laid a b at m s → s ≡ t → Laid a b at m t
laid_as {a} {b} {s} {t} {at} {m} x e = rw e at x

-- one byte
pub laid_byte : (b : List ℕ) (at x : ℕ) → Laid b (set b at x) at (at + 1) (x ∷ [])
laid_byte b at x = record { bytes = refl; past = refl }

pub laid_length : {a b s : List ℕ} {at m : ℕ} → Laid a b at m s → length b ≡ length a
laid_length {a} {b} {s} {at} {m} x = ap length x.bytes ∙ length-sets a at s

-- w copied over as many bytes
pub laid_copied : (a w l : List ℕ) (at : ℕ) → at + length w ≤ length a → l ≡ w → Laid a (put_mid at (at + length w - at) a l) at (at + length w) w
laid_copied a w l at h e =
    let n : length w ≡ at + length w - at = omega arith in
    record {
      bytes =
          put_mid-paste at (at + length w - at) a l w (length w) e n refl
          ∙ ap (λ (l : List ℕ). take at a ++ l ++ drop (at + length w) a) (take_all (length w) w (omega arith))
          ∙ sym (sets-eq w a at h);
      past = refl;
    }

-- ---- fields

fields_snoc : (ns : List ℕ) (n : ℕ) → fields (ns ++ (n ∷ [])) ≡ fields ns ++ field n
unfolding fields
fields_snoc [] n = append-nil (field n)
fields_snoc (m ∷ ns) n = ap (λ (l : List ℕ). field m ++ l) (fields_snoc ns n) ∙ sym (append_assoc (field m) (fields ns) (field n))

pub fields_more : (ns : List ℕ) (i : ℕ) → i < length ns → fields (take i ns) ++ field (get_or ns i 0) ≡ fields (take (i + 1) ns)
fields_more ns i h = sym (rw (add-one i, take-suc ns i 0 h) (fields_snoc (take i ns) (get_or ns i 0)))

pub fields_none : (ns : List ℕ) → fields (take 0 ns) ≡ []
unfolding fields
fields_none ns = refl

pub field_fits : {a b : List ℕ} {at m : ℕ} (n : ℕ) → Laid a b at m (field n) → m ≤ at + 21
field_fits {a} {b} {at} {m} n x = omega (arith, x.past, digits_fit n)

fields_fit : (ns : List ℕ) → length (fields ns) ≤ 21 * length ns
unfolding fields
fields_fit [] = omega arith
fields_fit (n ∷ ns) = rw (length-append (field n) (fields ns)) (omega (arith, digits_fit n, fields_fit ns))

pub list_fits : {a b : List ℕ} {at m : ℕ} (ns : List ℕ) → Laid a b at m (fields ns) → m ≤ at + 21 * length ns
list_fits {a} {b} {at} {m} ns x = omega (arith, x.past, fields_fit ns)

-- ---- an answer whole

pub answered : {a b c d w : List ℕ} {at i j k : ℕ} (ns : List ℕ) → Laid a b at i w → Laid b c i j (fields ns) → Laid c d j k crlf → Laid a d at k (answer w ns)
unfolding answer
answered ns x y z = laid_then x (laid_then y z)
