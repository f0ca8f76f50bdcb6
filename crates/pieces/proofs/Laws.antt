-- A record kept byte by byte.
use Rattle.std.specs.Prelude.{ℕ, suc, ◌+◌, ◌-◌, ◌<◌, ◌≤◌, min, Bool, true, false, ◌&&◌, cond, List, [], ◌∷◌, ◌++◌, ◌≡◌, refl, eqb, ltb, length, get_or, take, drop}
use Rattle.std.proofs.Common.{append-nil, append_assoc, sym, ap, ◌∙◌, add-one, arith, length-append, length-take, length-drop, take-append-drop, take-suc, take_all, take-take, drop-cons, drop-drop, take-add, ltb-true, ltb-false}
use Rattle.std.proofs.Math.Option.{none, some}
use Rattle.std.proofs.lemmas.List.{take-append-le}
use Rattle.pieces.specs.declared.Held.{Held}
use Rattle.pieces.specs.Ends.{further, first_end}
use Rattle.pieces.proofs.Texts.{one_further, no_end_further, first_end_stays}
use Rattle.pieces.specs.Held.{ends_cr, Sane, Holds, Ended, Put}
use Rattle.pieces.specs.Laws.{between}

-- a byte more ends the record where it is an LF after a CR
snoc : (p : List ℕ) (b : ℕ) → first_end p ≡ none → first_end (p ++ (b ∷ [])) ≡ cond (ends_cr p && eqb b 10) (some (length p - 1)) none
unfolding first_end ends_cr
snoc [] b e = refl
snoc (a ∷ []) b e = refl
snoc (a ∷ c ∷ l) b e = one_further a c (l ++ (b ∷ [])) (no_end_further a c l e).0 ∙ ap further (snoc (c ∷ l) b (no_end_further a c l e).1) ∙ on (ends_cr (c ∷ l) && eqb b 10)
  where
    on : (t : Bool) → further (cond t (some (length (c ∷ l) - 1)) none) ≡ cond t (some (length (a ∷ c ∷ l) - 1)) none
    on true = let q : suc (length (c ∷ l) - 1) ≡ length (a ∷ c ∷ l) - 1 = omega arith in ap (λ (k : ℕ). some k) q
    on false = refl

ends_snoc : (p : List ℕ) (b : ℕ) → ends_cr (p ++ (b ∷ [])) ≡ eqb b 13
unfolding ends_cr
ends_snoc [] b = refl
ends_snoc (a ∷ []) b = refl
ends_snoc (a ∷ c ∷ l) b = ends_snoc (c ∷ l) b

-- nothing has come
pub sane_nothing : (room : ℕ) → 0 < room → Sane room (record { count = 0; cr = false })
sane_nothing room h = record { some_room = h; fits = omega arith; some_byte = λ e. absurd (let z : ◌≡◌ {A = ℕ} 0 1 = cc in omega arith) }

pub holds_nothing : (buffer : List ℕ) → Holds [] buffer (record { count = 0; cr = false })
unfolding first_end ends_cr
holds_nothing buffer = record { no_end = refl; counted = omega arith; kept = refl; last = refl }

-- a byte more is counted
pub sane_next : (a c : List ℕ) (h : Held) (n b : ℕ) (t : Bool) → Sane (length a) h → Put a c h.count n b → Sane (length c) (record { count = n; cr = t })
sane_next a c h n b t x w =
    record {
      some_room = omega (arith, x.some_room, w.same_length);
      fits = omega (arith, w.counted x.fits, w.same_length);
      some_byte = λ e. omega (arith, x.some_room, w.counted x.fits);
    }

-- a byte that ends no record is kept
pub holds_more : (p a c : List ℕ) (h : Held) (n b : ℕ) → Holds p a h → Put a c h.count n b → (h.cr && eqb b 10) ≡ false
    → Holds (p ++ (b ∷ [])) c (record { count = n; cr = eqb b 13 })
holds_more p a c h n b x w e =
    record {
      no_end = snoc p b x.no_end ∙ ap (λ (t : Bool). cond t (some (length p - 1)) none) (ap (λ (t : Bool). t && eqb b 10) (sym x.last) ∙ e);
      counted = rw (length-append p (b ∷ []), w.same_length) size;
      kept = by (ltb h.count (length a)) refl;
      last = sym (ends_snoc p b);
    }
  where
    size : n ≡ min (length p + 1) (length a)
    size = omega (arith, w.counted (omega (arith, x.counted)), x.counted)

    by : (t : Bool) → ltb h.count (length a) ≡ t → take n c ≡ take n (p ++ (b ∷ []))
    by true q =
        let f : h.count < length a = ltb-true h.count (length a) q in
        let g : h.count ≡ length p = omega (arith, x.counted) in
        let m : length (p ++ (b ∷ [])) ≤ n = rw (length-append p (b ∷ [])) (omega (arith, size)) in
        w.stored f ∙ ap (λ (l : List ℕ). l ++ (b ∷ [])) (x.kept ∙ take_all h.count p (omega arith)) ∙ sym (take_all n (p ++ (b ∷ [])) m)
    by false q =
        let f : length a ≤ h.count = ltb-false h.count (length a) q in
        let g : n ≡ h.count = omega (arith, size, x.counted) in
        rw (g, w.full f) (x.kept ∙ sym (take-append-le h.count p (b ∷ []) (omega (arith, x.counted))))

pub is_cr : (a b : Bool) → (a && b) ≡ true → a ≡ true
is_cr true b q = refl
is_cr false b q = q

-- a record that ends in a CR is not empty
ends_some : (p : List ℕ) → ends_cr p ≡ true → 0 < length p
unfolding ends_cr
ends_some [] e = absurd (let z : ◌≡◌ {A = ℕ} 0 1 = cc in omega arith)
ends_some (a ∷ l) e = omega arith

-- the front of the record before its end
given_front : (q t f : List ℕ) (n : ℕ) → 0 < length q → n ≡ min (length q) (length f) → take n f ≡ take n q
    → take (n - 1) f ≡ take (length f - 1) (take (length q - 1) (q ++ t))
given_front q t f n h e k =
    sym (take-take (n - 1) n f (omega arith)) ∙ ap (take (n - 1)) k ∙ take-take (n - 1) n q (omega arith)
    ∙ sym (take-append-le (n - 1) q t (omega arith)) ∙ by (ltb (length q) (length f)) refl
  where
    by : (b : Bool) → ltb (length q) (length f) ≡ b → take (n - 1) (q ++ t) ≡ take (length f - 1) (take (length q - 1) (q ++ t))
    by true g =
        let m : n - 1 ≡ length q - 1 = omega (arith, ltb-true (length q) (length f) g) in
        let s : length (take (length q - 1) (q ++ t)) ≤ length f - 1 = rw (length-take (length q - 1) (q ++ t)) (omega (arith, ltb-true (length q) (length f) g)) in
        rw m (sym (take_all (length f - 1) (take (length q - 1) (q ++ t)) s))
    by false g =
        let m : n - 1 ≡ length f - 1 = omega (arith, ltb-false (length q) (length f) g) in
        rw m (sym (take-take (length f - 1) (length q - 1) (q ++ t) (omega (arith, ltb-false (length q) (length f) g))))

pub between_none : (s : List ℕ) (a : ℕ) → between s a a ≡ []
between_none s a = let z : a - a ≡ 0 = omega arith in ap (λ (k : ℕ). take k (drop a s)) z

-- from a place to another, and on
pub between_joins : (s : List ℕ) (a b c : ℕ) → a ≤ b → b ≤ c → between s a b ++ between s b c ≡ between s a c
between_joins s a b c h g =
    let e : a + (b - a) ≡ b = omega arith in
    let f : b - a + (c - b) ≡ c - a = omega arith in
    ap (λ (l : List ℕ). between s a b ++ take (c - b) l) (sym (drop-drop (b - a) a s ∙ ap (λ (k : ℕ). drop k s) e))
    ∙ sym (take-add (b - a) (c - b) (drop a s)) ∙ ap (λ (k : ℕ). take k (drop a s)) f

module _ (s : List ℕ) (from i : ℕ) (low : from ≤ i) where
  pub between_rest : between s from i ++ drop i s ≡ drop from s
  between_rest =
      let f : from + (i - from) ≡ i = omega arith in
      ap (λ (l : List ℕ). between s from i ++ l) (sym (drop-drop (i - from) from s ∙ ap (λ (k : ℕ). drop k s) f)) ∙ take-append-drop (i - from) (drop from s)

  pub between_all : length s ≤ i → between s from i ≡ drop from s
  between_all h = take_all (i - from) (drop from s) (rw (length-drop from s) (omega arith))

-- what has come, with i bytes of the piece; and one byte more
module _ (s : List ℕ) (i : ℕ) (p f : List ℕ) (h : Held) (x : Holds (p ++ take i s) f h) (more : i < length s) where
  pub holds_next : (g : List ℕ) (n : ℕ) → Put f g h.count n (get_or s i 0) → (h.cr && eqb (get_or s i 0) 10) ≡ false
      → Holds (p ++ take (i + 1) s) g (record { count = n; cr = eqb (get_or s i 0) 13 })
  holds_next g n w e =
      let q : (p ++ take i s) ++ (get_or s i 0 ∷ []) ≡ p ++ take (i + 1) s =
      append_assoc p (take i s) (get_or s i 0 ∷ []) ∙ ap (λ (l : List ℕ). p ++ l) (sym (rw (add-one i, take-suc s i 0 more))) in
      rw q at (holds_more (p ++ take i s) f g h n (get_or s i 0) x w e)

  pub ended : (from : ℕ) → (h.cr && eqb (get_or s i 0) 10) ≡ true → Ended p s from f (h.count - 1) (from + i + 1)
  ended from e =
      let l : ends_cr (p ++ take i s) ≡ true = sym x.last ∙ is_cr h.cr (eqb (get_or s i 0) 10) e in
      let z : 0 < length (p ++ take i s) = ends_some (p ++ take i s) l in
      let u : length (p ++ take i s) ≡ length p + i = rw (length-append p (take i s), length-take i s) (omega arith) in
      record {
        k = length (p ++ take i s) - 1;
        end = ap first_end whole ∙ first_end_stays ((p ++ take i s) ++ (get_or s i 0 ∷ [])) (drop (i + 1) s) (length (p ++ take i s) - 1)
            (snoc (p ++ take i s) (get_or s i 0) x.no_end ∙ ap (λ (t : Bool). cond t (some (length (p ++ take i s) - 1)) none) (ap (λ (t : Bool). t && eqb (get_or s i 0) 10) (sym x.last) ∙ e));
        past = omega arith;
        given = given_front (p ++ take i s) (drop i s) f h.count z x.counted x.kept
            ∙ ap (λ (l : List ℕ). take (length f - 1) (take (length (p ++ take i s) - 1) l)) joins;
      }
    where
      joins : (p ++ take i s) ++ drop i s ≡ p ++ s
      joins = append_assoc p (take i s) (drop i s) ∙ ap (λ (l : List ℕ). p ++ l) (take-append-drop i s)

      whole : p ++ s ≡ ((p ++ take i s) ++ (get_or s i 0 ∷ [])) ++ drop (i + 1) s
      whole =
          sym joins
          ∙ ap (λ (l : List ℕ). (p ++ take i s) ++ l) (drop-cons s i 0 more ∙ ap (λ (k : ℕ). get_or s i 0 ∷ drop k s) (sym (add-one i)))
          ∙ sym (append_assoc (p ++ take i s) (get_or s i 0 ∷ []) (drop (i + 1) s))

pub holds_start : (p f : List ℕ) (h : Held) → Holds p f h → Holds (p ++ []) f h
holds_start p f h x = rw (append-nil p) x

pub holds_end : (s : List ℕ) (i : ℕ) (p f : List ℕ) (h : Held) → length s ≤ i → Holds (p ++ take i s) f h → Holds (p ++ s) f h
holds_end s i p f h l x = rw (take_all i s l) at x
