-- A record read from a place on: what the code's steps find, for what the fields say.
use Prim.Native.Nat.{ℕ, zero, suc, ◌+◌, ◌-◌, ◌<◌, ◌≤◌}
use Rattle.std.specs.Prelude.{Bool, ◌≡◌, ◌≢◌, eqb, ltb, cond, not, Option, None, Some, take, drop, get_or}
use Rattle.std.specs.List.{position, position_or_len}
use Rattle.std.proofs.Math.Bool.{true, false}
use mathlib.Core.List.{List, [], ◌∷◌}
use Rattle.std.proofs.Math.Path.{refl, sym, ap}
use Rattle.std.proofs.Common.{◌∙◌, add-one, one-add, drop_of_length-le}
use Rattle.std.proofs.Math.Nat.{sub-zero}
use native.Mathlib.Omega.{arith}
use Rattle.std.proofs.Math.ListN.{length, length-drop}
use Rattle.std.proofs.Math.Seq.{drop-cons}
use Rattle.std.proofs.lemmas.List.{drop-drop, take_all}
use Rattle.std.proofs.lemmas.List.Sums.{prefix_len-le-length}
use borrow.Author.Tests.{ltb-false}
use Rattle.digits.specs.Numbers.{number_of, leads}
use Rattle.lines.specs.declared.Line.{Line}
use Rattle.lines.specs.declared.Field.{Field}
use Rattle.lines.specs.declared.Numbers.{Numbers}
use Rattle.lines.specs.Lines.{onto, joined, split, number, on_number, done, keyed}

-- the fields after a place: none at the end, else those past the comma there
unfoldable pub after : List ℕ → List (List ℕ)
after [] = []
after (b ∷ l) = split l

-- the fields after place i of s
abbrev pub rest : List ℕ → ℕ → List (List ℕ)
rest s i = after (drop i s)

-- the field from a place ends at r
pub record Cut (s : List ℕ) (from r : ℕ) : Type 0 where
  pub low : from ≤ r
  pub high : r ≤ length s
  pub fields : split (drop from s) ≡ take (r - from) (drop from s) ∷ rest s r

-- what a field that the code found goes on to
abbrev pub field_of : (ℕ → List (List ℕ) → Line) → List ℕ → Option Field → Line
field_of k s None = Line.Other
field_of k s (Some f) = k f.value (rest s f.end)

-- the place after it
abbrev pub end_of : Option Field → ℕ
end_of None = 0
end_of (Some f) = f.end

-- r is the field after the comma at a place, read as a number
pub record Stepped (s : List ℕ) (at : ℕ) (r : Option Field) : Type 0 where
  pub step : (k : ℕ → List (List ℕ) → Line) → number k (rest s at) ≡ field_of k s r
  pub within : end_of r ≤ length s

-- n fields more are numbers; the last three of all go on
abbrev pub numbered : ℕ → (ℕ → ℕ → ℕ → List (List ℕ) → Line) → ℕ → ℕ → ℕ → List (List ℕ) → Line
numbered zero k a b c = k a b c
numbered (suc n) k a b c = number (λ v. numbered n k b c v)

-- what numbers that the code found go on to
abbrev pub numbers_end : (ℕ → ℕ → ℕ → List (List ℕ) → Line) → List ℕ → Option Numbers → Line
numbers_end k s None = Line.Other
numbers_end k s (Some n) = k n.a n.b n.c (rest s n.end)

-- the place after them
abbrev pub place_of : Option Numbers → ℕ
place_of None = 0
place_of (Some n) = n.end

-- r is the n fields from the comma at a place on, read as numbers
pub record Counted (s : List ℕ) (at n : ℕ) (r : Option Numbers) : Type 0 where
  pub all : (k : ℕ → ℕ → ℕ → List (List ℕ) → Line) → numbered n k 0 0 0 (rest s at) ≡ numbers_end k s r
  pub within : place_of r ≤ length s

-- the bytes from a place up to another
abbrev pub between : List ℕ → ℕ → ℕ → List ℕ
between s from i = take (i - from) (drop from s)

-- ---- a record cut at its first comma

-- its place, or the end
abbrev pub comma_in : List ℕ → ℕ
comma_in l = position_or_len (λ b. eqb b 44) l

cut_at : (l : List ℕ) → split l ≡ take (comma_in l) l ∷ after (drop (comma_in l) l)
unfolding split after
cut_at [] = refl
cut_at (b ∷ l) = by (eqb b 44) (cut_at l)
  where
    by : (t : Bool) → split l ≡ take (comma_in l) l ∷ after (drop (comma_in l) l)
        → joined t b (split l) ≡ take (cond (not t) (1 + comma_in l) 0) (b ∷ l) ∷ after (drop (cond (not t) (1 + comma_in l) 0) (b ∷ l))
    by true e = refl
    by false e = rw (one-add (comma_in l)) (ap (onto b) e)

module _ (s : List ℕ) (from : ℕ) (h : from ≤ length s) where
  cut : (r : ℕ) → r ≡ from + comma_in (drop from s) → Cut s from r
  cut r e =
      let i : ℕ = comma_in (drop from s) in
      let g : i ≤ length (drop from s) = prefix_len-le-length (λ b. not (eqb b 44)) (drop from s) in
      let f : r - from ≡ i = omega arith in
      record {
        low = omega arith;
        high = omega (arith, length-drop from s);
        fields = rw (f, e) (rw (sym (drop-drop i from s)) (cut_at (drop from s)));
      }

  -- the code's part of s, up to its end
  part : take (length s - from) (drop from s) ≡ drop from s
  part = take_all (length s - from) (drop from s) (omega (arith, length-drop from s))

  pub cut_comma : (i : ℕ) → Some i ≡ position (λ b. eqb b 44) (take (length s - from) (drop from s)) → Cut s from (from + i)
  cut_comma i e = by (ltb (comma_in (drop from s)) (length (drop from s))) (rw part at e)
    where
      by : (t : Bool) → Some i ≡ cond t (Some (comma_in (drop from s))) None → Cut s from (from + i)
      by true e = let q : i ≡ comma_in (drop from s) = cc in cut (from + i) (omega arith)
      by false e = cc

  pub cut_end : None ≡ position (λ b. eqb b 44) (take (length s - from) (drop from s)) → Cut s from (length s)
  cut_end e = by (ltb (comma_in (drop from s)) (length (drop from s))) refl (rw part at e)
    where
      by : (t : Bool) → ltb (comma_in (drop from s)) (length (drop from s)) ≡ t → None ≡ cond t (Some (comma_in (drop from s))) None → Cut s from (length s)
      by true g e = absurd (let z : ◌≡◌ {A = ℕ} 0 1 = cc in omega arith)
      by false g e = cut (length s) (omega (arith, length-drop from s, ltb-false (comma_in (drop from s)) (length (drop from s)) g, prefix_len-le-length (λ b. not (eqb b 44)) (drop from s)))

-- ---- one field

module _ (s : List ℕ) (at : ℕ) where
  pub rest_none : length s ≤ at → rest s at ≡ []
  unfolding after
  rest_none h = rw (drop_of_length-le s h)

  rest_some : at < length s → rest s at ≡ split (drop (at + 1) s)
  unfolding after
  rest_some h = rw (add-one at, drop-cons s at 0 h)

  pub field_none : length s ≤ at → Stepped s at None
  unfolding number
  field_none h = record { step = λ k. ap (number k) (rest_none h); within = omega arith }

  field_step : (e : ℕ) → at < length s → Cut s (at + 1) e → (o : Option ℕ) → number_of (between s (at + 1) e) ≡ o →
      (k : ℕ → List (List ℕ) → Line) → number k (rest s at) ≡ on_number o (λ n. k n (rest s e))
  unfolding number
  field_step e h c o n k = ap (number k) (rest_some h ∙ c.fields) ∙ ap (λ (o : Option ℕ). on_number o (λ n. k n (rest s e))) n

  pub field_is : (f : Field) → at < length s → Cut s (at + 1) f.end → number_of (between s (at + 1) f.end) ≡ Some (f.value) → Stepped s at (Some f)
  field_is f h c n = record { step = field_step f.end h c (Some (f.value)) n; within = c.high }

  pub field_bad : (e : ℕ) → at < length s → Cut s (at + 1) e → number_of (between s (at + 1) e) ≡ None → Stepped s at None
  field_bad e h c n = record { step = field_step e h c None n; within = omega arith }

  pub done_end : (l : Line) → at ≡ length s → l ≡ done l (rest s at)
  unfolding done
  done_end l e = sym (ap (done l) (rest_none (omega arith)))

  -- fields are never none
  done_split : (x : Line) (l : List ℕ) → done x (split l) ≡ Line.Other
  unfolding done split
  done_split x [] = refl
  done_split x (b ∷ l) = by (eqb b 44) (split l)
    where
      by : (t : Bool) (fs : List (List ℕ)) → done x (joined t b fs) ≡ Line.Other
      by true fs = refl
      by false [] = refl
      by false (f ∷ fs) = refl

  pub done_more : (l : Line) → at < length s → Line.Other ≡ done l (rest s at)
  done_more l h = sym (ap (done l) (rest_some h) ∙ done_split l (drop (at + 1) s))

-- ---- some fields

-- what the loop keeps: the numbers left, read on from the place after the last three, are all
pub record Going (s : List ℕ) (at n left : ℕ) (x : Numbers) : Type 0 where
  pub same : (k : ℕ → ℕ → ℕ → List (List ℕ) → Line) → numbered n k 0 0 0 (rest s at) ≡ numbered left k x.a x.b x.c (rest s x.end)

pub going_none : (s : List ℕ) (at n : ℕ) → Going s at n (n - 0) (record { a = 0; b = 0; c = 0; end = at })
going_none s at n = rw (sub-zero n) (record { same = λ k. refl })

module _ (s : List ℕ) (at n left : ℕ) (x : Numbers) (g : Going s at n left x) where
  pub going_end : left ≡ 0 → x.end ≤ length s → Counted s at n (Some x)
  going_end z h = record { all = λ k. g.same k ∙ ap (λ (m : ℕ). numbered m k x.a x.b x.c (rest s x.end)) z; within = h }

  module _ (m : ℕ) (z : left ≡ suc m) where
    going_on : (k : ℕ → ℕ → ℕ → List (List ℕ) → Line) → numbered n k 0 0 0 (rest s at) ≡ number (λ v. numbered m k x.b x.c v) (rest s x.end)
    going_on k = g.same k ∙ ap (λ (m : ℕ). numbered m k x.a x.b x.c (rest s x.end)) z

    pub going_bad : Stepped s x.end None → Counted s at n None
    going_bad t = record { all = λ k. going_on k ∙ t.step (λ v. numbered m k x.b x.c v); within = omega arith }

    pub going_more : (f : Field) → Stepped s x.end (Some f) → Going s at n m (record { a = x.b; b = x.c; c = f.value; end = f.end })
    going_more f t = record { same = λ k. going_on k ∙ t.step (λ v. numbered m k x.b x.c v) }

pub counted_more : (s : List ℕ) (at n : ℕ) (r : Option Numbers) (x : Numbers) → Counted s at n r → r ≡ Some x → x.end ≢ length s → x.end < length s
counted_more s at n r x t q z = omega (arith, ap place_of q, t.within)

-- ---- the key of a write

module _ (x y z : ℕ) where
  abbrev a_key : ℕ → List (List ℕ) → Line
  a_key key = done (Line.Write x y z key)

  key_onto : (b : ℕ) (fs : List (List ℕ)) → keyed x y z (onto b fs) ≡ number a_key (onto b fs)
  unfolding keyed
  key_onto b [] = refl
  key_onto b (f ∷ fs) = refl

  key_comma : (l : List ℕ) → keyed x y z ([] ∷ split l) ≡ number a_key ([] ∷ split l)
  unfolding keyed number number_of leads
  key_comma l = done_split [] 0 (Line.Delete x y z) l

  key_split : (b : ℕ) (l : List ℕ) → keyed x y z (split (b ∷ l)) ≡ number a_key (split (b ∷ l))
  unfolding split
  key_split b l = by (eqb b 44)
    where
      by : (t : Bool) → keyed x y z (joined t b (split l)) ≡ number a_key (joined t b (split l))
      by true = key_comma l
      by false = key_onto b (split l)

  module _ (s : List ℕ) (at : ℕ) where
    pub key_empty : at + 1 ≡ length s → Line.Delete x y z ≡ keyed x y z (rest s at)
    unfolding keyed split done
    key_empty e =
        let h : length s ≤ at + 1 = omega arith in
        sym (ap (keyed x y z) (rest_some s at (omega arith) ∙ ap split (drop_of_length-le s h)))

    key_is : at < length s → at + 1 ≢ length s → keyed x y z (rest s at) ≡ number a_key (rest s at)
    key_is h n =
        let d : drop (at + 1) s ≡ get_or s (at + 1) 0 ∷ drop (suc (at + 1)) s = drop-cons s (at + 1) 0 (omega arith) in
        rw (rest_some s at h, d) (key_split (get_or s (at + 1) 0) (drop (suc (at + 1)) s))

    module _ (h : at < length s) (n : at + 1 ≢ length s) where
      pub key_bad : Stepped s at None → Line.Other ≡ keyed x y z (rest s at)
      key_bad t = sym (key_is h n ∙ t.step a_key)

      module _ (f : Field) (t : Stepped s at (Some f)) where
        key_then : keyed x y z (rest s at) ≡ done (Line.Write x y z f.value) (rest s f.end)
        key_then = key_is h n ∙ t.step a_key

        pub key_last : f.end ≡ length s → Line.Write x y z f.value ≡ keyed x y z (rest s at)
        key_last g = done_end s f.end (Line.Write x y z f.value) g ∙ sym key_then

        pub key_more : f.end ≢ length s → Line.Other ≡ keyed x y z (rest s at)
        key_more g = let k : f.end ≤ length s = t.within in done_more s f.end (Line.Write x y z f.value) (omega arith) ∙ sym key_then
