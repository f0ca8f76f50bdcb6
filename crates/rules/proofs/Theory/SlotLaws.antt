-- What is read back from a slot after each store. All of it rests on one fact: two word lists that agree where a list lies decode alike.
use mathlib.Core.List.{List, ◌++◌, ◌∷◌, [], append-nil}
use Rattle.std.specs.Prelude.{◌≢◌, ◌≡◌, refl, ℕ, ◌≤◌, ◌<◌, ◌+◌, zero, suc, ◌*◌, min, length, set, drop, replicate}
use Rattle.std.proofs.Math.Path.{ap}
use Rattle.std.proofs.Common.{◌∙◌, sym, arith}
use Rattle.std.proofs.Math.Numerals.{add-one}
use Rattle.std.proofs.Math.ListN.{get_or, length-set}
use Rattle.std.proofs.lemmas.List.{length-replicate}
use Rattle.std.proofs.Math.Seq.{get_or-set_other, get_or-set_same, append_snoc, sets, length-sets}
use Rattle.words.specs.Sizes.{Sizes, ACTIVE, WRITES, READS, ID, LOW, TOP, Roomy}
use Rattle.words.specs.Lists.{fold}
use Rattle.words.specs.Slots.{words, threes, capped, push, rec, write, Write, Rec, add_write, slot_of, add_rec, add_recs, opened, emptied}
use Rattle.rules.specs.Theory.SlotLaws.{Agree, SlotOk, with_write, put_recs, with_recs, new_slot}

pub words_agree : (u t : List ℕ) (a k : ℕ) → Agree u t a k → words u a k ≡ words t a k
unfolding words
words_agree u t a zero h = refl
words_agree u t a (suc k) h = rw (h a (omega arith) (omega arith), words_agree u t (a + 1) k (λ i p q. h i (omega arith) (omega arith)))

pub threes_agree : {A : Type 0} (f : ℕ → ℕ → ℕ → A) (u t : List ℕ) (a k : ℕ) → Agree u t a (3 * k) → threes f u a k ≡ threes f t a k
unfolding threes
threes_agree f u t a zero h = refl
threes_agree f u t a (suc k) h =
    rw (h a (omega arith) (omega arith), h (a + 1) (omega arith) (omega arith), h (a + 2) (omega arith) (omega arith), threes_agree f u t (a + 3) k (λ i p q. h i (omega arith) (omega arith)))

-- one triple more, at the end
pub threes_more : {A : Type 0} (f : ℕ → ℕ → ℕ → A) (t : List ℕ) (a k e : ℕ) → e ≡ a + 3 * k → threes f t a (suc k) ≡ threes f t a k ++ (f (get_or t e 0) (get_or t (e + 1) 0) (get_or t (e + 2) 0) ∷ [])
unfolding threes
threes_more f t a zero e q =
    let same : e ≡ a = omega arith in
    rw same
threes_more {A} f t a (suc k) e q = ap (λ (l : List A). f (get_or t a 0) (get_or t (a + 1) 0) (get_or t (a + 2) 0) ∷ l) (threes_more f t (a + 3) k e (omega arith))

pub length_threes : {A : Type 0} (f : ℕ → ℕ → ℕ → A) (t : List ℕ) (a k : ℕ) → length (threes f t a k) ≡ k
unfolding threes
length_threes f t a zero = refl
length_threes f t a (suc k) = ap suc (length_threes f t (a + 3) k)

-- a count within its limit is read as it stands
pub capped_is : (t : List ℕ) (a most : ℕ) → get_or t a 0 ≤ most → capped t a most ≡ get_or t a 0
capped_is t a most h = omega arith

pub capped_zero : (t : List ℕ) (a most : ℕ) → get_or t a 0 ≡ 0 → capped t a most ≡ 0
capped_zero t a most h = omega arith

-- ---- one triple more
module _ (t : List ℕ) (a x y v : ℕ) where
  pub length_push : length (push a x y v t) ≡ length t
  unfolding push
  length_push = simp length-set

  -- every other word is as it was
  pub push_else : (j : ℕ) → j ≢ a → (a + 1 + 3 * get_or t a 0 ≤ j → a + 1 + 3 * get_or t a 0 + 2 < j) → get_or (push a x y v t) j 0 ≡ get_or t j 0
  unfolding push
  push_else j p q =
      let e = a + 1 + 3 * get_or t a 0 in
      get_or-set_other (set (set (set t e x) (e + 1) y) (e + 2) v) a j (get_or t a 0 + 1) 0 p
      ∙ get_or-set_other (set (set t e x) (e + 1) y) (e + 2) j v 0 (λ w. omega (arith, q (omega arith)))
      ∙ get_or-set_other (set t e x) (e + 1) j y 0 (λ w. omega (arith, q (omega arith)))
      ∙ get_or-set_other t e j x 0 (λ w. omega (arith, q (omega arith)))

  module _ (room : a + 1 + 3 * get_or t a 0 + 2 < length t) where
    pub push_count : get_or (push a x y v t) a 0 ≡ suc (get_or t a 0)
    unfolding push
    push_count =
        let e = a + 1 + 3 * get_or t a 0 in
        get_or-set_same (set (set (set t e x) (e + 1) y) (e + 2) v) a (get_or t a 0 + 1) 0 (simp length-set (omega arith)) ∙ add-one (get_or t a 0)

    push_x : get_or (push a x y v t) (a + 1 + 3 * get_or t a 0) 0 ≡ x
    unfolding push
    push_x =
        let e = a + 1 + 3 * get_or t a 0 in
        get_or-set_other (set (set (set t e x) (e + 1) y) (e + 2) v) a e (get_or t a 0 + 1) 0 (omega arith)
        ∙ get_or-set_other (set (set t e x) (e + 1) y) (e + 2) e v 0 (omega arith)
        ∙ get_or-set_other (set t e x) (e + 1) e y 0 (omega arith)
        ∙ get_or-set_same t e x 0 (omega arith)

    push_y : get_or (push a x y v t) (a + 1 + 3 * get_or t a 0 + 1) 0 ≡ y
    unfolding push
    push_y =
        let e = a + 1 + 3 * get_or t a 0 in
        get_or-set_other (set (set (set t e x) (e + 1) y) (e + 2) v) a (e + 1) (get_or t a 0 + 1) 0 (omega arith)
        ∙ get_or-set_other (set (set t e x) (e + 1) y) (e + 2) (e + 1) v 0 (omega arith)
        ∙ get_or-set_same (set t e x) (e + 1) y 0 (simp length-set (omega arith))

    push_v : get_or (push a x y v t) (a + 1 + 3 * get_or t a 0 + 2) 0 ≡ v
    unfolding push
    push_v =
        let e = a + 1 + 3 * get_or t a 0 in
        get_or-set_other (set (set (set t e x) (e + 1) y) (e + 2) v) a (e + 2) (get_or t a 0 + 1) 0 (omega arith)
        ∙ get_or-set_same (set (set t e x) (e + 1) y) (e + 2) v 0 (simp length-set (omega arith))

    -- the list is one longer
    pub push_list : {A : Type 0} (f : ℕ → ℕ → ℕ → A) (most : ℕ) → get_or t a 0 < most
        → threes f (push a x y v t) (a + 1) (capped (push a x y v t) a most) ≡ threes f t (a + 1) (capped t a most) ++ (f x y v ∷ [])
    push_list f most few =
        rw (
          capped_is (push a x y v t) a most (rw push_count few),
          capped_is t a most (omega arith),
          push_count,
          threes_more f (push a x y v t) (a + 1) (get_or t a 0) (a + 1 + 3 * get_or t a 0) refl,
          push_x,
          push_y,
          push_v,
          threes_agree f (push a x y v t) t (a + 1) (get_or t a 0) (λ i p q. push_else i (omega arith) (λ w. omega arith)),
        )

-- a counted list that lies where the two agree
words_kept : (u t : List ℕ) (c most : ℕ) → Agree u t c (1 + most) → words u (c + 1) (capped u c most) ≡ words t (c + 1) (capped t c most)
words_kept u t c most h =
    ap (λ (k : ℕ). words u (c + 1) (min k most)) (h c (omega arith) (omega arith)) ∙ words_agree u t (c + 1) (capped t c most) (λ i p q. h i (omega arith) (omega arith))

threes_kept : {A : Type 0} (f : ℕ → ℕ → ℕ → A) (u t : List ℕ) (c most : ℕ) → Agree u t c (1 + 3 * most) → threes f u (c + 1) (capped u c most) ≡ threes f t (c + 1) (capped t c most)
threes_kept f u t c most h =
    ap (λ (k : ℕ). threes f u (c + 1) (min k most)) (h c (omega arith) (omega arith)) ∙ threes_agree f u t (c + 1) (capped t c most) (λ i p q. h i (omega arith) (omega arith))

module _ {z : Sizes} (t : List ℕ) (ok : SlotOk z t) where
  module _ (w : Write) (lt : get_or t (WRITES z) 0 < z.writes) where
    write_else : (j : ℕ) → j ≢ WRITES z → (WRITES z < j → READS z ≤ j) → get_or (add_write z w t) j 0 ≡ get_or t j 0
    write_else j p q = push_else t (WRITES z) w.row w.base w.new j p (λ h. omega (arith, q (omega arith)))

    pub slot_write : slot_of z (add_write z w t) ≡ with_write (slot_of z t) w
    unfolding slot_of
    slot_write =
        let u = add_write z w t in
        λ i.
        record {
          id = write_else ID (omega arith) (λ h. omega arith) i;
          low = write_else LOW (omega arith) (λ h. omega arith) i;
          top = write_else TOP (omega arith) (λ h. omega arith) i;
          active = words_kept u t ACTIVE z.slots (λ j p q. write_else j (omega arith) (λ h. omega arith)) i;
          writes = push_list t (WRITES z) w.row w.base w.new (omega (arith, ok.long)) write z.writes lt i;
          recs = threes_kept rec u t (READS z) z.reads (λ j p q. write_else j (omega arith) (λ h. omega arith)) i;
        }

    pub ok_write : SlotOk z (add_write z w t)
    ok_write = record {
      long = rw (length_push t (WRITES z) w.row w.base w.new) ok.long;
      actives = rw (write_else ACTIVE (omega arith) (λ h. omega arith)) ok.actives;
      writes = rw (push_count t (WRITES z) w.row w.base w.new (omega (arith, ok.long))) lt;
      reads = rw (write_else (READS z) (omega arith) (λ h. omega arith)) ok.reads;
    }

  module _ (q : Rec) (lt : get_or t (READS z) 0 < z.reads) where
    rec_else : (j : ℕ) → j < READS z → get_or (add_rec z q t) j 0 ≡ get_or t j 0
    rec_else j p = push_else t (READS z) q.row q.cell q.xmin j (omega arith) (λ h. omega arith)

    rec_count : get_or (add_rec z q t) (READS z) 0 ≡ suc (get_or t (READS z) 0)
    rec_count = push_count t (READS z) q.row q.cell q.xmin (omega (arith, ok.long))

    slot_rec : slot_of z (add_rec z q t) ≡ with_recs (slot_of z t) (q ∷ [])
    unfolding slot_of
    slot_rec =
        let u = add_rec z q t in
        λ i.
        record {
          id = rec_else ID (omega arith) i;
          low = rec_else LOW (omega arith) i;
          top = rec_else TOP (omega arith) i;
          active = words_kept u t ACTIVE z.slots (λ j p w. rec_else j (omega arith)) i;
          writes = threes_kept write u t (WRITES z) z.writes (λ j p w. rec_else j (omega arith)) i;
          recs = push_list t (READS z) q.row q.cell q.xmin (omega (arith, ok.long)) rec z.reads lt i;
        }

    ok_rec : SlotOk z (add_rec z q t)
    ok_rec = record {
      long = rw (length_push t (READS z) q.row q.cell q.xmin) ok.long;
      actives = rw (rec_else ACTIVE (omega arith)) ok.actives;
      writes = rw (rec_else (WRITES z) (omega arith)) ok.writes;
      reads = rw rec_count lt;
    }

-- several records: those of a lookup
pub slot_recs : {z : Sizes} (l : List Rec) (t : List ℕ) → SlotOk z t → get_or t (READS z) 0 + length l ≤ z.reads
    → (slot_of z (add_recs z l t) ≡ with_recs (slot_of z t) l) × SlotOk z (add_recs z l t)
unfolding fold
slot_recs {z} [] t ok le = (ap (put_recs (slot_of z t)) (sym (append-nil (slot_of z t).recs)), ok)
slot_recs {z} (q ∷ l) t ok le =
    let n = rec_count t ok q (omega arith) in
    let k = slot_recs l (add_rec z q t) (ok_rec t ok q (omega arith)) (omega arith) in
    (k.0 ∙ rw (slot_rec t ok q (omega arith)) (ap (put_recs (slot_of z t)) (append_snoc (slot_of z t).recs q l)), k.1)

pub recs_length : {z : Sizes} (t : List ℕ) → SlotOk z t → length (slot_of z t).recs ≡ get_or t (READS z) 0
unfolding slot_of
recs_length {z} t ok = length_threes rec t (READS z + 1) (capped t (READS z) z.reads) ∙ capped_is t (READS z) z.reads ok.reads

-- ---- begin and end
pub sets_else : (vs t : List ℕ) (a j : ℕ) → (a ≤ j → a + length vs ≤ j) → get_or (sets t a vs) j 0 ≡ get_or t j 0
sets_else [] t a j h = refl
sets_else (v ∷ vs) t a j h = sets_else vs (set t a v) (suc a) j (λ p. omega (arith, h (omega arith))) ∙ get_or-set_other t a j v 0 (λ e. omega (arith, h (omega arith)))

-- a run of stores is read back
pub sets_words : (vs t : List ℕ) (a : ℕ) → a + length vs ≤ length t → words (sets t a vs) a (length vs) ≡ vs
unfolding words
sets_words [] t a h = refl
sets_words (v ∷ vs) t a h =
    rw (sets_else vs (set t a v) (suc a) a (λ p. omega arith), get_or-set_same t a v 0 (omega arith), add-one a, sets_words vs (set t a v) (suc a) (simp length-set (omega arith)))

module _ {z : Sizes} (t : List ℕ) (ok : SlotOk z t) (id low top : ℕ) (active : List ℕ) (few : length active ≤ z.slots) where
  abbrev front : List ℕ
  front = id ∷ low ∷ top ∷ length active ∷ active

  abbrev new : List ℕ
  new = opened z t id low top active

  opened_words : words new ID (length front) ≡ front
  unfolding opened
  opened_words =
      let s = sets t ID front in
      words_agree (set (set s (WRITES z) 0) (READS z) 0) s ID (length front) (λ i p q. get_or-set_other (set s (WRITES z) 0) (READS z) i 0 0 (omega arith) ∙ get_or-set_other s (WRITES z) i 0 0 (omega arith))
      ∙ sets_words front t ID (omega (arith, ok.long))

  opened_active : get_or new ACTIVE 0 ≡ length active
  unfolding words
  opened_active = ap (λ (l : List ℕ). get_or l 3 0) opened_words

  opened_writes : get_or new (WRITES z) 0 ≡ 0
  unfolding opened
  opened_writes =
      let s = sets t ID front in
      get_or-set_other (set s (WRITES z) 0) (READS z) (WRITES z) 0 0 (omega arith) ∙ get_or-set_same s (WRITES z) 0 0 (simp length-sets (omega (arith, ok.long)))

  opened_reads : get_or new (READS z) 0 ≡ 0
  unfolding opened
  opened_reads = get_or-set_same (set (sets t ID front) (WRITES z) 0) (READS z) 0 0 (simp (length-set, length-sets) (omega (arith, ok.long)))

  pub ok_opened : SlotOk z new
  unfolding opened
  ok_opened = record {
    long = simp (length-set, length-sets) ok.long;
    actives = rw opened_active few;
    writes = rw opened_writes (omega arith);
    reads = rw opened_reads (omega arith);
  }

  pub slot_opened : slot_of z new ≡ new_slot id low top active
  unfolding slot_of words threes
  slot_opened =
      let e = opened_words in
      λ i.
      record {
        id = ap (λ (l : List ℕ). get_or l 0 0) e i;
        low = ap (λ (l : List ℕ). get_or l 1 0) e i;
        top = ap (λ (l : List ℕ). get_or l 2 0) e i;
        active = (ap (words new 4) (capped_is new ACTIVE z.slots (rw opened_active few) ∙ opened_active) ∙ ap (drop 4) e) i;
        writes = ap (threes write new (WRITES z + 1)) (capped_zero new (WRITES z) z.writes opened_writes) i;
        recs = ap (threes rec new (READS z + 1)) (capped_zero new (READS z) z.reads opened_reads) i;
      }

-- a slot of which every word is 0
get_d_zeros : (n i : ℕ) → ◌≡◌ {A = ℕ} (get_or (replicate n 0) i 0) 0
get_d_zeros zero i = refl
get_d_zeros (suc n) zero = refl
get_d_zeros (suc n) (suc i) = get_d_zeros n i

pub slot_emptied : (z : Sizes) → slot_of z (emptied z) ≡ new_slot 0 0 0 []
unfolding slot_of words threes
slot_emptied z =
    let e = get_d_zeros z.width in
    λ i.
    record {
      id = e ID i;
      low = e LOW i;
      top = e TOP i;
      active = ap (words (emptied z) (ACTIVE + 1)) (capped_zero (emptied z) ACTIVE z.slots (e ACTIVE)) i;
      writes = ap (threes write (emptied z) (WRITES z + 1)) (capped_zero (emptied z) (WRITES z) z.writes (e (WRITES z))) i;
      recs = ap (threes rec (emptied z) (READS z + 1)) (capped_zero (emptied z) (READS z) z.reads (e (READS z))) i;
    }

pub emptied_ok : (z : Sizes) → Roomy z → SlotOk z (emptied z)
emptied_ok z rm = record {
  long = rw (length-replicate {A = ℕ} z.width 0) rm.room;
  actives = rw (get_d_zeros z.width ACTIVE) (omega arith);
  writes = rw (get_d_zeros z.width (WRITES z)) (omega arith);
  reads = rw (get_d_zeros z.width (READS z)) (omega arith);
}
