-- An accepted creation leaves a store of which all that holds is true, and a history in which nothing has happened.
use Rattle.std.specs.Prelude.{cond, true, ◌≢◌, ◌≡◌, ℕ, suc, zero, ◌<◌, ◌+◌, ◌≤◌, ltb, leb, get_or, set, length, take}
use mathlib.Core.List.{List, [], ◌∷◌, map, ◌++◌}
use Rattle.std.proofs.Math.Path.{refl, subst}
use Rattle.std.proofs.Common.{◌∙◌, ap, sym, le_of_suc-le-suc, arith, length-set, get_or-set_other, get_or-set_same, ne_eqb, ltb-true, ltb-false, le-ltb, lt-ltb, eq-eqb, leb-true, le-leb}
use Rattle.std.proofs.Math.ListN.{replicate, length-replicate, get_or-replicate}
use Rattle.std.proofs.lemmas.List.Edits.{sets, sets-eq}
use Rattle.std.proofs.Math.Seq.{length-sets}
use Rattle.kinds.specs.declared.Version.{Version}
use Rattle.words.specs.Sizes.{Sizes, meta_words, Roomy, FREE, ROWS, CELLS, CLOCK}
use Rattle.words.specs.Lists.{from}
use Rattle.kinds.specs.Versions.{words_of, version_of, empty_version, cell_at, link_at, version_at}
use Rattle.words.specs.Slots.{emptied, Slot, slot_of}
use Rattle.rules.specs.Memory.{Mem, head_at, free}
use Rattle.rules.specs.Outcome.{fits}
use Rattle.rules.specs.Create.{fresh_cells, created}
use Rattle.rules.proofs.Theory.Cases.{by_eq, by_bool, and_true}
use Rattle.rules.proofs.Theory.SlotLaws.{slot_emptied, emptied_ok}
use Rattle.rules.specs.Theory.Shape.{Shaped}
use Rattle.rules.specs.Theory.View.{slots_of, empty_slot, view_of}
use Rattle.rules.specs.Theory.Effects.{slot_v}
use Rattle.rules.specs.Theory.Counting.{sum, cnt, bit}
use Rattle.rules.proofs.Theory.Counting.{cnt_other, cnt_same}
use Rattle.rules.specs.Theory.Inv.{inb, Spelled, in_slot}
use Rattle.rules.proofs.Theory.Good.{Good}
use Rattle.rules.specs.Theory.CreateCall.{Fits, fresh_hist}

unfoldable first₀ : List ℕ → ℕ
first₀ [] = 0
first₀ (c ∷ l) = c

unfoldable next_free : ℕ → ℕ → ℕ
next_free N c = cond (ltb c N) (suc c) 0

get_d_rep : {A : Type 0} (n i : ℕ) (d : A) → get_or (replicate n d) i d ≡ d
get_d_rep zero i d = refl
get_d_rep (suc n) zero d = refl
get_d_rep (suc n) (suc i) d = get_d_rep n i d

sum_rep : {A : Type 0} (f : A → ℕ) (n : ℕ) (d : A) → f d ≡ 0 → sum f (replicate n d) ≡ 0
unfolding sum
sum_rep f zero d z = refl
sum_rep f (suc n) d z = omega (arith, sum_rep f n d z)

cnt_low : (x a k : ℕ) → x < a → cnt x (from a k) ≡ 0
unfolding from cnt
cnt_low x a zero h = refl
cnt_low x a (suc k) h = cnt_other x a (from (suc a) k) (omega arith) ∙ cnt_low x (suc a) k (omega arith)

cnt_high : (x a k : ℕ) → a + k ≤ x → cnt x (from a k) ≡ 0
unfolding from cnt
cnt_high x a zero h = refl
cnt_high x a (suc k) h = cnt_other x a (from (suc a) k) (omega arith) ∙ cnt_high x (suc a) k (omega arith)

cnt_mid : (x a k : ℕ) → a ≤ x → x < a + k → cnt x (from a k) ≡ 1
unfolding from
cnt_mid x a zero h l = absurd (omega arith)
cnt_mid x a (suc k) h l = by_eq x a
    (λ e. rw e (cnt_same a (from (suc a) k) ∙ ap suc (cnt_low a (suc a) k (omega arith))))
    (λ ne. cnt_other x a (from (suc a) k) ne ∙ cnt_mid x (suc a) k (omega arith) (omega arith))

cnt_fresh : (N x : ℕ) → cnt x (from 1 N) ≡ inb (suc N) x
unfolding inb bit
cnt_fresh N x = by_eq x 0 (λ e. rw (e, cnt_low 0 1 N (omega arith)) refl)
    (λ nz. rw (ne_eqb x 0 nz) (by_bool (ltb x (suc N))
    (λ e. rw e (cnt_mid x 1 N (omega arith) (omega (arith, ltb-true x (suc N) e))))
    (λ e. rw e (cnt_high x 1 N (omega (arith, ltb-false x (suc N) e))))))

next_first : (N a k : ℕ) → a + k ≡ N → next_free N a ≡ first₀ (from (suc a) k)
unfolding next_free from first₀
next_first N a zero e = rw (le-ltb a N (omega arith))
next_first N a (suc k) e = rw (lt-ltb a N (omega arith))

spelled_from : (f : ℕ → ℕ) (N a k : ℕ) → ((c : ℕ) → c ≢ 0 → c ≤ N → f c ≡ next_free N c) → a ≢ 0 → a + k ≡ suc N → Spelled f (first₀ (from a k)) (from a k)
unfolding from first₀
spelled_from f N a zero hf nz e = refl
spelled_from f N a (suc k) hf nz e = (refl, nz, rw (hf a nz (omega arith), next_first N a k (omega arith)) (spelled_from f N (suc a) k hf (omega arith) (omega arith)))

-- what a run of stores leaves
module _ {A : Type 0} where
  get_below : (vs l : List A) (a j : ℕ) (d : A) → j < a → get_or (sets l a vs) j d ≡ get_or l j d
  get_below [] l a j d h = refl
  get_below (v ∷ vs) l a j d h = get_below vs (set l a v) (suc a) j d (omega arith) ∙ get_or-set_other l a j v d (omega arith)

  get_sets : (vs l : List A) (a j : ℕ) (d : A) → j < length vs → a + length vs ≤ length l → get_or (sets l a vs) (a + j) d ≡ get_or vs j d
  get_sets [] l a j d h le = absurd (omega arith)
  get_sets (v ∷ vs) l a zero d h le =
      let e : a + 0 ≡ a = omega arith in
      rw (e, get_below vs (set l a v) (suc a) a d (omega arith)) (get_or-set_same l a v d (omega arith))
  get_sets (v ∷ vs) l a (suc j) d h le =
      let e : a + suc j ≡ suc a + j = omega arith in
      rw e (get_sets vs (set l a v) (suc a) j d (omega arith) (simp length-set (omega arith)))

  get_first : (vs l : List A) (j : ℕ) (d : A) → j < length vs → length vs ≤ length l → get_or (sets l 0 vs) j d ≡ get_or vs j d
  get_first vs l j d h le =
      let e : j ≡ 0 + j = omega arith in
      subst (λ (x : ℕ). get_or (sets l 0 vs) x d ≡ get_or vs j d) (sym e) (get_sets vs l 0 j d h (omega arith))

length_fresh : (k c : ℕ) → length (fresh_cells k c) ≡ k
unfolding fresh_cells
length_fresh zero c = refl
length_fresh (suc k) c = ap suc (length_fresh k (c + 1))

-- the link of the j-th of k fresh cells from c on
fresh_link : (N k c j : ℕ) → j < k → c + k ≡ suc N → get_or (get_or (fresh_cells k c) j []) 7 0 ≡ next_free N (c + j)
unfolding fresh_cells next_free words_of
fresh_link N zero c j h e = absurd (omega arith)
fresh_link N (suc k) c zero h e =
    let q : c + 0 ≡ c = omega arith in
    rw q (by_eq k 0 (λ z. rw (eq-eqb k 0 z, le-ltb c N (omega arith))) (λ nz. rw (ne_eqb k 0 nz, lt-ltb c N (omega arith)) (omega arith)))
fresh_link N (suc k) c (suc j) h e = let q : c + suc j ≡ c + 1 + j = omega arith in rw q (fresh_link N k (c + 1) j (omega arith) (omega arith))

pub fitting : {z : Sizes} (m : Mem z) (r n : ℕ) → fits m r n ≡ true → Fits m r n
unfolding fits
fitting {z} m r n e =
    let a1 = and_true (leb 1 r) _ e in
    let a2 = and_true (leb r z.rows) _ a1.1 in
    let a3 = and_true (leb 1 n) _ a2.1 in
    let a4 = and_true (leb n z.cells) _ a3.1 in
    let a5 = and_true (leb meta_words (length m.meta)) _ a4.1 in
    let a6 = and_true (leb r (length m.rows)) _ a5.1 in
    let a7 = and_true (leb n (length m.cells)) _ a6.1 in
    record {
      some_rows = leb-true 1 r a1.0;
      most_rows = leb-true _ _ a2.0;
      some_cells = leb-true 1 n a3.0;
      most_cells = leb-true _ _ a4.0;
      metas = leb-true _ _ a5.0;
      rows = leb-true _ _ a6.0;
      cells = leb-true _ _ a7.0;
      slots = leb-true _ _ a7.1;
    }

pub fits_true : {z : Sizes} (m : Mem z) (r n : ℕ) → Fits m r n → fits m r n ≡ true
unfolding fits
fits_true m r n f =
    rw (le-leb 1 r f.some_rows, le-leb r _ f.most_rows, le-leb 1 n f.some_cells, le-leb n _ f.most_cells, le-leb meta_words _ f.metas, le-leb r _ f.rows, le-leb n _ f.cells, le-leb _ _ f.slots)

map_take_rep : {A B : Type 0} (f : A → B) (k : ℕ) (a : A) (l : List A) → map f (take k (replicate k a ++ l)) ≡ replicate k (f a)
map_take_rep f zero a l = refl
map_take_rep {B = B} f (suc k) a l = ap (λ (r : List B). f a ∷ r) (map_take_rep f k a l)

slots_fresh : (z : Sizes) (ss : List (List ℕ)) → z.slots ≤ length ss → slots_of z (sets ss 0 (replicate z.slots (emptied z))) ≡ replicate z.slots empty_slot
unfolding slots_of
slots_fresh z ss h =
    ap (slots_of z) (sets-eq (replicate z.slots (emptied z)) ss 0 (rw (length-replicate {A = List ℕ} z.slots (emptied z)) (omega arith)))
    ∙ map_take_rep (slot_of z) z.slots (emptied z) _ ∙ ap (replicate z.slots) (slot_emptied z)

first_is : (N : ℕ) → 1 ≤ N → 1 ≡ first₀ (from 1 N)
unfolding first₀ from
first_is zero h = absurd (omega arith)
first_is (suc N) h = refl

-- the version of the j-th of k fresh cells
fresh_version : (k c j : ℕ) → version_of (get_or (fresh_cells k c) j []) ≡ empty_version
unfolding fresh_cells version_of words_of
fresh_version zero c j = refl
fresh_version (suc k) c zero = refl
fresh_version (suc k) c (suc j) = fresh_version k (c + 1) j

module _ {z : Sizes} (rm : Roomy z) (m : Mem z) (N R : ℕ) (f : Fits m R N) where
  abbrev k : Mem z
  k = created m N R

  meta_is : (j : ℕ) → j < meta_words → get_or k.meta j 0 ≡ get_or (R ∷ N ∷ 1 ∷ 1 ∷ []) j 0
  unfolding created
  meta_is j h = get_first (R ∷ N ∷ 1 ∷ 1 ∷ []) m.meta j 0 h f.metas

  heads_are : (r : ℕ) → r < R → head_at k r ≡ 0
  unfolding created
  heads_are r h = get_first (replicate R 0) m.rows r 0 (rw (length-replicate {A = ℕ} R 0) h) (rw (length-replicate {A = ℕ} R 0) f.rows) ∙ get_d_rep R r 0

  cell_is : (c : ℕ) → c < N → cell_at k.cells (suc c) ≡ get_or (fresh_cells N 1) c []
  unfolding created cell_at
  cell_is c le = get_first (fresh_cells N 1) m.cells c [] (rw (length_fresh N 1) le) (rw (length_fresh N 1) f.cells)

  links_are : (c : ℕ) → c ≢ 0 → c ≤ N → link_at k.cells c ≡ next_free N c
  links_are zero nz le = absurd (nz refl)
  links_are (suc c) nz le =
      let e : 1 + c ≡ suc c = omega arith in
      ap (λ (w : List ℕ). get_or w 7 0) (cell_is c le) ∙ fresh_link N N 1 c le (omega arith) ∙ ap (next_free N) e

  versions_are : (c : ℕ) → c ≢ 0 → c ≤ N → version_at k.cells c ≡ empty_version
  versions_are zero nz le = absurd (nz refl)
  versions_are (suc c) nz le = ap version_of (cell_is c le) ∙ fresh_version N 1 c

  slots_are : slots_of z k.slots ≡ replicate z.slots empty_slot
  unfolding created
  slots_are = slots_fresh z m.slots f.slots

  slot_is : (i : ℕ) → slot_v (view_of k) i ≡ empty_slot
  slot_is i = ap (λ (l : List Slot). get_or l i empty_slot) slots_are ∙ get_d_rep z.slots i empty_slot

  free_first : free k ≡ first₀ (from 1 N)
  free_first = meta_is FREE (omega arith) ∙ first_is N f.some_cells

  fresh_shaped : Shaped k
  unfolding created
  fresh_shaped =
      let er = meta_is ROWS (omega arith) in
      let en = meta_is CELLS (omega arith) in
      record {
        roomy = rm;
        some_rows = rw er f.some_rows;
        most_rows = rw er f.most_rows;
        some_cells = rw en f.some_cells;
        most_cells = rw en f.most_cells;
        metas = rw (length-sets m.meta 0 (R ∷ N ∷ 1 ∷ 1 ∷ [])) f.metas;
        rows = omega (arith, er, f.rows, length-sets m.rows 0 (replicate R 0));
        cells = omega (arith, en, f.cells, length-sets m.cells 0 (fresh_cells N 1));
        slots = record {
          count = rw (length-sets m.slots 0 (replicate z.slots (emptied z))) f.slots;
          each = λ s lt.
              let n = length-replicate {A = List ℕ} z.slots (emptied z) in
              rw (get_first (replicate z.slots (emptied z)) m.slots s [] (rw n lt) (rw n f.slots), get_or-replicate z.slots s (emptied z) [] lt) (emptied_ok z rm);
        };
      }

  pub fresh_good : Good R N k fresh_hist
  unfolding cnt
  fresh_good = record {
    shaped = fresh_shaped;
    rows = meta_is ROWS (omega arith);
    cells = meta_is CELLS (omega arith);
    ghost = record { rows = replicate R []; fl = from 1 N };
    inv = record {
      once = λ x. rw slots_are (omega (arith, cnt_fresh N x, sum_rep (cnt x) R [] refl, sum_rep (in_slot x) z.slots empty_slot refl));
      ticking = λ e. omega (arith, meta_is CLOCK (omega arith));
      rowed = length-replicate {A = List ℕ} R [];
      chain = λ r lt. rw (get_d_rep {A = List ℕ} R r []) (heads_are r lt);
      frees = subst (λ (x : ℕ). Spelled (link_at k.cells) x (from 1 N)) (sym free_first) (spelled_from (link_at k.cells) N 1 N links_are (omega arith) (omega arith));
      tops = λ r. rw (get_d_rep {A = List ℕ} R r []);
      known = λ i. rw (slot_is i);
      closed = λ i e. rw (slot_is i);
      opens = λ i op. absurd (op (rw (slot_is i)));
    };
    locks = record {
      held = λ i op. absurd (op (rw (slot_is i)));
      only = λ c nz lt l. absurd (l (ap (λ (v : Version). v.locked) (versions_are c nz (le_of_suc-le-suc lt))));
    };
  }

pub create_good : {z : Sizes} (m : Mem z) (n r : ℕ) → Roomy z → fits m r n ≡ true → Good r n (created m n r) fresh_hist
create_good m n r rm e = fresh_good rm m n r (fitting m r n e)
