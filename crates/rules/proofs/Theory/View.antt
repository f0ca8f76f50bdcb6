-- What the theory speaks of: a view of the memory as functions of a cell and of a row, and a list of slots.
-- Each effect of a call on the arenas is one effect on views, by one equation; the theory needs no index, no length, no word.
use Rattle.std.specs.Prelude.{List, [], map, ◌∷◌, ◌≢◌, ◌≡◌, refl, ℕ, ◌<◌, zero, suc, ◌+◌, take, get_or, set, length}
use Rattle.std.proofs.Common.{ap, subst, sym, ◌∙◌, not-suc-le-zero, le_of_suc-le-suc, get_or-set_same, get_or-set_other, eq-eqb, ne_eqb}
use Rattle.std.proofs.Math.Path.{fun_ext}
use Rattle.kinds.specs.declared.Version.{Version}
use Rattle.words.specs.Sizes.{Sizes, ACTIVE, WRITES, READS}
use Rattle.kinds.specs.Versions.{version_at, link_at, put_cell}
use Rattle.words.specs.Slots.{rec, slot_of, words, threes, write}
use Rattle.rules.proofs.Theory.Cases.{by_eq}
use Rattle.rules.proofs.Theory.SlotLaws.{capped_zero}
use Rattle.rules.specs.Theory.CellLaws.{HasCell}
use Rattle.rules.proofs.Theory.CellLaws.{put_on, put_off, put_link, put_else}
use Rattle.rules.specs.Theory.View.{empty_slot, slots_of, upd}

-- ---- a function changed at one point
module _ {A : Type 0} where
  pub upd_same : (f : ℕ → A) (i : ℕ) (a : A) → upd f i a i ≡ a
  unfolding upd
  upd_same f i a = rw (eq-eqb i i refl)

  pub upd_other : (f : ℕ → A) (i j : ℕ) (a : A) → j ≢ i → upd f i a j ≡ f j
  unfolding upd
  upd_other f i j a h = rw (ne_eqb j i h)

  -- what is told of every point makes it
  pub upd_is : (f g : ℕ → A) (i : ℕ) (a : A) → g i ≡ a → ((j : ℕ) → j ≢ i → g j ≡ f j) → g ≡ upd f i a
  upd_is f g i a e h = fun_ext (λ j. by_eq j i (λ q. subst (λ (k : ℕ). g k ≡ upd f i a k) (sym q) (e ∙ sym (upd_same f i a))) (λ n. h j n ∙ sym (upd_other f i j a n)))

module _ (cs : List (List ℕ)) (c : ℕ) (v : Version) (l : ℕ) (h : HasCell cs c) where
  pub put_vers : version_at (put_cell cs c v l) ≡ upd (version_at cs) c v
  put_vers = upd_is (version_at cs) (version_at (put_cell cs c v l)) c v (put_on cs c v l h) (λ d n. put_off cs c v l d h.low n)

  pub put_links : link_at (put_cell cs c v l) ≡ upd (link_at cs) c l
  put_links = upd_is (link_at cs) (link_at (put_cell cs c v l)) c l (put_link cs c v l h) (λ d n. ap (λ (w : List ℕ). get_or w 7 0) (put_else cs c v l d h.low n))

-- a version stored with its link kept: the links are as they were
pub keep_links : (cs : List (List ℕ)) (c : ℕ) (v : Version) → HasCell cs c → link_at (put_cell cs c v (link_at cs c)) ≡ link_at cs
keep_links cs c v h = fun_ext (λ d. by_eq d c
    (λ q. subst (λ (k : ℕ). link_at (put_cell cs c v (link_at cs c)) k ≡ link_at cs k) (sym q) (put_link cs c v (link_at cs c) h))
    (λ n. ap (λ (w : List ℕ). get_or w 7 0) (put_else cs c v (link_at cs c) d h.low n)))

-- a word of a list of words, as a function
pub set_word : (l : List ℕ) (i x : ℕ) → i < length l → (λ (j : ℕ). get_or (set l i x) j 0) ≡ upd (λ (j : ℕ). get_or l j 0) i x
set_word l i x h = upd_is (λ (j : ℕ). get_or l j 0) (λ (j : ℕ). get_or (set l i x) j 0) i x (get_or-set_same l i x 0 h) (λ j n. get_or-set_other l i j x 0 n)

-- ---- slots
map_set : {A B : Type 0} (f : A → B) (k : ℕ) (l : List A) (i : ℕ) (a : A) → map f (take k (set l i a)) ≡ set (map f (take k l)) i (f a)
map_set f zero l i a = refl
map_set f (suc k) [] i a = refl
map_set f (suc k) (x ∷ l) zero a = refl
map_set {B = B} f (suc k) (x ∷ l) (suc i) a = ap (λ (r : List B). f x ∷ r) (map_set f k l i a)

pub set_slots : (z : Sizes) (ss : List (List ℕ)) (s : ℕ) (t : List ℕ) → slots_of z (set ss s t) ≡ set (slots_of z ss) s (slot_of z t)
unfolding slots_of
set_slots z ss s t = map_set (slot_of z) z.slots ss s t

get_map : {A B : Type 0} (f : A → B) (k : ℕ) (l : List A) (i : ℕ) (d : A) → i < k → get_or (map f (take k l)) i (f d) ≡ f (get_or l i d)
get_map f zero l i d h = absurd (not-suc-le-zero h)
get_map f (suc k) [] i d h = refl
get_map f (suc k) (x ∷ l) zero d h = refl
get_map f (suc k) (x ∷ l) (suc i) d h = get_map f k l i d (le_of_suc-le-suc h)

-- no words are an empty slot
slot_nothing : (z : Sizes) → slot_of z [] ≡ empty_slot
unfolding slot_of words threes
slot_nothing z =
    λ i.
    record {
      id = 0;
      low = 0;
      top = 0;
      active = ap (words [] (ACTIVE + 1)) (capped_zero [] ACTIVE z.slots refl) i;
      writes = ap (threes write [] (WRITES z + 1)) (capped_zero [] (WRITES z) z.writes refl) i;
      recs = ap (threes rec [] (READS z + 1)) (capped_zero [] (READS z) z.reads refl) i;
    }

pub get_slots : (z : Sizes) (ss : List (List ℕ)) (s : ℕ) → s < z.slots → get_or (slots_of z ss) s empty_slot ≡ slot_of z (get_or ss s [])
unfolding slots_of
get_slots z ss s h = ap (get_or (map (slot_of z) (take z.slots ss)) s) (sym (slot_nothing z)) ∙ get_map (slot_of z) z.slots ss s [] h
