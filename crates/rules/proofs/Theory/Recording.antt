-- The records that a read adds are right: their cells stand in their rows' chains and are seen; one record a row; within the limit.
use Rattle.std.specs.Prelude.{true, false, List, ◌++◌, [], ◌∷◌, ◌≢◌, ◌≡◌, refl, ℕ, suc, ◌<◌, eqb, leb, get_or, length}
use Rattle.std.proofs.lemmas.Bool.{false≢true}
use Rattle.std.proofs.Common.{append-nil, sym, ◌∙◌, subst, arith, length-append}
use Rattle.std.proofs.Math.Option.{Option, none, some}
use borrow.Author.Tests.{eqb-false, leb-false}
use Rattle.words.specs.Sizes.{Sizes}
use Rattle.words.specs.Slots.{Rec, Slot, Write}
use Rattle.rules.specs.Chain.{Look}
use Rattle.rules.specs.Outcome.{is_cell}
use Rattle.rules.specs.Read.{recorded, sight_of, own, own_sight, read_row}
use Rattle.rules.specs.Reachable.{All}
use Rattle.rules.proofs.Theory.Cases.{by_eq, or_false, by_bool}
use Rattle.rules.specs.Theory.View.{View}
use Rattle.rules.specs.Theory.Effects.{slot_v}
use Rattle.rules.specs.Theory.Counting.{cnt}
use Rattle.rules.proofs.Theory.Counting.{cnt_other}
use Rattle.rules.specs.Theory.Inv.{Apart, Ver, Single, vis, Recorded, Ghost, vers, Hist, Inv, ver_of}
use Rattle.rules.proofs.Theory.Chains.{row_below}
use Rattle.rules.proofs.Theory.Reading.{Looks, too_far, at_end_lem, at_cell, look_pick}
use Rattle.rules.specs.Theory.Recording.{Rightly, Noted}

pub all_append : {A : Type 0} (P : A → Type 0) (l k : List A) → All P l → All P k → All P (l ++ k)
all_append P [] k a b = b
all_append P (q ∷ l) k a b = (a.0, all_append P l k a.1 b)

apart_snoc : (q : Rec) (l : List Rec) → Apart l → All (λ p. p.row ≢ q.row) l → Apart (l ++ (q ∷ []))
apart_snoc q [] a b = (tt, tt)
apart_snoc q (p ∷ l) a b = (all_append _ l (q ∷ []) a.0 ((λ e. b.0 (sym e)), tt), apart_snoc q l a.1 b.1)

-- of a chain t sees one version
pub single_unique : (t : Slot) (f : ℕ → Ver) (l : List ℕ) (c d : ℕ) → Single t f l → cnt c l ≢ 0 → cnt d l ≢ 0 → vis t (f c) ≡ true → vis t (f d) ≡ true → c ≡ d
unfolding cnt
single_unique t f [] c d s a b v w = absurd (a refl)
single_unique t f (x ∷ l) c d s a b v w = by_eq c x
    (λ p. by_eq d x (λ q. p ∙ sym q)
    (λ q. absurd (false≢true (sym (s.0 (subst (λ (k : ℕ). vis t (f k) ≡ true) p v) d (λ z. b (cnt_other d x l q ∙ z))) ∙ w))))
    (λ p. by_eq d x
    (λ q. absurd (false≢true (sym (s.0 (subst (λ (k : ℕ). vis t (f k) ≡ true) q w) c (λ z. a (cnt_other c x l p ∙ z))) ∙ v)))
    (λ q. single_unique t f l c d s.1 (λ z. a (cnt_other c x l p ∙ z)) (λ z. b (cnt_other d x l q ∙ z)) v w))

-- a cell seen of row r and not recorded: the row is not recorded
pub row_unrecorded : (t : Slot) (f : ℕ → Ver) (rows : List (List ℕ)) (r c : ℕ) → Single t f (get_or rows r []) → cnt c (get_or rows r []) ≢ 0 → vis t (f c) ≡ true
    → (rs : List Rec) → All (Recorded f rows t) rs → recorded c rs ≡ false → All (λ p. p.row ≢ r) rs
unfolding recorded
row_unrecorded t f rows r c si a v [] k e = tt
row_unrecorded t f rows r c si a v (q ∷ l) k e =
    let o = or_false (eqb c q.cell) (recorded c l) e in (
      (λ y. eqb-false c q.cell o.0 (single_unique t f (get_or rows r []) c q.cell si a (subst (λ (x : ℕ). cnt q.cell (get_or rows x []) ≢ 0) y k.0.placed) v k.0.seen)),
      row_unrecorded t f rows r c si a v l k.1 o.1,
    )

module _ (z : Sizes) (R n : ℕ) (st : View) (g : Ghost) (h : Hist) (i r : ℕ) (iv : Inv R (suc n) st g h []) (op : (slot_v st i).id ≢ 0) (in_r : r < R) (rs : List Rec) (ok : Rightly z st g i rs) where
  abbrev row : List ℕ
  row = get_or g.rows r []

  same_recs : Rightly z st g i (rs ++ [])
  same_recs = rw (append-nil rs) ok

  noted_look : (k : Look) → Looks z.walk (slot_v st i) (vers st) row k → Noted z st g i rs (sight_of z n st.vers (st.heads r) (slot_v st i) rs r k)
  unfolding sight_of ver_of
  noted_look _ (too_far b) = tt
  noted_look _ (at_end_lem le p) = same_recs
  noted_look _ (at_cell c p s) =
      by_bool (recorded c rs) (λ y. rw y same_recs)
      (λ y. rw y (by_bool (leb z.reads (length rs)) (λ f. rw f tt)
      (λ f. rw f (record {
        sound = all_append _ rs _ ok.sound (record { placed = s.among; minned = refl; seen = s.sees }, tt);
        single = apart_snoc _ rs ok.single (row_unrecorded (slot_v st i) (vers st) g.rows r c ((iv.opens i op).single r) s.among s.sees rs ok.sound y);
        few = rw (length-append rs _) (omega (arith, leb-false z.reads (length rs) f));
      }))))

  noted_own : (o : Option Write) → Noted z st g i rs (own_sight z n st.vers (st.heads r) (slot_v st i) rs r o)
  unfolding own_sight
  noted_own none = noted_look _ (look_pick n z.walk (slot_v st i) st.vers (st.heads r) row (row_below R n st g h r iv) (iv.chain r in_r))
  noted_own (some w) = by_bool (is_cell n w.new) (λ e. rw e same_recs) (λ e. rw e tt)

  pub noted : Noted z st g i rs (read_row z n st.vers (st.heads r) (slot_v st i) rs r)
  unfolding read_row
  noted = noted_own (own (slot_v st i).writes r)
