-- What upstream's terms ask of a store beyond demand 3, over views: every version in a chain has a creator, no open transaction's id stands
-- in a chain as xmin, and a cell that is in no chain links to nothing. It is kept by each effect of a call.
use Rattle.std.specs.Prelude.{ℕ, ◌<◌, ◌≤◌, ◌≢◌, ◌⊎◌, ◌≡◌, get_or}
use mathlib.Core.List.{List, [], ◌∷◌}
use Rattle.std.proofs.Common.{inl, inr, ⊎_elim, sym, ap, ◌∙◌, arith, eq-eqb, ne_eqb}
use Rattle.std.proofs.Math.Path.{refl, subst}
use Rattle.kinds.specs.declared.Version.{Version}
use Rattle.words.specs.Lists.{fold}
use Rattle.kinds.specs.Versions.{with_xmax, with_lock, empty_version}
use Rattle.words.specs.Slots.{Write}
use Rattle.rules.specs.Reachable.{All}
use Rattle.rules.proofs.Theory.Cases.{by_eq}
use Rattle.rules.specs.Theory.View.{View, upd}
use Rattle.rules.proofs.Theory.View.{upd_same, upd_other}
use Rattle.rules.specs.Theory.Effects.{slot_v, publish_v, publish_all_v, give_v, give_all_v, mark_v}
use Rattle.rules.specs.Theory.Counting.{cnt}
use Rattle.rules.proofs.Theory.Counting.{cnt_head, cnt_tail, cnt_other}
use Rattle.rules.specs.Theory.Inv.{nexts, Spelled, in_slot, Inv, Ghost, Hist}
use Rattle.rules.proofs.Theory.Places.{chain_cell, spelled_first}
use Rattle.rules.specs.Theory.Publish.{of_next}
use Rattle.rules.proofs.Theory.Publish.{part_off, part_on, part_same}
use Rattle.upstream.specs.Born.{min_of, of_min, On, Lows, Born, Ready, Distinct, next, head}

-- ---- chains as lists
spelled_next : (nx : ℕ → ℕ) (h : ℕ) (l : List ℕ) (d : ℕ) → Spelled nx h l → cnt d l ≢ 0 → nx d ≢ 0 → cnt (nx d) l ≢ 0
unfolding cnt
spelled_next nx h [] d s nz k = absurd (nz refl)
spelled_next nx h (c ∷ l) d s nz k = by_eq d c
    (λ e. let f : nx c ≢ 0 = λ z. k (ap nx e ∙ z) in λ z. spelled_first nx (nx c) l s.2 f (cnt_tail (nx c) c l (subst (λ (y : ℕ). cnt (nx y) (c ∷ l) ≡ 0) e z)))
    (λ ne. λ z. spelled_next nx (nx c) l d s.2 (λ y. nz (cnt_other d c l ne ∙ y)) k (cnt_tail (nx d) c l z))

module _ (R : ℕ) (st : View) where
  -- what stands in a chain is in the list that spells it
  pub on_listed : (lists : ℕ → List ℕ) → ((r : ℕ) → r < R → Spelled (nexts st) (st.heads r) (lists r)) → {c : ℕ} → On R st c → (r : ℕ) × (r < R) × (cnt c (lists r) ≢ 0)
  on_listed lists s {c} (head r lt e nz) = (r, lt, subst (λ (x : ℕ). cnt x (lists r) ≢ 0) e (spelled_first (nexts st) (st.heads r) (lists r) (s r lt) (λ z. nz (sym e ∙ z))))
  on_listed lists s {c} (next d o e nz) =
      let k = on_listed lists s o in
      (k.0, k.1, subst (λ (x : ℕ). cnt x (lists k.0) ≢ 0) e (spelled_next (nexts st) (st.heads k.0) (lists k.0) d (s k.0 k.1) k.2 (λ z. nz (sym e ∙ z))))

  pub listed_on : (l : List ℕ) (h : ℕ) → Spelled (nexts st) h l → (h ≢ 0 → On R st h) → (c : ℕ) → cnt c l ≢ 0 → On R st c
  unfolding cnt
  listed_on [] h s f c nz = absurd (nz refl)
  listed_on (d ∷ l) h s f c nz =
      let here : On R st d = subst (On R st) s.0 (f (λ z. s.1 (sym s.0 ∙ z))) in
      by_eq c d (λ e. subst (On R st) (sym e) here)
      (λ ne. listed_on l (nexts st d) s.2 (λ k. next d here refl k) c (λ y. nz (cnt_other c d l ne ∙ y)))

module _ (R n : ℕ) (st : View) (g : Ghost) (h : Hist) (iv : Inv R n st g h []) where
  pub on_row : {c : ℕ} → On R st c → (r : ℕ) × (r < R) × (cnt c (get_or g.rows r []) ≢ 0)
  on_row o = on_listed R st (λ r. get_or g.rows r []) iv.chain o

  pub row_on : (r c : ℕ) → r < R → cnt c (get_or g.rows r []) ≢ 0 → On R st c
  row_on r c lt nz = listed_on R st (get_or g.rows r []) (st.heads r) (iv.chain r lt) (λ k. head r lt refl k) c nz

  pub on_inside : {c : ℕ} → On R st c → (c ≢ 0) × (c < n)
  on_inside {c} o = let k = on_row o in let q = chain_cell R n st g h [] c k.0 iv k.2 in (q.real, q.inside)

  -- it is in no write set and not free
  pub on_unslot : {c : ℕ} → On R st c → (i : ℕ) → in_slot c (slot_v st i) ≡ 0
  on_unslot {c} o i = let k = on_row o in (chain_cell R n st g h [] c k.0 iv k.2).unslot i

  pub on_unfree : {c : ℕ} → On R st c → cnt c g.fl ≡ 0
  on_unfree {c} o = let k = on_row o in (chain_cell R n st g h [] c k.0 iv k.2).unfree

-- ---- the heads stay, and the links and creators of all cells but some that stand in no chain and link to nothing after
module _ (R n : ℕ) (st st' : View) (gone : List ℕ) (hd : (r : ℕ) → st'.heads r ≡ st.heads r)
    (kept : (c : ℕ) → cnt c gone ≡ 0 → (min_of st' c ≡ min_of st c) × (nexts st' c ≡ nexts st c))
    (new : (c : ℕ) → cnt c gone ≢ 0 → (min_of st' c < st'.clock) × (nexts st' c ≡ 0))
    (off : (c : ℕ) → On R st c → cnt c gone ≡ 0) (tick : st.clock ≤ st'.clock) where
  there : {c : ℕ} → On R st c → On R st' c
  there (head r lt e nz) = head r lt (hd r ∙ e) nz
  there (next d o e nz) = next d (there o) ((kept d (off d o)).1 ∙ e) nz

  back : {c : ℕ} → On R st' c → On R st c
  back (head r lt e nz) = head r lt (sym (hd r) ∙ e) nz
  back (next d o e nz) = let b = back o in next d b (sym (kept d (off d b)).1 ∙ e) nz

  pub frame : Born R n st → ((c j : ℕ) → c ≢ 0 → c < n → (slot_v st' j).id ≢ 0 → min_of st' c ≡ (slot_v st' j).id → in_slot c (slot_v st' j) ≢ 0)
      → ((j : ℕ) → Lows (slot_v st' j)) → Born R n st'
  frame b ow lw = record {
    past = λ c nz lt. by_eq (cnt c gone) 0 (λ z. let e = (kept c z).0 in let p = b.past c nz lt in omega arith) (λ k. (new c k).0);
    real = λ c o. let k = back o in λ z. b.real c k (sym (kept c (off c k)).0 ∙ z);
    bare = λ c nz lt no. by_eq (cnt c gone) 0 (λ z. (kept c z).1 ∙ b.bare c nz lt (λ o. no (there o))) (λ k. (new c k).1);
    own = ow;
    lows = lw;
  }

-- ---- cells given back
pub give_stays : (l : List ℕ) (st : View) (c : ℕ) → cnt c l ≡ 0 → (give_all_v l st).vers c ≡ st.vers c
unfolding fold
give_stays [] st c z = refl
give_stays (d ∷ l) st c z = give_stays l (give_v d st) c (cnt_tail c d l z) ∙ upd_other st.vers d c empty_version (cnt_head c d l z)

pub give_gone : (l : List ℕ) (st : View) (c : ℕ) → cnt c l ≢ 0 → (give_all_v l st).vers c ≡ empty_version
unfolding fold cnt
give_gone [] st c nz = absurd (nz refl)
give_gone (d ∷ l) st c nz = by_eq (cnt c l) 0
    (λ z. give_stays l (give_v d st) c z
    ∙ by_eq c d (λ e. subst (λ (x : ℕ). upd st.vers d empty_version x ≡ empty_version) (sym e) (upd_same st.vers d empty_version)) (λ ne. absurd (nz (cnt_other c d l ne ∙ z))))
    (λ k. give_gone l (give_v d st) c k)

pub give_rest : (l : List ℕ) (st : View) → ((give_all_v l st).heads ≡ st.heads) × ((give_all_v l st).clock ≡ st.clock) × ((give_all_v l st).slots ≡ st.slots)
unfolding fold
give_rest [] st = (refl, refl, refl)
give_rest (d ∷ l) st = give_rest l (give_v d st)

module _ (R n id : ℕ) (st : View) (w : Write) (k : Ready R n st w) where
  abbrev st' : View
  st' = publish_v id w st

  mark_part : {A : Type 0} (F : Version → A) → ((v : Version) (x l o : ℕ) → F (with_lock (with_xmax v x) l o) ≡ F v) → (c : ℕ) → F (mark_v id w.base st.vers c) ≡ F (st.vers c)
  mark_part F blind c = by_eq w.base 0 (λ z. rw (eq-eqb w.base 0 z)) (λ z. rw (ne_eqb w.base 0 z) (part_same F st.vers w.base _ (blind (st.vers w.base) id 0 0) c))

  -- creators stay; links stay but for the new head's, which is the base
  pub pub_min : (c : ℕ) → min_of st' c ≡ min_of st c
  pub_min c = part_same of_min (mark_v id w.base st.vers) w.new _ refl c ∙ mark_part of_min (λ v x l o. refl) c

  pub_off : (c : ℕ) → c ≢ w.new → nexts st' c ≡ nexts st c
  pub_off c ne = part_off of_next (mark_v id w.base st.vers) w.new _ c ne ∙ mark_part of_next (λ v x l o. refl) c

  pub_on : nexts st' w.new ≡ w.base
  pub_on = part_on of_next (mark_v id w.base st.vers) w.new _

  top : On R st' w.new
  top = head w.row k.row (upd_same st.heads w.row w.new) k.new

  off : {c : ℕ} → On R st c → c ≢ w.new
  off o = λ e. k.loose (subst (On R st) e o)

  pub pub_there : {c : ℕ} → On R st c → On R st' c
  pub_there (head r lt e nz) = by_eq r w.row
      (λ q. next w.new top (pub_on ∙ sym k.base ∙ ap st.heads (sym q) ∙ e) nz)
      (λ q. head r lt (upd_other st.heads w.row r w.new q ∙ e) nz)
  pub_there (next d o e nz) = next d (pub_there o) (pub_off d (off o) ∙ e) nz

  pub pub_back : {c : ℕ} → On R st' c → On R st c ⊎ (c ≡ w.new)
  pub_back (head r lt e nz) = by_eq r w.row
      (λ q. inr (sym e ∙ ap st'.heads q ∙ upd_same st.heads w.row w.new))
      (λ q. inl (head r lt (sym (upd_other st.heads w.row r w.new q) ∙ e) nz))
  pub_back {c} (next d o e nz) = ⊎_elim
      (λ b. inl (next d b (sym (pub_off d (off b)) ∙ e) nz))
      (λ q. inl (head w.row k.row (k.base ∙ sym pub_on ∙ ap (nexts st') (sym q) ∙ e) nz))
      (pub_back o)

  pub publish_born : Born R n st → Born R n st'
  publish_born b = record {
    past = λ c nz lt. rw (pub_min c) (b.past c nz lt);
    real = λ c o. rw (pub_min c) (⊎_elim (λ y. b.real c y) (λ q. subst (λ (x : ℕ). min_of st x ≢ 0) (sym q) k.created) (pub_back o));
    bare = λ c nz lt no. by_eq c w.new
        (λ q. absurd (no (subst (On R st') (sym q) top)))
        (λ q. pub_off c q ∙ b.bare c nz lt (λ o. no (pub_there o)));
    own = λ c j nz lt op e. b.own c j nz lt op (sym (pub_min c) ∙ e);
    lows = b.lows;
  }

  -- another write, of another row and cell, can be published still
  pub ready_still : (x : Write) → x.row ≢ w.row → x.new ≢ w.new → Ready R n st x → Ready R n st' x
  ready_still x nr nn a = record {
    row = a.row;
    base = upd_other st.heads w.row x.row w.new nr ∙ a.base;
    new = a.new;
    created = rw (pub_min x.new) a.created;
    loose = λ o. ⊎_elim a.loose nn (pub_back o);
  }

ready_all : (R n id : ℕ) (st : View) (w : Write) → Ready R n st w → (l : List Write) → All (λ x. (x.row ≢ w.row) × (x.new ≢ w.new)) l → All (Ready R n st) l → All (Ready R n (publish_v id w st)) l
ready_all R n id st w k [] a b = tt
ready_all R n id st w k (x ∷ l) a b = (ready_still R n id st w k x a.0.0 a.0.1 b.0, ready_all R n id st w k l a.1 b.1)

pub publish_all_born : (R n id : ℕ) (ws : List Write) (st : View) → All (Ready R n st) ws → Distinct ws → Born R n st → Born R n (publish_all_v id ws st)
unfolding fold
publish_all_born R n id [] st a d b = b
publish_all_born R n id (w ∷ l) st a d b = publish_all_born R n id l (publish_v id w st) (ready_all R n id st w a.0 l d.0 a.1) d.1 (publish_born R n id st w a.0 b)
