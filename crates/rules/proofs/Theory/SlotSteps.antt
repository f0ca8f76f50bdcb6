-- A slot changes: it is closed, its cells loose then; or a transaction begins in it, and its snapshot sees what is committed.
use Rattle.std.specs.Prelude.{false, true, ◌≢◌, ◌≡◌, eqb, get_or, length, set}
use Rattle.std.proofs.Common.{true≢false, ◌∙◌, arith, get_or-set_same, get_or-set_other}
use mathlib.Core.List.{List, [], ◌∷◌}
use Rattle.std.proofs.Math.Option.{Option, none}
use Rattle.std.proofs.Math.Path.{refl, ap, sym}
use Prim.Native.Nat.{zero, ℕ, ◌+◌, ◌<◌, suc, ◌≤◌}
use borrow.Author.Tests.{ne_eqb, eq-eqb, lt-ltb, le-ltb}
use Rattle.words.specs.Lists.{has, greatest, least}
use Rattle.words.specs.Slots.{Slot}
use Rattle.kinds.specs.Visible.{creator_visible}
use Rattle.rules.specs.Snapshot.{snap_top}
use Rattle.rules.specs.Abort.{news}
use Rattle.rules.specs.History.{Val}
use Rattle.rules.proofs.Theory.Cases.{by_eq, by_bool, or_true, and_false}
use Rattle.rules.specs.Theory.SlotLaws.{new_slot}
use Rattle.rules.specs.Theory.View.{View, empty_slot, upd}
use Rattle.rules.proofs.Theory.View.{upd_same, upd_other}
use Rattle.rules.specs.Theory.Effects.{born_v, slot_v, put_slot, ids_v, begin_v}
use Rattle.rules.specs.Theory.Counting.{cnt}
use Rattle.rules.proofs.Theory.Counting.{sum_set, cnt_tail}
use Rattle.rules.specs.Theory.Inv.{Top, Settled, Ver, Snap, Ghost, Hist, vers, Open, Inv, places, inb, in_slot, pick, vis, Tail, Single, Taken, own_find}
use Rattle.rules.specs.Theory.SlotSteps.{born_slot}

pub cv_zero : (s : Slot) → creator_visible s 0 ≡ false
unfolding creator_visible
cv_zero s = refl

pub open_in : (ss : List Slot) (i : ℕ) → (get_or ss i empty_slot).id ≢ 0 → i < length ss
open_in [] i h = absurd (h refl)
open_in (s ∷ l) zero h = omega arith
open_in (s ∷ l) (suc i) h = omega (arith, open_in l i h)

module _ (k k' : ℕ) (ss : List Slot) (i : ℕ) (s : Slot) (le : k ≤ k') (inSS : i < length ss) where
  pub settled_set : (x : ℕ) → s.id ≢ x → Settled k ss x → Settled k' (set ss i s) x
  settled_set x ne st = record {
    nonzero = st.nonzero;
    past = omega (arith, st.past);
    shut = λ j. by_eq j i (λ q. rw (q, get_or-set_same ss i s empty_slot inSS) ne) (λ q. rw (get_or-set_other ss i j s empty_slot q) (st.shut j));
  }

  pub top_set : (f : ℕ → Ver) (l : List ℕ) (o : Option Val) → ((x : ℕ) → Settled k ss x → s.id ≢ x) → Top f k ss l o → Top f k' (set ss i s) l o
  top_set f [] o ne t = t
  top_set f (c ∷ l) o ne t = (t.0, settled_set (f c).xmin (ne (f c).xmin t.1) t.1, t.2, λ d nz. settled_set (f d).xmax (ne (f d).xmax (t.3 d nz)) (t.3 d nz))

  pub snap_set : (j : ℕ) → j ≢ i → creator_visible (get_or ss j empty_slot) s.id ≡ false → Snap k ss j → Snap k' (set ss i s) j
  snap_set j ne hid sn =
      let e : get_or (set ss i s) j empty_slot ≡ get_or ss j empty_slot = get_or-set_other ss i j s empty_slot ne in
      record {
        begun = rw e (omega (arith, sn.begun));
        below = λ x nz lt. rw e (sn.below x nz (rw e at lt));
        hides = λ j' ne'. rw e (by_eq j' i (λ q. rw (q, get_or-set_same ss i s empty_slot inSS) hid) (λ q. rw (get_or-set_other ss i j' s empty_slot q) (sn.hides j' ne')));
        after = λ x h. rw e (sn.after x (omega arith));
      }

-- an open slot j beside the slot i that changes
module _ (R : ℕ) (st : View) (g : Ghost) (h h' : Hist) (i : ℕ) (s : Slot) (k' : ℕ) (le : st.clock ≤ k') (lt : i < length st.slots) where
  abbrev st₁ : View
  st₁ = record { vers = st.vers; links = st.links; heads = st.heads; free = st.free; clock = k'; slots = set st.slots i s }

  pub slot_beside : (j : ℕ) → j ≢ i → slot_v st₁ j ≡ slot_v st j
  slot_beside j ne = get_or-set_other st.slots i j s empty_slot ne

  pub open_beside : (j : ℕ) → j ≢ i → creator_visible (slot_v st j) s.id ≡ false → ((r : ℕ) → h'.view j r ≡ h.view j r) → ((r : ℕ) → h'.own j r ≡ h.own j r)
      → Open R st g h j → Open R st₁ g h' j
  open_beside j ne hid ev eo o =
      let e = slot_beside j ne in
      record {
        snap = snap_set st.clock k' st.slots i s le lt j ne hid o.snap;
        taken = rw e (record { self = o.taken.self; lowest = o.taken.lowest; above = o.taken.above; early = omega (arith, o.taken.early) });
        reads = λ r. rw e (o.reads r ∙ sym (ev r));
        single = λ r. rw e (o.single r);
        owns = λ r. rw e (o.owns r ∙ sym (eo r));
        entries = rw e o.entries;
        records = rw e o.records;
        apart = rw e o.apart;
      }

-- ---- close: the slot's cells are loose
module _ (R n : ℕ) (st : View) (g : Ghost) (h : Hist) (i : ℕ) (iv : Inv R n st g h []) (op : (slot_v st i).id ≢ 0) where
  abbrev pub ended_hist : Hist
  ended_hist = record { last = h.last; who = upd h.who i 0; view = h.view; own = h.own }

  closed_slot : slot_v (put_slot st i empty_slot) i ≡ empty_slot
  closed_slot = get_or-set_same st.slots i empty_slot empty_slot (open_in st.slots i op)

  other_slot : (j : ℕ) → j ≢ i → slot_v (put_slot st i empty_slot) j ≡ slot_v st j
  other_slot j ne = get_or-set_other st.slots i j empty_slot empty_slot ne

  close_counts : (x : ℕ) → places g (set st.slots i empty_slot) (news (slot_v st i).writes) x ≡ inb n x
  unfolding cnt
  close_counts x = omega (arith, iv.once x, sum_set (in_slot x) st.slots i empty_slot empty_slot (open_in st.slots i op))

  pub close_inv : Inv R n (put_slot st i empty_slot) g ended_hist (news (slot_v st i).writes)
  close_inv =
      let lt = open_in st.slots i op in
      record {
        once = close_counts;
        ticking = iv.ticking;
        rowed = iv.rowed;
        chain = iv.chain;
        frees = iv.frees;
        tops = λ r. top_set st.clock st.clock st.slots i empty_slot (omega arith) lt (vers st) (get_or g.rows r []) (h.last r) (λ x sx e. sx.nonzero (sym e)) (iv.tops r);
        known = λ j. by_eq j i (λ q. rw (q, closed_slot, upd_same h.who i 0)) (λ q. rw (other_slot j q, upd_other h.who i j 0 q) (iv.known j));
        closed = λ j z. by_eq j i (λ q. rw (q, closed_slot)) (λ q. rw (other_slot j q) (iv.closed j (rw (other_slot j q) at z)));
        opens = λ j oj. by_eq j i (λ q. absurd (oj (rw (q, closed_slot)))) (λ q.
            open_beside R st g h ended_hist i empty_slot st.clock (omega arith) lt j q (cv_zero _) (λ r. refl) (λ r. refl) (iv.opens j (rw (other_slot j q) at oj)));
      }

-- ---- begin
pub has_ids : (ss : List Slot) (j : ℕ) → (get_or ss j empty_slot).id ≢ 0 → has (get_or ss j empty_slot).id (ids_v ss) ≡ true
unfolding has ids_v
has_ids [] j nz = absurd (nz refl)
has_ids (s ∷ l) zero nz = rw (ne_eqb s.id 0 nz, eq-eqb s.id s.id refl)
has_ids (s ∷ l) (suc j) nz = by_bool (eqb s.id 0) (λ e. rw e (has_ids l j nz)) (λ e. rw (e, has_ids l j nz) (or_true (eqb (get_or l j empty_slot).id s.id)))

pub no_ids : (ss : List Slot) (x : ℕ) → ((j : ℕ) → (get_or ss j empty_slot).id ≢ x) → has x (ids_v ss) ≡ false
unfolding has ids_v
no_ids [] x h = refl
no_ids (s ∷ l) x h = by_bool (eqb s.id 0) (λ e. rw e (no_ids l x (λ j. h (suc j)))) (λ e. rw (e, ne_eqb x s.id (λ q. h 0 (sym q))) (no_ids l x (λ j. h (suc j))))

-- the snapshot's xmax is the clock's next, where no active id is above the clock
pub top_is : (k : ℕ) (l : List ℕ) → greatest l ≤ k → snap_top (k + 1) l ≡ k + 1
top_is k [] h = refl
top_is k (x ∷ l) h = omega arith

pub least_le : (d : ℕ) (l : List ℕ) → least d l ≤ d
unfolding least
least_le d [] = omega arith
least_le d (x ∷ l) = omega (arith, least_le d l)

pub least_has : (d x : ℕ) (l : List ℕ) → x < least d l → has x l ≡ false
unfolding least has
least_has d x [] h = refl
least_has d x (y ∷ l) h = rw (ne_eqb x y (omega arith)) (least_has d x l (omega arith))

pub greatest_le : (k : ℕ) (ss : List Slot) → ((j : ℕ) → (get_or ss j empty_slot).id ≤ k) → greatest (ids_v ss) ≤ k
unfolding greatest ids_v
greatest_le k [] h = omega arith
greatest_le k (s ∷ l) h =
    let r = greatest_le k l (λ j. h (suc j)) in
    let q : s.id ≤ k = h 0 in
    by_bool (eqb s.id 0) (λ e. rw e r) (λ e. rw e (omega arith))

module _ (s : Slot) (x : ℕ) (nz : x ≢ 0) (ne : x ≢ s.id) where
  cv_past : x < s.top → has x s.active ≡ false → creator_visible s x ≡ true
  unfolding creator_visible
  cv_past lt e = rw (ne_eqb x 0 nz, ne_eqb x s.id ne, lt-ltb x s.top lt, e)

  cv_active : x < s.top → has x s.active ≡ true → creator_visible s x ≡ false
  unfolding creator_visible
  cv_active lt e = rw (ne_eqb x 0 nz, ne_eqb x s.id ne, lt-ltb x s.top lt, e)

  cv_late : s.top ≤ x → creator_visible s x ≡ false
  unfolding creator_visible
  cv_late le = rw (ne_eqb x 0 nz, ne_eqb x s.id ne, le-ltb x s.top le)

module _ (R n : ℕ) (st : View) (g : Ghost) (h : Hist) (i : ℕ) (iv : Inv R n st g h []) (lt : i < length st.slots) (vac : (slot_v st i).id ≡ 0) where
  abbrev pub begun_hist : Hist
  begun_hist = record { last = h.last; who = upd h.who i st.clock; view = upd h.view i h.last; own = upd h.own i (λ _. none) }

  abbrev s₀ : Slot
  s₀ = new_slot st.clock 0 0 []

  -- the ids of the active list: the new one, or those of the other slots
  born_other : (j : ℕ) → j ≢ i → get_or (set st.slots i s₀) j empty_slot ≡ slot_v st j
  born_other j ne = get_or-set_other st.slots i j s₀ empty_slot ne

  born_this : get_or (set st.slots i s₀) i empty_slot ≡ s₀
  born_this = get_or-set_same st.slots i s₀ empty_slot lt

  old_id : (j : ℕ) → (slot_v st j).id < st.clock
  old_id j = by_eq (slot_v st j).id 0 (λ z. omega (arith, iv.ticking)) (λ nz. (iv.opens j nz).snap.begun)

  born_le : greatest (born_v st i) ≤ st.clock
  born_le = greatest_le st.clock (set st.slots i s₀) (λ j. by_eq j i (λ q. rw (q, born_this) (omega arith)) (λ q. rw (born_other j q) (omega (arith, old_id j))))

  -- a committed id is not active
  settled_not_active : (x : ℕ) → Settled st.clock st.slots x → has x (born_v st i) ≡ false
  settled_not_active x sx = no_ids (set st.slots i s₀) x (λ j. by_eq j i (λ q. rw (q, born_this) (omega (arith, sx.past))) (λ q. rw (born_other j q) (sx.shut j)))

  other_active : (j : ℕ) → j ≢ i → (slot_v st j).id ≢ 0 → has (slot_v st j).id (born_v st i) ≡ true
  other_active j ne nz = rw (born_other j ne) at (has_ids (set st.slots i s₀) j (rw (born_other j ne) nz))

  self_active : has st.clock (born_v st i) ≡ true
  self_active = rw born_this at (has_ids (set st.slots i s₀) i (rw born_this iv.ticking))

  new_top : snap_top (st.clock + 1) (born_v st i) ≡ st.clock + 1
  new_top = top_is st.clock (born_v st i) born_le

  new_sees : (x : ℕ) → Settled st.clock st.slots x → creator_visible (born_slot st i) x ≡ true
  new_sees x sx = cv_past (born_slot st i) x sx.nonzero (omega (arith, sx.past)) (omega (arith, sx.past, new_top)) (settled_not_active x sx)

  this_slot : slot_v (begin_v i st) i ≡ born_slot st i
  this_slot = get_or-set_same st.slots i (born_slot st i) empty_slot lt

  elsewhere : (j : ℕ) → j ≢ i → slot_v (begin_v i st) j ≡ slot_v st j
  elsewhere j ne = get_or-set_other st.slots i j (born_slot st i) empty_slot ne

  new_snap : Snap (st.clock + 1) (begin_v i st).slots i
  new_snap = record {
    begun = rw this_slot (omega arith);
    below = λ x nz lo. rw this_slot (
        let lo' : x < least (st.clock + 1) (born_v st i) = rw this_slot at lo in
        let u = least_le (st.clock + 1) (born_v st i) in
        let z = least_has (st.clock + 1) x (born_v st i) lo' in
        let ne : x ≢ st.clock = λ e. true≢false (sym self_active ∙ rw e at z) in
        cv_past (born_slot st i) x nz ne (omega (arith, new_top)) z);
    hides = λ j ne. rw (this_slot, elsewhere j ne) (by_eq (slot_v st j).id 0
        (λ z. rw z (cv_zero (born_slot st i)))
        (λ nz. let u = old_id j in cv_active (born_slot st i) (slot_v st j).id nz (omega arith) (omega (arith, new_top)) (other_active j ne nz)));
    after = λ x le. rw this_slot (cv_late (born_slot st i) x (omega arith) (omega arith) (omega (arith, new_top)));
  }

  new_reads : (l : List ℕ) (o : Option Val) → Top (vers st) st.clock st.slots l o → pick (born_slot st i) (vers st) l ≡ o
  unfolding pick vis
  new_reads [] o t = sym t
  new_reads (c ∷ l) o t = rw (new_sees _ t.1, t.0) (sym t.2)

  -- a version after the head is superseded by a commit that the new snapshot sees
  past_unseen : (v : Ver) → Settled st.clock st.slots v.xmax → vis (born_slot st i) v ≡ false
  unfolding vis
  past_unseen v sx = rw (new_sees v.xmax sx, ne_eqb v.xmax 0 sx.nonzero) (and_false (creator_visible (born_slot st i) v.xmin))

  tail_single : (l : List ℕ) → Tail (vers st) st.clock st.slots l → Single (born_slot st i) (vers st) l
  tail_single [] t = tt
  tail_single (c ∷ l) t = (λ v d nz. past_unseen (vers st d) (t d (λ e. nz (cnt_tail d c l e))), tail_single l (λ d nz. t d (λ e. nz (cnt_tail d c l e))))

  new_single : (l : List ℕ) (o : Option Val) → Top (vers st) st.clock st.slots l o → Single (born_slot st i) (vers st) l
  new_single [] o t = tt
  new_single (c ∷ l) o t = (λ v d nz. past_unseen (vers st d) (t.3 d nz), tail_single l t.3)

  new_taken : Taken (st.clock + 1) (born_slot st i)
  new_taken = record { self = self_active; lowest = ap (λ (k : ℕ). least k (born_v st i)) (sym new_top); above = omega (arith, new_top, born_le); early = omega (arith, new_top) }

  begin_counts : (x : ℕ) → places g (set st.slots i (born_slot st i)) [] x ≡ inb n x
  unfolding cnt
  begin_counts x =
      let z : in_slot x (slot_v st i) ≡ 0 = rw (iv.closed i vac) refl in
      omega (arith, iv.once x, sum_set (in_slot x) st.slots i (born_slot st i) empty_slot lt)

  pub begin_inv : Inv R n (begin_v i st) g begun_hist []
  unfolding own_find
  begin_inv = record {
    once = begin_counts;
    ticking = omega arith;
    rowed = iv.rowed;
    chain = iv.chain;
    frees = iv.frees;
    tops = λ r. top_set st.clock (st.clock + 1) st.slots i (born_slot st i) (omega arith) lt (vers st) (get_or g.rows r []) (h.last r) (λ x sx. omega (arith, sx.past)) (iv.tops r);
    known = λ j. by_eq j i (λ q. rw (q, this_slot, upd_same h.who i st.clock)) (λ q. rw (elsewhere j q, upd_other h.who i j st.clock q) (iv.known j));
    closed = λ j z. by_eq j i (λ q. rw (q, this_slot)) (λ q. rw (elsewhere j q) (iv.closed j (rw (elsewhere j q) at z)));
    opens = λ j oj. by_eq j i
        (λ q. rw q (record {
          snap = new_snap;
          taken = rw this_slot new_taken;
          reads = λ r. rw (this_slot, upd_same h.view i h.last) (new_reads (get_or g.rows r []) (h.last r) (iv.tops r));
          single = λ r. rw this_slot (new_single (get_or g.rows r []) (h.last r) (iv.tops r));
          owns = λ r. rw (this_slot, upd_same h.own i (λ _. none));
          entries = rw this_slot tt;
          records = rw this_slot tt;
          apart = rw this_slot tt;
        }))
        (λ q.
        let o = iv.opens j (rw (elsewhere j q) at oj) in
        open_beside R st g h begun_hist i (born_slot st i) (st.clock + 1) (omega arith) lt j q (o.snap.after st.clock (omega arith))
        (λ r. ap (λ (f : ℕ → Option Val). f r) (upd_other h.view i j h.last q)) (λ r. ap (λ (f : ℕ → Option Val). f r) (upd_other h.own i j (λ _. none) q)) o);
  }

-- ids differ: what i sees as its own, it does not see as another's
pub ids_differ : (R n : ℕ) (st : View) (g : Ghost) (h : Hist) (pend : List ℕ) (i : ℕ) → Inv R n st g h pend → (slot_v st i).id ≢ 0 → (j : ℕ) → j ≢ i → (slot_v st j).id ≢ (slot_v st i).id
unfolding creator_visible
ids_differ R n st g h pend i iv op j ne q =
    let a : creator_visible (slot_v st i) (slot_v st i).id ≡ false = rw q at ((iv.opens i op).snap.hides j ne) in
    true≢false (rw (ne_eqb (slot_v st i).id 0 op, eq-eqb (slot_v st i).id (slot_v st i).id refl) at a)
