-- Write again: the own entry keeps its cell, and its value is replaced.
use Rattle.std.specs.Prelude.{cond, ◌≢◌, ◌≡◌, ℕ, ◌<◌, eqb, get_or}
use mathlib.Core.List.{List, ◌∷◌, []}
use Rattle.std.proofs.Math.Option.{Option, some, none}
use Rattle.std.proofs.Math.Path.{refl}
use Rattle.std.proofs.Common.{sym, ◌∙◌, subst, ap, eq-eqb, ne_eqb, eqb-true}
use native.Mathlib.Omega.{arith}
use Rattle.kinds.specs.declared.Version.{Version}
use Rattle.words.specs.Lists.{or_else, last}
use Rattle.kinds.specs.Versions.{with_value}
use Rattle.words.specs.Slots.{Write}
use Rattle.rules.specs.Read.{own}
use Rattle.rules.specs.Abort.{news}
use Rattle.rules.specs.History.{said}
use Rattle.rules.proofs.Theory.Cases.{by_bool, by_eq}
use Rattle.rules.specs.Theory.View.{View, upd, empty_slot}
use Rattle.rules.proofs.Theory.View.{upd_same, upd_other}
use Rattle.rules.specs.Theory.Effects.{slot_v, with_vers}
use Rattle.rules.specs.Theory.Counting.{cnt}
use Rattle.rules.proofs.Theory.Counting.{cnt_head, cnt_same, cnt_tail, cnt_other, sum_at, sum_two}
use Rattle.rules.specs.Theory.Inv.{Ver, Entries, own_find, Ghost, Hist, Inv, vers, in_slot, inb, nexts, ver_of}
use Rattle.rules.proofs.Theory.Inv.{own_frame, spelled_frame, top_frame, single_frame, pick_frame, all_map, recorded_frame}
use Rattle.rules.proofs.Theory.Places.{inb_le, inb_in}
use Rattle.rules.specs.Theory.Publish.{vers_f, nexts_f, of_next}
use Rattle.rules.proofs.Theory.Publish.{part_off, part_on, part_same}
use Rattle.rules.proofs.Theory.CommitView.{no_entry}
use Rattle.rules.specs.Theory.Revalue.{with_val, OwnAt, At}

own_here : (f : ℕ → Ver) (w : Write) (l : List Write) → OwnAt f (w ∷ l) w.row w.new
unfolding own_find
own_here f w l = record {
  member = λ z. cnt_head w.new w.new (news l) z refl;
  minned = λ R t e. e.1;
  finds = λ f'. rw (eq-eqb w.row w.row refl);
  others = λ f' same one r' ne. rw (ne_eqb w.row r' (λ e. ne (sym e))) (own_frame f f' w.new same l r' (omega (arith, cnt_same w.new (news l))));
}

own_later : (f : ℕ → Ver) (w : Write) (l : List Write) (r c : ℕ) → w.row ≢ r → OwnAt f l r c → OwnAt f (w ∷ l) r c
unfolding own_find
own_later f w l r c ne o = record {
  member = λ z. o.member (cnt_tail c w.new (news l) z);
  minned = λ R t e. o.minned R t e.4;
  finds = λ f'. rw (ne_eqb w.row r ne) (o.finds f');
  others = λ f' same one r' q.
      let off : w.new ≢ c = λ e. o.member (later_none e one) in
      let k = later_one off one in
      rw (same w.new off, o.others f' same k r' q);
}
  where
    later_none : w.new ≡ c → cnt c (news (w ∷ l)) ≡ 1 → cnt c (news l) ≡ 0
    later_none e one = let one' : cnt c (c ∷ news l) ≡ 1 = rw e at one in omega (arith, cnt_same c (news l))

    later_one : w.new ≢ c → cnt c (news (w ∷ l)) ≡ 1 → cnt c (news l) ≡ 1
    later_one ne one = sym (cnt_other c w.new (news l) (λ e. ne (sym e))) ∙ one

at_cons : (f : ℕ → Ver) (u : Write) (l : List Write) (r : ℕ) → own_find f l u.row ≡ none → (o : Option Write) → At f l r o → At f (u ∷ l) r (or_else o (cond (eqb u.row r) (some u) none))
at_cons f u l r once none a = by_bool (eqb u.row r) (λ e. rw e (subst (λ (x : ℕ). OwnAt f (u ∷ l) x u.new) (eqb-true u.row r e) (own_here f u l))) (λ e. rw e tt)
at_cons f u l r once (some v) a = own_later f u l r v.new (λ e. let z : some (f v.new).val ≡ none = sym (a.finds f) ∙ rw e at once in let q : ◌≡◌ {A = ℕ} 0 1 = cc in omega arith) a

pub at_is : (f : ℕ → Ver) (R t r : ℕ) (ws : List Write) → Entries f R t ws → At f ws r (own ws r)
unfolding own last
at_is f R t r [] e = tt
at_is f R t r (u ∷ l) e = at_cons f u l r e.3 (own l r) (at_is f R t r l e.4)

-- entries look at no value
none_vals : (f f' : ℕ → Ver) (ws : List Write) (r : ℕ) → own_find f ws r ≡ none → own_find f' ws r ≡ none
unfolding own_find
none_vals f f' [] r e = refl
none_vals f f' (u ∷ ws) r e = rw (ne_eqb u.row r (no_entry f u ws r e).0) (none_vals f f' ws r (no_entry f u ws r e).1)

entries_vals : (f f' : ℕ → Ver) (R t : ℕ) (ws : List Write) → ((d : ℕ) → (f' d).xmin ≡ (f d).xmin) → ((d : ℕ) → (f' d).xmax ≡ (f d).xmax) → Entries f R t ws → Entries f' R t ws
entries_vals f f' R t [] a b en = tt
entries_vals f f' R t (w ∷ l) a b en = (en.0, a w.new ∙ en.1, b w.new ∙ en.2, none_vals f f' l w.row en.3, entries_vals f f' R t l a b en.4)

module _ (R n : ℕ) (st : View) (g : Ghost) (h : Hist) (i r : ℕ) (v : Option ℕ) (iv : Inv R n st g h []) (op : (slot_v st i).id ≢ 0) where
  abbrev pub rewrote_hist : Hist
  rewrote_hist = record { last = h.last; who = h.who; view = h.view; own = upd h.own i (upd (h.own i) r (some (said v (slot_v st i).id))) }

  module _ (c : ℕ) (o : OwnAt (vers st) (slot_v st i).writes r c) where
    -- c stands in this write set once, and nowhere else
    record Held : Type 0 where
      inside : c < n
      single : in_slot c (slot_v st i) ≡ 1
      unrow : (r' : ℕ) → cnt c (get_or g.rows r' []) ≡ 0
      unslot : (j : ℕ) → i ≢ j → in_slot c (slot_v st j) ≡ 0

    held : Held
    unfolding cnt
    held =
        let e = iv.once c in
        let a = sum_at (in_slot c) st.slots i empty_slot refl in
        let b = inb_le n c in
        let m = o.member in
        let w : inb n c ≢ 0 = omega arith in
        record {
          inside = (inb_in n c w).1;
          single = omega arith;
          unrow = λ r'. omega (arith, sum_at (cnt c) g.rows r' [] refl);
          unslot = λ j ne. omega (arith, sum_two (in_slot c) st.slots i j empty_slot refl ne);
        }

    module _ (k : Held) (m' : ℕ → Version) (vs : (d : ℕ) → d ≢ c → vers_f m' d ≡ vers st d) (vc : vers_f m' c ≡ with_val (vers st c) v) (ns : (d : ℕ) → nexts_f m' d ≡ nexts st d) where
      mins : (d : ℕ) → (vers_f m' d).xmin ≡ (vers st d).xmin
      mins d = by_eq d c (λ q. rw q (ap (λ (x : Ver). x.xmin) vc)) (λ q. ap (λ (x : Ver). x.xmin) (vs d q))

      maxs : (d : ℕ) → (vers_f m' d).xmax ≡ (vers st d).xmax
      maxs d = by_eq d c (λ q. rw q (ap (λ (x : Ver). x.xmax) vc)) (λ q. ap (λ (x : Ver). x.xmax) (vs d q))

      owned : (r' : ℕ) → own_find (vers_f m') (slot_v st i).writes r' ≡ upd (h.own i) r (some (said v (slot_v st i).id)) r'
      owned r' = by_eq r' r
          (λ q. rw (q, upd_same (h.own i) r (some (said v (slot_v st i).id)))
          (o.finds (vers_f m') ∙ ap (λ (x : Ver). some x.val) vc ∙ ap (λ (x : ℕ). some (said v x)) (o.minned R (slot_v st i).id (iv.opens i op).entries)))
          (λ q. rw (upd_other (h.own i) r r' (some (said v (slot_v st i).id)) q) (o.others (vers_f m') vs k.single r' q ∙ (iv.opens i op).owns r'))

      -- a slot's write set afterwards
      owned_all : (j : ℕ) → (slot_v st j).id ≢ 0 → (r' : ℕ) → own_find (vers_f m') (slot_v st j).writes r' ≡ rewrote_hist.own j r'
      owned_all j oj r' = by_eq j i
          (λ q. subst (λ (x : ℕ). own_find (vers_f m') (slot_v st x).writes r' ≡ rewrote_hist.own x r') (sym q) (rw (upd_same h.own i _) (owned r')))
          (λ q. rw (upd_other h.own i j _ q) (own_frame (vers st) (vers_f m') c vs (slot_v st j).writes r' (k.unslot j (λ e. q (sym e))) ∙ (iv.opens j oj).owns r'))

      revalued : Inv R n (with_vers st m') g rewrote_hist []
      revalued = record {
        once = iv.once;
        ticking = iv.ticking;
        rowed = iv.rowed;
        chain = λ r' lt. spelled_frame (nexts st) (nexts_f m') c _ _ (λ d _. ns d) (k.unrow r') (iv.chain r' lt);
        frees = iv.frees;
        tops = λ r'. top_frame (vers st) (vers_f m') c vs st.clock st.slots (get_or g.rows r' []) (h.last r') (k.unrow r') (iv.tops r');
        known = iv.known;
        closed = iv.closed;
        opens = λ j oj. let p = iv.opens j oj in record {
          snap = p.snap;
          taken = p.taken;
          single = λ r'. single_frame (vers st) (vers_f m') c vs (slot_v st j) _ (k.unrow r') (p.single r');
          reads = λ r'. pick_frame (slot_v st j) (vers st) (vers_f m') c _ vs (k.unrow r') ∙ p.reads r';
          owns = owned_all j oj;
          entries = entries_vals (vers st) (vers_f m') R (slot_v st j).id (slot_v st j).writes mins maxs p.entries;
          records = all_map _ _ (slot_v st j).recs (recorded_frame (vers st) (vers_f m') c vs g.rows (slot_v st j) k.unrow) p.records;
          apart = p.apart;
        };
      }

    pub revalue_inv : Inv R n (with_vers st (upd st.vers c (with_value (st.vers c) v))) g rewrote_hist []
    unfolding ver_of
    revalue_inv = revalued held _ (part_off ver_of st.vers c (with_value (st.vers c) v)) (part_on ver_of st.vers c (with_value (st.vers c) v) ∙ val_is v) (part_same of_next st.vers c (with_value (st.vers c) v) refl)
      where
        val_is : (o : Option ℕ) → ver_of (with_value (st.vers c) o) ≡ with_val (ver_of (st.vers c)) o
        val_is none = refl
        val_is (some k) = refl
