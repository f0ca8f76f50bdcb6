-- Commit publishes one write: a loose cell becomes the head of its row.
use Rattle.std.specs.Prelude.{false, ◌≢◌, ◌≡◌, ℕ, ◌<◌, set, length}
use Rattle.std.proofs.lemmas.Bool.{false≢true}
use mathlib.Core.List.{List, [], ◌∷◌}
use Rattle.std.proofs.Math.Option.{Option, some}
use Rattle.std.proofs.Common.{ap, sym, ◌∙◌, arith, length-set, get_or-set_same, get_or-set_other, eq-eqb, ne_eqb}
use Rattle.std.proofs.Math.Path.{subst, refl}
use Rattle.std.proofs.Math.ListN.{get_or}
use Rattle.kinds.specs.declared.Version.{Version}
use Rattle.words.specs.Lists.{nonzero}
use Rattle.kinds.specs.Versions.{with_next, with_lock, with_xmax}
use Rattle.words.specs.Slots.{Slot, Write, Rec}
use Rattle.kinds.specs.Visible.{creator_visible}
use Rattle.rules.specs.History.{Val}
use Rattle.rules.proofs.Theory.Cases.{by_eq, by_bool}
use Rattle.rules.specs.Theory.View.{upd, View}
use Rattle.rules.proofs.Theory.View.{upd_other, upd_same}
use Rattle.rules.specs.Theory.Effects.{mark_v, slot_v, publish_v}
use Rattle.rules.specs.Theory.Counting.{cnt}
use Rattle.rules.proofs.Theory.Counting.{cnt_other, cnt_tail, cnt_same, cnt_head, sum_set}
use Rattle.rules.specs.Theory.Inv.{vers, Ver, ver_of, nexts, vis, pick, Settled, Top, Tail, Single, Ghost, in_slot, Hist, Inv, Spelled, Recorded, places, inb}
use Rattle.rules.proofs.Theory.Inv.{pick_frame, same_in, single_frame, spelled_frame, top_frame, own_frame, entries_frame, all_map}
use Rattle.rules.specs.Theory.Places.{Alone}
use Rattle.rules.proofs.Theory.Places.{pend_alone, zero_nowhere, chain_cell}
use Rattle.rules.specs.Theory.Publish.{vers_f, nexts_f, expire, Published, of_next}

-- any part F of the versions after one changed
module _ {A : Type 0} (F : Version → A) (f : ℕ → Version) (c : ℕ) (v : Version) where
  pub part_off : (d : ℕ) → d ≢ c → F (upd f c v d) ≡ F (f d)
  part_off d ne = ap F (upd_other f c d v ne)

  pub part_on : F (upd f c v c) ≡ F v
  part_on = ap F (upd_same f c v)

  -- the part is stored as it was: it changes nowhere
  pub part_same : F v ≡ F (f c) → (d : ℕ) → F (upd f c v d) ≡ F (f d)
  part_same e d = by_eq d c (λ q. subst (λ (k : ℕ). F (upd f c v k) ≡ F (f k)) (sym q) (part_on ∙ e)) (part_off d)

module _ (f : ℕ → Version) (t b c : ℕ) (ne : b ≢ c) where
  published : Published f (upd (mark_v t b f) c (with_next (mark_v t b f c) b)) t b c
  unfolding ver_of
  published = by_eq b 0
      (λ e. rw (eq-eqb b 0 e) (record {
        others = λ d h. part_same ver_of f c (with_next (f c) b) refl d;
        marked = λ h. absurd (h e);
        nexted = λ d h. part_off of_next f c (with_next (f c) b) d h;
        linked = part_on of_next f c (with_next (f c) b);
      }))
      (λ e. rw (ne_eqb b 0 e)
      (let v = with_lock (with_xmax (f b) t) 0 0 in
      let k = upd f b v in
      record {
        others = λ d h. part_same ver_of k c (with_next (k c) b) refl d ∙ part_off ver_of f b v d h;
        marked = λ h. part_same ver_of k c (with_next (k c) b) refl b ∙ part_on ver_of f b v;
        nexted = λ d h. part_off of_next k c (with_next (k c) b) d h ∙ part_same of_next f b v refl d;
        linked = part_on of_next k c (with_next (k c) b);
      }))

-- what stands under the new head: nothing, or the base, not superseded
abbrev Under : (ℕ → Ver) → ℕ → List ℕ → Type 0
Under f b [] = Unit {0}
Under f b (d ∷ l) = (d ≡ b) × (b ≢ 0) × ((f b).xmax ≡ 0) × (cnt b l ≡ 0)

vis_expire : (s : Slot) (v : Ver) (t : ℕ) → v.xmax ≡ 0 → creator_visible s t ≡ false → vis s (expire v t) ≡ vis s v
unfolding vis
vis_expire s v t z e = by_bool (nonzero t) (λ q. rw (q, e, z)) (λ q. rw (q, z))

vis_young : (s : Slot) (v : Ver) → creator_visible s v.xmin ≡ false → vis s v ≡ false
unfolding vis
vis_young s v e = rw e

pick_publish : (s : Slot) (f g : ℕ → Ver) (t b c : ℕ) (L : List ℕ) → ((d : ℕ) → d ≢ b → g d ≡ f d) → (b ≢ 0 → g b ≡ expire (f b) t)
    → b ≢ c → creator_visible s (f c).xmin ≡ false → creator_visible s t ≡ false → Under f b L → pick s g (c ∷ L) ≡ pick s f L
unfolding pick
pick_publish s f g t b c [] same mk ne young old u = rw (same c (λ e. ne (sym e)), vis_young s (f c) young)
pick_publish s f g t b c (d ∷ l) same mk ne young old u =
    rw (same c (λ e. ne (sym e)), vis_young s (f c) young, u.0, mk u.1, vis_expire s (f b) t u.2 old, pick_frame s f g b l same u.3)

module _ (f g : ℕ → Ver) (t b : ℕ) (same : (d : ℕ) → d ≢ b → g d ≡ f d) (mk : b ≢ 0 → g b ≡ expire (f b) t) where
  -- what was the head is superseded by t, what stood behind it is as it was
  tail_publish : (k : ℕ) (ss : List Slot) → Settled k ss t → (L : List ℕ) (o : Option Val) → Under f b L → Top f k ss L o → Tail g k ss L
  unfolding cnt
  tail_publish k ss done [] o u tp = λ e nz. absurd (nz refl)
  tail_publish k ss done (d ∷ l) o u tp = λ e nz. by_eq e b
      (λ q. subst (λ (x : Ver). Settled k ss x.xmax) (sym (ap g q ∙ mk u.1)) done)
      (λ q. subst (λ (x : Ver). Settled k ss x.xmax) (sym (same e q)) (tp.3 e (λ z. nz (cnt_other e d l (λ y. q (y ∙ u.0)) ∙ z))))

  single_publish : (s : Slot) (c : ℕ) (L : List ℕ) → b ≢ c → creator_visible s (f c).xmin ≡ false → creator_visible s t ≡ false → Under f b L → Single s f L → Single s g (c ∷ L)
  single_publish s c L ne young old u si = (λ v. absurd (false≢true (sym (ap (vis s) (same c (λ e. ne (sym e))) ∙ vis_young s (f c) young) ∙ v)), below L u si)
    where
      below : (L : List ℕ) → Under f b L → Single s f L → Single s g L
      below [] u si = tt
      below (d ∷ l) u si =
          let e : vis s (g d) ≡ vis s (f d) = ap (λ (x : ℕ). vis s (g x)) u.0 ∙ ap (vis s) (mk u.1) ∙ vis_expire s (f b) t u.2 old ∙ ap (λ (x : ℕ). vis s (f x)) (sym u.0) in
          (λ v x nz. ap (vis s) (same_in f g b same l u.3 x nz) ∙ si.0 (sym e ∙ v) x nz, single_frame f g b same s l u.3 si.1)

-- the base: 0, or the head of its row; in either case in no other list
record BaseAt (n : ℕ) (st : View) (g : Ghost) (w : Write) (pend : List ℕ) : Type 0 where
  inside : w.base < n
  not_new : w.base ≢ w.new
  unrow : (r : ℕ) → w.row ≢ r → cnt w.base (get_or g.rows r []) ≡ 0
  unslot : (i : ℕ) → in_slot w.base (slot_v st i) ≡ 0
  loose : cnt w.base pend ≡ 0
  fresh : w.base ≢ 0 → (vers st w.base).xmax ≡ 0
  under : Under (vers st) w.base (get_or g.rows w.row [])

module _ (R n : ℕ) (st : View) (g : Ghost) (h : Hist) (w : Write) (t : ℕ) (pend : List ℕ) (iv : Inv R n st g h (w.new ∷ pend)) where
  base_at : w.row < R → (L : List ℕ) → get_or g.rows w.row [] ≡ L → st.heads w.row ≡ w.base → BaseAt n st g w pend
  base_at in_r [] e hb =
      let a = (pend_alone R n st g h w.new pend iv).0 in
      let z = zero_nowhere R n st g h (w.new ∷ pend) iv in
      let c0 = rw e at (iv.chain w.row in_r) in
      let b0 : w.base ≡ 0 = sym hb ∙ c0 in
      record {
        inside = omega (arith, a.inside);
        not_new = λ q. a.real (sym q ∙ b0);
        unrow = λ r ne. rw b0 (z.0 r);
        unslot = λ i. rw b0 (z.1 i);
        loose = cnt_tail w.base w.new pend (rw b0 z.2);
        fresh = λ nz. absurd (nz b0);
        under = rw e tt;
      }
  base_at in_r (d ∷ l) e hb =
      let a = (pend_alone R n st g h w.new pend iv).0 in
      let c0 = rw e at (iv.chain w.row in_r) in
      let db : d ≡ w.base = sym c0.0 ∙ hb in
      let e' : get_or g.rows w.row [] ≡ w.base ∷ l = rw db at e in
      let here : cnt w.base (get_or g.rows w.row []) ≢ 0 = rw e' (omega (arith, cnt_same w.base l)) in
      let k = chain_cell R n st g h (w.new ∷ pend) w.base w.row iv here in
      let tp = rw e' at (iv.tops w.row) in
      let one = rw (e', cnt_same w.base l) at k.single in
      record {
        inside = k.inside;
        not_new = λ q. let z = cnt_head w.base w.new pend k.unpend in z q;
        unrow = λ r ne. k.unrow r ne;
        unslot = λ i. k.unslot i;
        loose = cnt_tail w.base w.new pend k.unpend;
        fresh = λ _. tp.0;
        under = rw e' (refl, k.real, tp.0, omega (arith, one));
      }

  module _ (in_r : w.row < R) (hb : st.heads w.row ≡ w.base)
      (young : (vers st w.new).xmin ≡ t) (live : (vers st w.new).xmax ≡ 0)
      (done : Settled st.clock st.slots t) (hid : (i : ℕ) → (slot_v st i).id ≢ 0 → creator_visible (slot_v st i) t ≡ false) where
    abbrev pub grown : Ghost
    grown = record { rows = set g.rows w.row (w.new ∷ get_or g.rows w.row []); fl = g.fl }

    abbrev pub logged_hist : Hist
    logged_hist = record { last = upd h.last w.row (some (vers st w.new).val); who = h.who; view = h.view; own = h.own }

    module _ (m' : ℕ → Version) (p : Published st.vers m' t w.base w.new) (k : BaseAt n st g w pend) (a : Alone n st g w.new) (in_g : w.row < length g.rows) where
      abbrev after : View
      after = record { vers = m'; links = st.links; heads = upd st.heads w.row w.new; free = st.free; clock = st.clock; slots = st.slots }

      new_ver : vers_f m' w.new ≡ vers st w.new
      new_ver = p.others w.new (λ e. k.not_new (sym e))

      chains : (r : ℕ) → r < R → Spelled (nexts_f m') (upd st.heads w.row w.new r) (get_or grown.rows r [])
      chains r lt = by_eq r w.row
          (λ q. rw (q, upd_same st.heads w.row w.new, get_or-set_same g.rows w.row (w.new ∷ get_or g.rows w.row []) [] in_g)
          (refl, a.real, rw p.linked (spelled_frame (nexts st) (nexts_f m') w.new w.base (get_or g.rows w.row []) p.nexted (a.unrow w.row) (rw hb at (iv.chain w.row in_r)))))
          (λ q. rw (upd_other st.heads w.row r w.new q, get_or-set_other g.rows w.row r (w.new ∷ get_or g.rows w.row []) [] q)
          (spelled_frame (nexts st) (nexts_f m') w.new _ _ p.nexted (a.unrow r) (iv.chain r lt)))

      topped : (r : ℕ) → Top (vers_f m') st.clock st.slots (get_or grown.rows r []) (logged_hist.last r)
      topped r = by_eq r w.row
          (λ q. rw (q, get_or-set_same g.rows w.row (w.new ∷ get_or g.rows w.row []) [] in_g, upd_same h.last w.row (some (vers st w.new).val), new_ver)
          (live, rw young done, refl, tail_publish (vers st) (vers_f m') t w.base p.others p.marked st.clock st.slots done _ (h.last w.row) k.under (iv.tops w.row)))
          (λ q. rw (get_or-set_other g.rows w.row r (w.new ∷ get_or g.rows w.row []) [] q, upd_other h.last w.row r (some (vers st w.new).val) q)
          (top_frame (vers st) (vers_f m') w.base p.others st.clock st.slots _ _ (k.unrow r (λ e. q (sym e))) (iv.tops r)))

      readings : (i : ℕ) → (slot_v st i).id ≢ 0 → (r : ℕ) → pick (slot_v st i) (vers_f m') (get_or grown.rows r []) ≡ h.view i r
      readings i op r = by_eq r w.row
          (λ q. rw (q, get_or-set_same g.rows w.row (w.new ∷ get_or g.rows w.row []) [] in_g)
          (pick_publish (slot_v st i) (vers st) (vers_f m') t w.base w.new _ p.others p.marked k.not_new (rw young (hid i op)) (hid i op) k.under ∙ (iv.opens i op).reads w.row))
          (λ q. rw (get_or-set_other g.rows w.row r (w.new ∷ get_or g.rows w.row []) [] q)
          (pick_frame (slot_v st i) (vers st) (vers_f m') w.base _ p.others (k.unrow r (λ e. q (sym e))) ∙ (iv.opens i op).reads r))

      singles : (i : ℕ) → (slot_v st i).id ≢ 0 → (r : ℕ) → Single (slot_v st i) (vers_f m') (get_or grown.rows r [])
      singles i op r = by_eq r w.row
          (λ q. rw (q, get_or-set_same g.rows w.row (w.new ∷ get_or g.rows w.row []) [] in_g)
          (single_publish (vers st) (vers_f m') t w.base p.others p.marked (slot_v st i) w.new _ k.not_new (rw young (hid i op)) (hid i op) k.under ((iv.opens i op).single w.row)))
          (λ q. rw (get_or-set_other g.rows w.row r (w.new ∷ get_or g.rows w.row []) [] q)
          (single_frame (vers st) (vers_f m') w.base p.others (slot_v st i) _ (k.unrow r (λ e. q (sym e))) ((iv.opens i op).single r)))

      rec_kept : (i : ℕ) → (slot_v st i).id ≢ 0 → (q : Rec) → Recorded (vers st) g.rows (slot_v st i) q → Recorded (vers_f m') grown.rows (slot_v st i) q
      rec_kept i op q rc = by_eq q.cell w.base
          (λ e.
          let bz : w.base ≢ 0 = λ z. rc.placed (subst (λ (x : ℕ). cnt x (get_or g.rows q.row []) ≡ 0) (sym (e ∙ z)) ((zero_nowhere R n st g h (w.new ∷ pend) iv).0 q.row)) in
          let f' : vers_f m' q.cell ≡ expire (vers st q.cell) t = rw e (p.marked bz) in
          let x0 : (vers st q.cell).xmax ≡ 0 = rw e (k.fresh bz) in
          record { placed = still; minned = ap (λ (x : Ver). x.xmin) f' ∙ rc.minned; seen = ap (vis (slot_v st i)) f' ∙ vis_expire (slot_v st i) (vers st q.cell) t x0 (hid i op) ∙ rc.seen })
          (λ ne. let f' = p.others q.cell ne in
          record { placed = still; minned = ap (λ (x : Ver). x.xmin) f' ∙ rc.minned; seen = ap (vis (slot_v st i)) f' ∙ rc.seen })
        where
          still : cnt q.cell (get_or grown.rows q.row []) ≢ 0
          still = by_eq q.row w.row
              (λ e. rw (e, get_or-set_same g.rows w.row (w.new ∷ get_or g.rows w.row []) [] in_g) (λ z. rc.placed (rw e (cnt_tail q.cell w.new (get_or g.rows w.row []) z))))
              (λ e. rw (get_or-set_other g.rows w.row q.row (w.new ∷ get_or g.rows w.row []) [] e) rc.placed)

      counted : (x : ℕ) → places grown st.slots pend x ≡ inb n x
      unfolding cnt
      counted x = omega (arith, iv.once x, sum_set (cnt x) g.rows w.row (w.new ∷ get_or g.rows w.row []) [] in_g)

      published_inv : Inv R n after grown logged_hist pend
      published_inv = record {
        once = counted;
        ticking = iv.ticking;
        rowed = simp length-set iv.rowed;
        chain = chains;
        frees = iv.frees;
        tops = topped;
        known = iv.known;
        closed = iv.closed;
        opens = λ i op. record {
          snap = (iv.opens i op).snap;
          taken = (iv.opens i op).taken;
          reads = readings i op;
          single = singles i op;
          owns = λ r. own_frame (vers st) (vers_f m') w.base p.others (slot_v st i).writes r (k.unslot i) ∙ (iv.opens i op).owns r;
          entries = (entries_frame (vers st) (vers_f m') w.base p.others R (slot_v st i).id (slot_v st i).writes (k.unslot i) (iv.opens i op).entries);
          records = all_map _ _ (slot_v st i).recs (rec_kept i op) (iv.opens i op).records;
          apart = (iv.opens i op).apart;
        };
      }

    pub publish_inv : Inv R n (publish_v t w st) grown logged_hist pend
    publish_inv =
        let a = (pend_alone R n st g h w.new pend iv).0 in
        let k = base_at in_r (get_or g.rows w.row []) refl hb in
        published_inv _ (published st.vers t w.base w.new k.not_new) k a (omega (arith, iv.rowed))

    -- what the rest of the write set needs of the step
    pub publish_vers : (d : ℕ) → d ≢ w.base → vers (publish_v t w st) d ≡ vers st d
    publish_vers =
        let a = (pend_alone R n st g h w.new pend iv).0 in
        let k = base_at in_r (get_or g.rows w.row []) refl hb in
        (published st.vers t w.base w.new k.not_new).others

    pub publish_loose : cnt w.base pend ≡ 0
    publish_loose = (base_at in_r (get_or g.rows w.row []) refl hb).loose
