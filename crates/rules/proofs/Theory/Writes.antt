-- A write that adds an entry: the head is locked, the free list's first cell is handed out, and entered into the write set.
use mathlib.Core.List.{List, [], ◌∷◌, ◌++◌}
use Rattle.std.specs.Prelude.{◌≢◌, ◌≡◌, get_or}
use Rattle.std.proofs.Math.Option.{none, some, Option}
use Rattle.std.proofs.Math.Path.{refl, sym, ap, subst}
use Rattle.std.proofs.Common.{◌∙◌, ne_eqb, eq-eqb}
use Prim.Native.Nat.{ℕ, ◌+◌, ◌<◌}
use native.Mathlib.Omega.{arith}
use Rattle.kinds.specs.declared.Version.{Version}
use Rattle.kinds.specs.Versions.{new_version}
use Rattle.words.specs.Slots.{Write, write}
use Rattle.rules.specs.Abort.{news}
use Rattle.rules.specs.History.{Val, said}
use Rattle.rules.proofs.Theory.Cases.{by_eq}
use Rattle.rules.specs.Theory.SlotLaws.{with_write}
use Rattle.rules.specs.Theory.View.{View, upd, empty_slot}
use Rattle.rules.proofs.Theory.View.{upd_other, upd_same}
use Rattle.rules.specs.Theory.Effects.{slot_v, put_slot, prepare_v, with_vers, lock_v}
use Rattle.rules.specs.Theory.Counting.{cnt}
use Rattle.rules.proofs.Theory.Counting.{cnt_same, sum_at}
use Rattle.rules.specs.Theory.Inv.{Ver, vers, Ghost, Hist, Inv, places, inb, in_slot, nexts, ver_of, own_find, Entries}
use Rattle.rules.proofs.Theory.Inv.{spelled_frame, top_frame, open_frame}
use Rattle.rules.specs.Theory.Places.{Alone}
use Rattle.rules.proofs.Theory.Places.{inb_le, inb_in}
use Rattle.rules.proofs.Theory.Reslot.{reslot_inv}
use Rattle.rules.specs.Theory.Publish.{vers_f, nexts_f, of_next}
use Rattle.rules.proofs.Theory.Publish.{part_off, part_on}
use Rattle.rules.proofs.Theory.CommitView.{no_entry}
use Rattle.rules.proofs.Theory.Cells.{lock_inv}
use Rattle.rules.specs.Theory.Writes.{take_v}

-- HAND OUT the free list's first cell: it is loose, with its new version
module _ (R n : ℕ) (st : View) (g : Ghost) (h : Hist) (c : ℕ) (l : List ℕ) (iv : Inv R n st g h []) (fls : g.fl ≡ c ∷ l) where
  abbrev pub taken : Ghost
  taken = record { rows = g.rows; fl = l }

  take_counts : (x : ℕ) → places taken st.slots (c ∷ []) x ≡ inb n x
  unfolding cnt
  take_counts x = omega (arith, rw fls at (iv.once x))

  -- as if it had been loose: the counting facts of a cell of the free list
  take_alone : Alone n st taken c
  unfolding cnt
  take_alone =
      let e = take_counts c in
      let s = cnt_same c [] in
      let b = inb_le n c in
      let w : inb n c ≢ 0 = omega arith in
      let v = inb_in n c w in
      record { inside = v.1; real = v.0; unfree = omega arith; unrow = λ r. omega (arith, sum_at (cnt c) g.rows r [] refl); unslot = λ i. omega (arith, sum_at (in_slot c) st.slots i empty_slot refl) }

  free_is : st.free ≡ c
  free_is = (rw fls at iv.frees).0

  module _ (m' : ℕ → Version) (l' : ℕ → ℕ) (vs : (d : ℕ) → d ≢ c → vers_f m' d ≡ vers st d) (ns : (d : ℕ) → d ≢ c → nexts_f m' d ≡ nexts st d)
      (ls : (d : ℕ) → d ≢ c → l' d ≡ st.links d) where
    handed : Inv R n (record { vers = m'; links = l'; heads = st.heads; free = st.links c; clock = st.clock; slots = st.slots }) taken h (c ∷ [])
    handed =
        let a = take_alone in
        record {
          once = take_counts;
          ticking = iv.ticking;
          rowed = iv.rowed;
          chain = λ r lt. spelled_frame (nexts st) (nexts_f m') c _ _ ns (a.unrow r) (iv.chain r lt);
          frees = spelled_frame st.links (l') c _ l ls a.unfree (rw fls at iv.frees).2;
          tops = λ r. top_frame (vers st) (vers_f m') c vs st.clock st.slots (get_or g.rows r []) (h.last r) (a.unrow r) (iv.tops r);
          known = iv.known;
          closed = iv.closed;
          opens = λ i op. open_frame R st _ g taken h c i refl refl refl vs a.unrow (a.unslot i) (iv.opens i op);
        }

  pub take_inv : (v : Version) → Inv R n (take_v c v st) taken h (c ∷ [])
  take_inv v = handed _ _ (part_off ver_of st.vers c v) (part_off of_next st.vers c v) (λ d ne. upd_other st.links c d 0 ne)

-- ENTER a loose cell into a slot's write set
news_snoc : (x : ℕ) (ws : List Write) (w : Write) → cnt x (news (ws ++ w ∷ [])) ≡ cnt x (news ws) + cnt x (w.new ∷ [])
unfolding cnt
news_snoc x [] w = omega arith
news_snoc x (u ∷ ws) w = omega (arith, news_snoc x ws w)

own_snoc_other : (f : ℕ → Ver) (ws : List Write) (w : Write) (r : ℕ) → w.row ≢ r → own_find f (ws ++ w ∷ []) r ≡ own_find f ws r
unfolding own_find
own_snoc_other f [] w r ne = rw (ne_eqb w.row r ne)
own_snoc_other f (u ∷ ws) w r ne = rw (own_snoc_other f ws w r ne)

own_snoc_same : (f : ℕ → Ver) (ws : List Write) (w : Write) → own_find f ws w.row ≡ none → own_find f (ws ++ w ∷ []) w.row ≡ some (f w.new).val
unfolding own_find
own_snoc_same f [] w e = rw (eq-eqb w.row w.row refl)
own_snoc_same f (u ∷ ws) w e = rw (ne_eqb u.row w.row (no_entry f u ws w.row e).0) (own_snoc_same f ws w (no_entry f u ws w.row e).1)

entries_snoc : (f : ℕ → Ver) (R t : ℕ) (ws : List Write) (w : Write) → Entries f R t ws → own_find f ws w.row ≡ none → Entries f R t (w ∷ []) → Entries f R t (ws ++ w ∷ [])
entries_snoc f R t [] w en e new = new
entries_snoc f R t (u ∷ ws) w en e new =
    (en.0, en.1, en.2, own_snoc_other f ws w u.row (λ q. (no_entry f u ws w.row e).0 (sym q)) ∙ en.3, entries_snoc f R t ws w en.4 (no_entry f u ws w.row e).1 new)

module _ (R n : ℕ) (st : View) (g : Ghost) (h : Hist) (i : ℕ) (w : Write) (iv : Inv R n st g h (w.new ∷ [])) (op : (slot_v st i).id ≢ 0)
    (in_r : w.row < R) (first : own_find (vers st) (slot_v st i).writes w.row ≡ none)
    (xm : (vers st w.new).xmin ≡ (slot_v st i).id) (x0 : (vers st w.new).xmax ≡ 0) where
  abbrev pub entered_hist : Hist
  entered_hist = record { last = h.last; who = h.who; view = h.view; own = upd h.own i (upd (h.own i) w.row (some (vers st w.new).val)) }

  this_owns : (r : ℕ) → own_find (vers st) ((slot_v st i).writes ++ w ∷ []) r ≡ entered_hist.own i r
  this_owns r = rw (upd_same h.own i _) (by_eq r w.row
      (λ q. rw (q, upd_same (h.own i) w.row (some (vers st w.new).val)) (own_snoc_same (vers st) (slot_v st i).writes w first))
      (λ q. rw (upd_other (h.own i) w.row r (some (vers st w.new).val) q) (own_snoc_other (vers st) (slot_v st i).writes w r (λ e. q (sym e)) ∙ (iv.opens i op).owns r)))

  pub enter_inv : Inv R n (put_slot st i (with_write (slot_v st i) w)) g entered_hist []
  unfolding own_find cnt
  enter_inv = reslot_inv R n st g h (w.new ∷ []) [] i ((slot_v st i).writes ++ w ∷ []) (slot_v st i).recs entered_hist.own iv op
      (λ x. omega (arith, news_snoc x (slot_v st i).writes w)) this_owns (λ j r q. ap (λ (f : ℕ → Option Val). f r) (upd_other h.own i j _ q))
      (entries_snoc (vers st) R (slot_v st i).id (slot_v st i).writes w (iv.opens i op).entries first (in_r, xm, x0, refl, tt)) (iv.opens i op).records (iv.opens i op).apart

-- WRITE, a new entry: the whole call
module _ (R n : ℕ) (st : View) (g : Ghost) (h : Hist) (i row : ℕ) (v : Option ℕ) (iv : Inv R n st g h []) (op : (slot_v st i).id ≢ 0) (in_r : row < R)
    (first : own_find (vers st) (slot_v st i).writes row ≡ none) (room : st.free ≢ 0) where
  abbrev pub wrote_hist : Hist
  wrote_hist = record { last = h.last; who = h.who; view = h.view; own = upd h.own i (upd (h.own i) row (some (said v (slot_v st i).id))) }

  new_val : (o : Option ℕ) → (ver_of (new_version o (slot_v st i).id 0)).val ≡ said o (slot_v st i).id
  unfolding ver_of
  new_val none = refl
  new_val (some k) = refl

  write_go : (fl : List ℕ) → g.fl ≡ fl → (g' : Ghost) × Inv R n (prepare_v i (slot_v st i).id row v st) g' wrote_hist []
  unfolding ver_of
  write_go [] e = absurd (room (rw e at iv.frees))
  write_go (c ∷ l) e =
      let id = (slot_v st i).id in
      let z = new_version v id 0 in
      let st₁ = with_vers st (lock_v (st.heads row) id st.vers) in
      let iv₁ = lock_inv R n st g h [] iv (st.heads row) id in
      let iv₂ = take_inv R n st₁ g h c l iv₁ e z in
      let st₂ = take_v c z st₁ in
      let g₂ = taken R n st₁ g h c l iv₁ e in
      let w : Write = write row (st.heads row) c in
      let vc : vers st₂ c ≡ ver_of z = part_on ver_of st₁.vers c z in
      let none_yet : own_find (vers st₂) (slot_v st i).writes row ≡ none = (iv₂.opens i op).owns row ∙ sym ((iv.opens i op).owns row) ∙ first in
      let q = enter_inv R n st₂ g₂ h i w iv₂ op in_r none_yet (ap (λ (x : Ver). x.xmin) vc) (ap (λ (x : Ver). x.xmax) vc) in
      let q₁ = subst (λ (x : Val). Inv R n (put_slot st₂ i (with_write (slot_v st₂ i) w)) g₂ (record { last = h.last; who = h.who; view = h.view; own = upd h.own i (upd (h.own i) row (some x)) }) []) (ap (λ (x : Ver). x.val) vc ∙ new_val v) q in
      (g₂, subst (λ (x : ℕ). Inv R n (put_slot (take_v x z st₁) i (with_write (slot_v st₂ i) (write row (st.heads row) x))) g₂ wrote_hist []) (sym (free_is R n st g h c l iv e)) q₁)

  pub write_inv : (g' : Ghost) × Inv R n (prepare_v i (slot_v st i).id row v st) g' wrote_hist []
  write_inv = write_go g.fl refl
