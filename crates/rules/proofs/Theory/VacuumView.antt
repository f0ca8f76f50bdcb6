-- Vacuum of a row on views: one relinking, then the give-backs.
use Rattle.std.specs.Prelude.{Bool, not, false, true, ◌≢◌, ◌≡◌, ℕ, ◌+◌, ◌≤◌, ◌<◌, get_or, set, length}
use Rattle.std.proofs.Math.Bool.{false≢true}
use mathlib.Core.List.{List, [], ◌∷◌}
use Rattle.std.proofs.Math.Option.{Option}
use Rattle.std.proofs.Math.Path.{refl, fun_ext}
use Rattle.std.proofs.Common.{sym, ◌∙◌, ap, subst, length-set, get_or-set_same, get_or-set_other}
use native.Mathlib.Omega.{arith}
use Rattle.kinds.specs.declared.Version.{Version}
use Rattle.words.specs.Lists.{keep}
use Rattle.kinds.specs.Versions.{with_next}
use Rattle.words.specs.Slots.{Slot, Rec}
use Rattle.rules.specs.History.{Val}
use Rattle.rules.specs.Reachable.{All}
use Rattle.rules.proofs.Theory.Cases.{by_bool, by_eq}
use Rattle.rules.specs.Theory.View.{upd, View}
use Rattle.rules.proofs.Theory.View.{upd_other}
use Rattle.rules.specs.Theory.Effects.{relink_v, slot_v, with_vers}
use Rattle.rules.specs.Theory.Counting.{cnt}
use Rattle.rules.proofs.Theory.Counting.{cnt_other, cnt_same, cnt_head, cnt_tail, sum_set}
use Rattle.rules.specs.Theory.Inv.{pick, Ver, vis, Single, Spelled, nexts, ver_of, Ghost, Hist, Inv, vers, places, inb, Top, Recorded, own_find, Entries}
use Rattle.rules.proofs.Theory.Inv.{all_map}
use Rattle.rules.proofs.Theory.Places.{chain_cell}
use Rattle.rules.specs.Theory.Publish.{nexts_f, of_next, vers_f}
use Rattle.rules.proofs.Theory.Publish.{part_same, part_on}

-- ---- what a filter keeps and drops
module _ (p : ℕ → Bool) where
  abbrev kept : List ℕ → List ℕ
  kept l = keep (λ c. not (p c)) l

  pub cnt_keep : (x : ℕ) (l : List ℕ) → cnt x (keep p l) + cnt x (keep (λ c. not (p c)) l) ≡ cnt x l
  unfolding keep cnt
  cnt_keep x [] = refl
  cnt_keep x (c ∷ l) = by_bool (p c) (λ e. rw e (omega (arith, cnt_keep x l))) (λ e. rw e (omega (arith, cnt_keep x l)))

  cnt_less : (x : ℕ) (l : List ℕ) → cnt x (keep p l) ≤ cnt x l
  unfolding keep cnt
  cnt_less x [] = omega arith
  cnt_less x (c ∷ l) = by_bool (p c) (λ e. rw e (omega (arith, cnt_less x l))) (λ e. rw e (omega (arith, cnt_less x l)))

  keep_none : (x : ℕ) (l : List ℕ) → p x ≡ false → cnt x (keep p l) ≡ 0
  unfolding keep cnt
  keep_none x [] e = refl
  keep_none x (c ∷ l) e = by_bool (p c) (λ q. rw q (cnt_other x c (keep p l) (λ z. false≢true (sym e ∙ rw (sym z) at q)) ∙ keep_none x l e)) (λ q. rw q (keep_none x l e))

  pick_keep : (s : Slot) (f : ℕ → Ver) (l : List ℕ) → ((c : ℕ) → p c ≡ true → vis s (f c) ≡ false) → pick s f (keep (λ c. not (p c)) l) ≡ pick s f l
  unfolding keep pick
  pick_keep s f [] u = refl
  pick_keep s f (c ∷ l) u = by_bool (p c) (λ e. rw (e, u c e) (pick_keep s f l u)) (λ e. rw e (rw (pick_keep s f l u)))

  -- a part of a list, in its order, has no more to see
  single_keep : (s : Slot) (f : ℕ → Ver) (l : List ℕ) → Single s f l → Single s f (keep p l)
  unfolding keep
  single_keep s f [] a = tt
  single_keep s f (c ∷ l) a = by_bool (p c) (λ e. rw e (λ v d nz. a.0 v d (λ z. nz (omega (arith, cnt_less d l))), single_keep s f l a.1)) (λ e. rw e (single_keep s f l a.1))

-- ---- a list linked anew
abbrev Nodup : List ℕ → Type 0
Nodup [] = Unit {0}
Nodup (c ∷ l) = (cnt c l ≡ 0) × (c ≢ 0) × Nodup l

nodup : (l : List ℕ) → ((x : ℕ) → cnt x l ≤ 1) → ((x : ℕ) → cnt x l ≢ 0 → x ≢ 0) → Nodup l
unfolding cnt
nodup [] a b = tt
nodup (c ∷ l) a b = (omega (arith, a c, cnt_same c l), b c (λ z. cnt_head c c l z refl), nodup l (λ x. omega (arith, a x)) (λ x n. b x (λ z. n (cnt_tail x c l z))))

pub relink_part : {A : Type 0} (F : Version → A) → ((v : Version) (n : ℕ) → F (with_next v n) ≡ F v) → (l : List ℕ) (f : ℕ → Version) → ◌≡◌ {A = ℕ → A} (λ c. F (relink_v l f c)) (λ c. F (f c))
unfolding relink_v
relink_part F blind [] f = refl
relink_part F blind (c ∷ []) f = fun_ext (part_same F f c (with_next (f c) 0) (blind (f c) 0))
relink_part F blind (c ∷ d ∷ l) f = relink_part F blind (d ∷ l) (upd f c (with_next (f c) d)) ∙ fun_ext (part_same F f c (with_next (f c) d) (blind (f c) d))

-- a cell that is not linked anew stays as it is
pub relink_off : (l : List ℕ) (f : ℕ → Version) (x : ℕ) → cnt x l ≡ 0 → relink_v l f x ≡ f x
unfolding relink_v
relink_off [] f x z = refl
relink_off (c ∷ []) f x z = upd_other f c x (with_next (f c) 0) (cnt_head x c [] z)
relink_off (c ∷ d ∷ l) f x z = relink_off (d ∷ l) (upd f c (with_next (f c) d)) x (cnt_tail x c (d ∷ l) z) ∙ upd_other f c x (with_next (f c) d) (cnt_head x c (d ∷ l) z)

relink_spelled : (c : ℕ) (l : List ℕ) (f : ℕ → Version) → Nodup (c ∷ l) → Spelled (nexts_f (relink_v (c ∷ l) f)) c (c ∷ l)
unfolding relink_v
relink_spelled c [] f k = (refl, k.1, part_on of_next f c (with_next (f c) 0))
relink_spelled c (d ∷ l) f k =
    let f' = upd f c (with_next (f c) d) in
    let e : nexts_f (relink_v (d ∷ l) f') c ≡ d = ap of_next (relink_off (d ∷ l) f' c k.0) ∙ part_on of_next f c (with_next (f c) d) in
    (refl, k.1, subst (λ (x : ℕ). Spelled (nexts_f (relink_v (d ∷ l) f')) x (d ∷ l)) (sym e) (relink_spelled d l f' k.2))

-- a list that the change does not touch is spelled as before
spelled_off : (f g : ℕ → ℕ) (h : ℕ) (l : List ℕ) → ((c : ℕ) → cnt c l ≢ 0 → g c ≡ f c) → Spelled f h l → Spelled g h l
spelled_off f g h [] same s = s
spelled_off f g h (c ∷ l) same s = (s.0, s.1, subst (λ (k : ℕ). Spelled g k l) (sym (same c (λ z. cnt_head c c l z refl))) (spelled_off f g (f c) l (λ d n. same d (λ z. n (cnt_tail d c l z))) s.2))

ver_next : (v : Version) (n : ℕ) → ver_of (with_next v n) ≡ ver_of v
unfolding ver_of
ver_next v n = refl

-- ---- VACUUM: the dead leave the row's chain, all at once, and are loose
module _ (R n : ℕ) (st : View) (g : Ghost) (h : Hist) (r hd : ℕ) (l : List ℕ) (p : ℕ → Bool) (iv : Inv R n st g h []) (in_r : r < R) (here : get_or g.rows r [] ≡ hd ∷ l)
    (unseen : (c : ℕ) → p c ≡ true → (i : ℕ) → (slot_v st i).id ≢ 0 → vis (slot_v st i) (vers st c) ≡ false) where
  abbrev alive : List ℕ
  alive = hd ∷ keep (λ c. not (p c)) l

  abbrev pub cut : Ghost
  cut = record { rows = set g.rows r alive; fl = g.fl }

  in_g : r < length g.rows
  in_g = omega (arith, iv.rowed)

  row_this : get_or cut.rows r [] ≡ alive
  row_this = get_or-set_same g.rows r alive [] in_g

  row_other : (r' : ℕ) → r' ≢ r → get_or cut.rows r' [] ≡ get_or g.rows r' []
  row_other r' ne = get_or-set_other g.rows r r' alive [] ne

  alive_le : (x : ℕ) → cnt x alive ≤ cnt x (get_or g.rows r [])
  unfolding cnt
  alive_le x = rw here (omega (arith, cnt_keep p x l))

  row_one : (x : ℕ) → cnt x (get_or g.rows r []) ≤ 1
  row_one x = by_eq (cnt x (get_or g.rows r [])) 0 (λ z. omega arith) (λ nz. omega (arith, (chain_cell R n st g h [] x r iv nz).single))

  alive_nodup : Nodup alive
  alive_nodup = nodup alive (λ x. omega (arith, alive_le x, row_one x)) (λ x nz. (chain_cell R n st g h [] x r iv (λ z. nz (omega (arith, alive_le x)))).real)

  counts : (x : ℕ) → places cut st.slots (keep p l) x ≡ inb n x
  unfolding cnt
  counts x = omega (arith, iv.once x, cnt_keep p x l, rw here at (sum_set (cnt x) g.rows r alive [] in_g))

  abbrev f' : ℕ → Version
  f' = relink_v alive st.vers

  ev : vers_f f' ≡ vers st
  ev = relink_part ver_of ver_next alive st.vers

  chains : (r' : ℕ) → r' < R → Spelled (nexts_f f') (st.heads r') (get_or cut.rows r' [])
  chains r' lt = by_eq r' r
      (λ q. rw (q, row_this) (subst (λ (x : ℕ). Spelled (nexts_f f') x alive) (sym (rw here at (iv.chain r in_r)).0) (relink_spelled hd _ st.vers alive_nodup)))
      (λ q. rw (row_other r' q) (spelled_off (nexts st) (nexts_f f') (st.heads r') (get_or g.rows r' []) (λ c nz. ap of_next (relink_off alive st.vers c (omega (arith, alive_le c, (chain_cell R n st g h [] c r' iv nz).unrow r q)))) (iv.chain r' lt)))

  pick_alive : (i : ℕ) → (slot_v st i).id ≢ 0 → pick (slot_v st i) (vers st) alive ≡ pick (slot_v st i) (vers st) (hd ∷ l)
  unfolding pick
  pick_alive i op = rw (pick_keep p (slot_v st i) (vers st) l (λ c e. unseen c e i op))

  alive_same : (x : ℕ) → p x ≡ false → cnt x alive ≡ cnt x (hd ∷ l)
  unfolding cnt
  alive_same x e = omega (arith, cnt_keep p x l, keep_none p x l e)

  top_alive : (o : Option Val) → Top (vers st) st.clock st.slots (hd ∷ l) o → Top (vers st) st.clock st.slots alive o
  top_alive o t = (t.0, t.1, t.2, λ d nz. t.3 d (λ z. nz (omega (arith, cnt_less (λ c. not (p c)) d l))))

  single_alive : (i : ℕ) → Single (slot_v st i) (vers st) (hd ∷ l) → Single (slot_v st i) (vers st) alive
  single_alive i a = (λ v d nz. a.0 v d (λ z. nz (omega (arith, cnt_less (λ c. not (p c)) d l))), single_keep (λ c. not (p c)) (slot_v st i) (vers st) l a.1)

  -- a recorded cell is seen, so it is not among those that go
  still : (i : ℕ) → (slot_v st i).id ≢ 0 → (q : Rec) → Recorded (vers st) g.rows (slot_v st i) q → cnt q.cell (get_or cut.rows q.row []) ≢ 0
  still i op q a = by_bool (p q.cell)
      (λ e. absurd (false≢true (sym (unseen q.cell e i op) ∙ a.seen)))
      (λ e. by_eq q.row r
      (λ y. rw (y, row_this, alive_same q.cell e) (rw (y, here) at a.placed))
      (λ y. rw (row_other q.row y) a.placed))

  pub relink_inv : Inv R n (with_vers st f') cut h (keep p l)
  relink_inv = record {
    once = counts;
    ticking = iv.ticking;
    rowed = simp length-set iv.rowed;
    chain = chains;
    frees = iv.frees;
    tops = λ r'. subst (λ (f : ℕ → Ver). Top f st.clock st.slots (get_or cut.rows r' []) (h.last r')) (sym ev) (by_eq r' r (λ q. rw (q, row_this) (top_alive (h.last r) (rw here at (iv.tops r)))) (λ q. rw (row_other r' q) (iv.tops r')));
    known = iv.known;
    closed = iv.closed;
    opens = λ i op. let o = iv.opens i op in record {
      snap = o.snap;
      taken = o.taken;
      single = λ r'. subst (λ (f : ℕ → Ver). Single (slot_v st i) f (get_or cut.rows r' [])) (sym ev) (by_eq r' r (λ q. rw (q, row_this) (single_alive i (rw here at (o.single r)))) (λ q. rw (row_other r' q) (o.single r')));
      reads = λ r'. subst (λ (f : ℕ → Ver). pick (slot_v st i) f (get_or cut.rows r' []) ≡ h.view i r') (sym ev) (by_eq r' r (λ q. rw (q, row_this) (pick_alive i op ∙ rw here at (o.reads r))) (λ q. rw (row_other r' q) (o.reads r')));
      owns = λ r'. subst (λ (f : ℕ → Ver). own_find f (slot_v st i).writes r' ≡ h.own i r') (sym ev) (o.owns r');
      entries = subst (λ (f : ℕ → Ver). Entries f R (slot_v st i).id (slot_v st i).writes) (sym ev) o.entries;
      records = subst (λ (f : ℕ → Ver). All (Recorded f cut.rows (slot_v st i)) (slot_v st i).recs) (sym ev) (all_map _ _ (slot_v st i).recs (λ q a. record { placed = still i op q a; minned = a.minned; seen = a.seen }) o.records);
      apart = o.apart;
    };
  }
