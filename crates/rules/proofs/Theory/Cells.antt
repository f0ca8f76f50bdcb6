-- Cells given back, locks set and cleared, and of these the whole abort.
use Rattle.std.specs.Prelude.{◌&&◌, ◌≢◌, ◌≡◌, ℕ, get_or}
use mathlib.Core.List.{List, ◌∷◌, []}
use Rattle.std.proofs.Math.Path.{refl, fun_ext}
use Rattle.std.proofs.Common.{subst, sym, ◌∙◌, arith}
use Rattle.std.proofs.Math.Dec.{eqb}
use Rattle.kinds.specs.declared.Version.{Version}
use Rattle.words.specs.Lists.{fold, nonzero}
use Rattle.kinds.specs.Versions.{empty_version, with_lock}
use Rattle.words.specs.Slots.{Write}
use Rattle.rules.specs.Abort.{news}
use Rattle.rules.specs.Reachable.{All}
use Rattle.rules.proofs.Theory.Cases.{by_bool}
use Rattle.rules.specs.Theory.View.{View, upd}
use Rattle.rules.proofs.Theory.View.{upd_other, upd_same}
use Rattle.rules.specs.Theory.Effects.{give_v, give_all_v, with_vers, slot_v, lock_v, unlock_v}
use Rattle.rules.specs.Theory.Counting.{cnt}
use Rattle.rules.specs.Theory.Inv.{Ghost, Hist, Inv, places, inb, Ver, vers, nexts, ver_of, Spelled, Top, pick, Single, own_find, Entries, Recorded}
use Rattle.rules.proofs.Theory.Inv.{spelled_frame, top_frame, open_frame}
use Rattle.rules.proofs.Theory.Places.{pend_alone}
use Rattle.rules.proofs.Theory.SlotSteps.{close_inv}
use Rattle.rules.specs.Theory.Publish.{vers_f, nexts_f, of_next}
use Rattle.rules.proofs.Theory.Publish.{part_off, part_same}
use Rattle.rules.specs.Theory.Cells.{abort_v}

-- GIVE BACK a loose cell
module _ (R n : ℕ) (st : View) (g : Ghost) (h : Hist) (c : ℕ) (pend : List ℕ) (iv : Inv R n st g h (c ∷ pend)) where
  abbrev pub freed : Ghost
  freed = record { rows = g.rows; fl = c ∷ g.fl }

  give_counts : (x : ℕ) → places freed st.slots pend x ≡ inb n x
  unfolding cnt
  give_counts x = omega (arith, iv.once x)

  -- the versions change at c only
  module _ (m' : ℕ → Version) (l' : ℕ → ℕ) (vs : (d : ℕ) → d ≢ c → vers_f m' d ≡ vers st d) (ns : (d : ℕ) → d ≢ c → nexts_f m' d ≡ nexts st d)
      (ls : (d : ℕ) → d ≢ c → l' d ≡ st.links d) (lc : l' c ≡ st.free) where
    given_back : Inv R n (record { vers = m'; links = l'; heads = st.heads; free = c; clock = st.clock; slots = st.slots }) freed h pend
    given_back =
        let a = (pend_alone R n st g h c pend iv).0 in
        record {
          once = give_counts;
          ticking = iv.ticking;
          rowed = iv.rowed;
          chain = λ r lt. spelled_frame (nexts st) (nexts_f m') c _ _ ns (a.unrow r) (iv.chain r lt);
          frees = (refl, a.real, rw lc (spelled_frame st.links (l') c _ _ ls a.unfree iv.frees));
          tops = λ r. top_frame (vers st) (vers_f m') c vs st.clock st.slots (get_or g.rows r []) (h.last r) (a.unrow r) (iv.tops r);
          known = iv.known;
          closed = iv.closed;
          opens = λ i op. open_frame R st _ g freed h c i refl refl refl vs a.unrow (a.unslot i) (iv.opens i op);
        }

  pub give_inv : Inv R n (give_v c st) freed h pend
  give_inv = given_back _ _ (part_off ver_of st.vers c empty_version) (part_off of_next st.vers c empty_version) (λ d ne. upd_other st.links c d st.free ne) (upd_same st.links c st.free)

pub give_all_inv : (R n : ℕ) (l : List ℕ) (st : View) (g : Ghost) (h : Hist) → Inv R n st g h l → (g' : Ghost) × Inv R n (give_all_v l st) g' h []
unfolding fold
give_all_inv R n [] st g h iv = (g, iv)
give_all_inv R n (c ∷ l) st g h iv = give_all_inv R n l (give_v c st) (freed R n st g h c l iv) h (give_inv R n st g h c l iv)

-- LOCKS: a store that keeps versions, next and links
pub same_inv : (R n : ℕ) (st : View) (g : Ghost) (h : Hist) (pend : List ℕ) (f : ℕ → Version) → vers_f f ≡ vers st → nexts_f f ≡ nexts st → Inv R n st g h pend → Inv R n (with_vers st f) g h pend
same_inv R n st g h pend f ev en iv =
    record {
      once = iv.once;
      ticking = iv.ticking;
      rowed = iv.rowed;
      chain = λ r lt. subst (λ (k : ℕ → ℕ). Spelled k (st.heads r) (get_or g.rows r [])) (sym en) (iv.chain r lt);
      frees = iv.frees;
      tops = λ r. subst (λ (f : ℕ → Ver). Top f st.clock st.slots (get_or g.rows r []) (h.last r)) (sym ev) (iv.tops r);
      known = iv.known;
      closed = iv.closed;
      opens = λ i op. let o = iv.opens i op in record {
        snap = o.snap;
        taken = o.taken;
        reads = λ r. subst (λ (f : ℕ → Ver). pick (slot_v st i) f (get_or g.rows r []) ≡ h.view i r) (sym ev) (o.reads r);
        single = λ r. subst (λ (f : ℕ → Ver). Single (slot_v st i) f (get_or g.rows r [])) (sym ev) (o.single r);
        owns = λ r. subst (λ (f : ℕ → Ver). own_find f (slot_v st i).writes r ≡ h.own i r) (sym ev) (o.owns r);
        entries = subst (λ (f : ℕ → Ver). Entries f R (slot_v st i).id (slot_v st i).writes) (sym ev) o.entries;
        records = subst (λ (f : ℕ → Ver). All (Recorded f g.rows (slot_v st i)) (slot_v st i).recs) (sym ev) o.records;
        apart = o.apart;
      };
    }

-- a part of the versions that no lock changes
module _ {A : Type 0} (F : Version → A) (blind : (v : Version) (l o : ℕ) → F (with_lock v l o) ≡ F v) where
  pub lock_part : (b id : ℕ) (f : ℕ → Version) → ◌≡◌ {A = ℕ → A} (λ c. F (lock_v b id f c)) (λ c. F (f c))
  lock_part b id f = by_bool (eqb b 0) (λ e. rw e) (λ e. rw e (fun_ext (part_same F f b (with_lock (f b) 1 id) (blind (f b) 1 id))))

  pub unlock_part : (id : ℕ) (ws : List Write) (f : ℕ → Version) → ◌≡◌ {A = ℕ → A} (λ c. F (unlock_v id ws f c)) (λ c. F (f c))
  unfolding fold
  unlock_part id [] f = refl
  unlock_part id (w ∷ l) f = unlock_part id l _ ∙ by_bool (nonzero w.base && eqb (f w.base).owner.0 id) (λ e. rw e (fun_ext (part_same F f w.base (with_lock (f w.base) 0 0) (blind (f w.base) 0 0)))) (λ e. rw e)

ver_blind : (v : Version) (l o : ℕ) → ver_of (with_lock v l o) ≡ ver_of v
unfolding ver_of
ver_blind v l o = refl

module _ (R n : ℕ) (st : View) (g : Ghost) (h : Hist) (pend : List ℕ) (iv : Inv R n st g h pend) where
  pub lock_inv : (b id : ℕ) → Inv R n (with_vers st (lock_v b id st.vers)) g h pend
  lock_inv b id = same_inv R n st g h pend _ (lock_part ver_of ver_blind b id st.vers) (lock_part of_next (λ v l o. refl) b id st.vers) iv

  pub unlock_inv : (id : ℕ) (ws : List Write) → Inv R n (with_vers st (unlock_v id ws st.vers)) g h pend
  unlock_inv id ws = same_inv R n st g h pend _ (unlock_part ver_of ver_blind id ws st.vers) (unlock_part of_next (λ v l o. refl) id ws st.vers) iv

-- the whole abort: the history stays, but for the slot that ends
pub abort_inv : (R n : ℕ) (st : View) (g : Ghost) (h : Hist) (i : ℕ) → Inv R n st g h [] → (slot_v st i).id ≢ 0
    → (g' : Ghost) × Inv R n (abort_v i st) g' (record { last = h.last; who = upd h.who i 0; view = h.view; own = h.own }) []
abort_inv R n st g h i iv op =
    give_all_inv R n (news (slot_v st i).writes) _ g _ (close_inv R n _ g h i (unlock_inv R n st g h [] iv (slot_v st i).id (slot_v st i).writes) op)
