-- Commit: the slot is closed, and its writes are published one by one.
use Rattle.std.specs.Prelude.{Bool, List, [], ◌∷◌, ◌≢◌, refl, ℕ, ◌<◌, eqb}
use Rattle.std.proofs.Math.Bool.{true, false}
use Rattle.std.proofs.Math.Option.{none, some, Option}
use Rattle.std.proofs.Math.Path.{◌≡◌}
use Rattle.std.proofs.Common.{◌∙◌, sym, arith, get_or-set_same, get_or-set_other, eq-eqb, ne_eqb}
use Rattle.std.proofs.lemmas.Bool.{eqb-false}
use Rattle.words.specs.Lists.{fold, last, or_else}
use Rattle.words.specs.Slots.{Write}
use Rattle.kinds.specs.Visible.{creator_visible}
use Rattle.rules.specs.Abort.{news}
use Rattle.rules.specs.History.{Val}
use Rattle.rules.proofs.Theory.Cases.{by_eq}
use Rattle.rules.specs.Theory.View.{upd, View, empty_slot}
use Rattle.rules.proofs.Theory.View.{upd_other, upd_same}
use Rattle.rules.specs.Theory.Effects.{slot_v, publish_all_v, publish_v, put_slot}
use Rattle.rules.specs.Theory.Inv.{Ver, own_find, Ghost, Hist, Inv, Entries, vers, Settled}
use Rattle.rules.proofs.Theory.Inv.{entries_frame, own_frame}
use Rattle.rules.proofs.Theory.SlotSteps.{open_in, ids_differ, ended_hist, close_inv}
use Rattle.rules.proofs.Theory.Publish.{publish_vers, publish_loose, publish_inv}
use Rattle.rules.specs.Theory.CommitView.{Tested, commit_v}

-- a row that has no entry
module _ (f : ℕ → Ver) (w : Write) (l : List Write) (r : ℕ) (e : own_find f (w ∷ l) r ≡ none) where
  unfolded_none : (b : Bool) → eqb w.row r ≡ b → (w.row ≢ r) × (own_find f l r ≡ none)
  unfolding own_find
  unfolded_none true q = let e' : some (f w.new).val ≡ none = rw q at e in let z : ◌≡◌ {A = ℕ} 0 1 = cc in absurd (omega arith)
  unfolded_none false q = (eqb-false w.row r q, rw q at e)

  pub no_entry : (w.row ≢ r) × (own_find f l r ≡ none)
  no_entry = unfolded_none (eqb w.row r) refl

pub tested_set : (f : ℕ → Ver) (hs : ℕ → ℕ) (r c : ℕ) (ws : List Write) → own_find f ws r ≡ none → Tested hs ws → Tested (upd hs r c) ws
tested_set f hs r c [] e t = tt
tested_set f hs r c (w ∷ l) e t = (upd_other hs r w.row c (no_entry f w l r e).0 ∙ t.0, tested_set f hs r c l (no_entry f w l r e).1 t.1)

-- the history told otherwise: only what it says of rows and of open slots counts
pub rehist : (R n : ℕ) (st : View) (g : Ghost) (h h' : Hist) (pend : List ℕ) → ((r : ℕ) → h'.last r ≡ h.last r) → ((i : ℕ) → h'.who i ≡ h.who i)
    → ((i r : ℕ) → (slot_v st i).id ≢ 0 → h'.view i r ≡ h.view i r) → ((i r : ℕ) → (slot_v st i).id ≢ 0 → h'.own i r ≡ h.own i r)
    → Inv R n st g h pend → Inv R n st g h' pend
rehist R n st g h h' pend el ew ev eo iv = record {
  once = iv.once;
  ticking = iv.ticking;
  rowed = iv.rowed;
  chain = iv.chain;
  frees = iv.frees;
  tops = λ r. rw (el r) (iv.tops r);
  known = λ i. iv.known i ∙ sym (ew i);
  closed = iv.closed;
  opens = λ i op. let o = iv.opens i op in record {
    snap = o.snap;
    taken = o.taken;
    reads = λ r. o.reads r ∙ sym (ev i r op);
    single = o.single;
    owns = λ r. o.owns r ∙ sym (eo i r op);
    entries = o.entries;
    records = o.records;
    apart = o.apart;
  };
}

last_step : (f f' : ℕ → Ver) (w : Write) (ws : List Write) (last : ℕ → Option Val) → own_find f ws w.row ≡ none → ((r : ℕ) → own_find f' ws r ≡ own_find f ws r) → (r : ℕ)
    → or_else (own_find f' ws r) (upd last w.row (some (f w.new).val) r) ≡ or_else (own_find f (w ∷ ws) r) (last r)
unfolding own_find
last_step f f' w ws last none_yet same r = by_eq r w.row
    (λ q. rw (q, same w.row, none_yet, upd_same last w.row (some (f w.new).val), eq-eqb w.row w.row refl))
    (λ q. rw (same r, upd_other last w.row r (some (f w.new).val) q, ne_eqb w.row r (λ e. q (sym e))))

pub publish_all_lem : (R n t : ℕ) (ws : List Write) (st : View) (g : Ghost) (h : Hist) → Inv R n st g h (news ws) → Entries (vers st) R t ws → Tested st.heads ws
    → Settled st.clock st.slots t → ((i : ℕ) → (slot_v st i).id ≢ 0 → creator_visible (slot_v st i) t ≡ false)
    → (last' : ℕ → Option Val) → ((r : ℕ) → last' r ≡ or_else (own_find (vers st) ws r) (h.last r))
    → (g' : Ghost) × Inv R n (publish_all_v t ws st) g' (record { last = last'; who = h.who; view = h.view; own = h.own }) []
unfolding fold own_find
publish_all_lem R n t [] st g h iv en ts done hid last' e = (g, rehist R n st g h (record { last = last'; who = h.who; view = h.view; own = h.own }) [] e (λ i. refl) (λ i r op. refl) (λ i r op. refl) iv)
publish_all_lem R n t (w ∷ ws) st g h iv en ts done hid last' e =
    let same = publish_vers R n st g h w t (news ws) iv en.0 ts.0 en.1 en.2 done hid in
    let off = publish_loose R n st g h w t (news ws) iv en.0 ts.0 en.1 en.2 done hid in
    publish_all_lem R n t ws (publish_v t w st) _ _ (publish_inv R n st g h w t (news ws) iv en.0 ts.0 en.1 en.2 done hid)
    ((entries_frame (vers st) (vers (publish_v t w st)) w.base same R t ws off en.4))
    (tested_set (vers st) st.heads w.row w.new ws en.3 ts.1)
    done
    hid
    last'
    (λ r. e r ∙ sym (last_step (vers st) (vers (publish_v t w st)) w ws h.last en.3 (λ r'. own_frame (vers st) (vers (publish_v t w st)) w.base same ws r' off) r))

-- COMMIT, the whole call: the log's last commits become the transaction's own writes over those that stood
module _ (R n : ℕ) (st : View) (g : Ghost) (h : Hist) (i : ℕ) (iv : Inv R n st g h []) (op : (slot_v st i).id ≢ 0) (ts : Tested st.heads (slot_v st i).writes) where
  abbrev pub committed_hist : Hist
  committed_hist = record { last = λ r. or_else (h.own i r) (h.last r); who = upd h.who i 0; view = h.view; own = h.own }

  -- the closed slot's id is settled, and hidden from all that are open
  this_slot : slot_v (put_slot st i empty_slot) i ≡ empty_slot
  this_slot = get_or-set_same st.slots i empty_slot empty_slot (open_in st.slots i op)

  elsewhere : (j : ℕ) → j ≢ i → slot_v (put_slot st i empty_slot) j ≡ slot_v st j
  elsewhere j ne = get_or-set_other st.slots i j empty_slot empty_slot ne

  settles : Settled (put_slot st i empty_slot).clock (put_slot st i empty_slot).slots (slot_v st i).id
  settles = record {
    nonzero = op;
    past = past';
    shut = λ j. by_eq j i (λ q. rw (q, this_slot) (λ z. op (sym z))) (λ q. rw (elsewhere j q) (ids_differ R n st g h [] i iv op j q));
  }
    where
      past' : (slot_v st i).id < (put_slot st i empty_slot).clock
      past' = (iv.opens i op).snap.begun

  hidden : (j : ℕ) → (slot_v (put_slot st i empty_slot) j).id ≢ 0 → creator_visible (slot_v (put_slot st i empty_slot) j) (slot_v st i).id ≡ false
  hidden j oj = by_eq j i (λ q. absurd (oj (rw (q, this_slot)))) (λ q. rw (elsewhere j q) ((iv.opens j (rw (elsewhere j q) at oj)).snap.hides i (λ e. q (sym e))))

  pub commit_inv : (g' : Ghost) × Inv R n (commit_v i st) g' committed_hist []
  commit_inv = publish_all_lem R n (slot_v st i).id (slot_v st i).writes (put_slot st i empty_slot) g (ended_hist R n st g h i iv op) (close_inv R n st g h i iv op) (iv.opens i op).entries ts settles hidden committed_hist.last
      (λ r. rw ((iv.opens i op).owns r))
