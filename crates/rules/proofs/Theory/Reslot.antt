-- A slot's write set or read records change, and nothing else of it.
use mathlib.Core.List.{List, [], ◌∷◌}
use Rattle.std.specs.Prelude.{◌≢◌, ◌≡◌, ℕ, ◌+◌, get_or, set}
use Rattle.std.proofs.Math.Option.{Option}
use Rattle.std.proofs.Math.Path.{refl}
use Rattle.std.proofs.Common.{◌∙◌, sym, arith, get_or-set_same, get_or-set_other}
use Rattle.words.specs.Slots.{Write, Rec, Slot}
use Rattle.kinds.specs.Visible.{creator_visible}
use Rattle.rules.specs.Abort.{news}
use Rattle.rules.specs.History.{Val}
use Rattle.rules.specs.Reachable.{All}
use Rattle.rules.proofs.Theory.Cases.{by_eq}
use Rattle.rules.specs.Theory.View.{View, empty_slot}
use Rattle.rules.specs.Theory.Effects.{slot_v, put_slot}
use Rattle.rules.specs.Theory.Counting.{cnt}
use Rattle.rules.proofs.Theory.Counting.{sum_set}
use Rattle.rules.specs.Theory.Inv.{Ghost, Hist, Inv, own_find, vers, Entries, Recorded, Apart, vis, Ver, pick, Single, places, inb, in_slot, Snap, Open}
use Rattle.rules.proofs.Theory.Inv.{all_map}
use Rattle.rules.proofs.Theory.SlotSteps.{open_in, top_set, open_beside}
use Rattle.rules.specs.Theory.Reslot.{reslot}

module _ (R n : ℕ) (st : View) (g : Ghost) (h : Hist) (pend pend' : List ℕ) (i : ℕ) (ws : List Write) (rs : List Rec) (own' : ℕ → ℕ → Option Val)
    (iv : Inv R n st g h pend) (op : (slot_v st i).id ≢ 0)
    (cs : (x : ℕ) → cnt x (news ws) + cnt x pend' ≡ cnt x (news (slot_v st i).writes) + cnt x pend)
    (here : (r : ℕ) → own_find (vers st) ws r ≡ own' i r) (there : (j r : ℕ) → j ≢ i → own' j r ≡ h.own j r)
    (en : Entries (vers st) R (slot_v st i).id ws) (rc : All (Recorded (vers st) g.rows (slot_v st i)) rs) (ap₁ : Apart rs) where
  abbrev s' : Slot
  s' = reslot st i ws rs

  abbrev st' : View
  st' = put_slot st i s'

  this_slot : slot_v st' i ≡ s'
  this_slot = get_or-set_same st.slots i s' empty_slot (open_in st.slots i op)

  elsewhere : (j : ℕ) → j ≢ i → slot_v st' j ≡ slot_v st j
  elsewhere j ne = get_or-set_other st.slots i j s' empty_slot ne

  -- the new slot sees what the old one saw
  cv_same : (x : ℕ) → creator_visible s' x ≡ creator_visible (slot_v st i) x
  unfolding creator_visible
  cv_same x = refl

  vis_same : (v : Ver) → vis s' v ≡ vis (slot_v st i) v
  unfolding vis creator_visible
  vis_same v = refl

  pick_same : (f : ℕ → Ver) (l : List ℕ) → pick s' f l ≡ pick (slot_v st i) f l
  unfolding pick
  pick_same f [] = refl
  pick_same f (c ∷ l) = rw (vis_same (f c), pick_same f l)

  single_same : (f : ℕ → Ver) (l : List ℕ) → Single (slot_v st i) f l → Single s' f l
  unfolding vis creator_visible
  single_same f [] a = tt
  single_same f (c ∷ l) a = (a.0, single_same f l a.1)

  counts : (x : ℕ) → places g (set st.slots i s') pend' x ≡ inb n x
  counts x = omega (arith, iv.once x, cs x, sum_set (in_slot x) st.slots i s' empty_slot (open_in st.slots i op))

  this_snap : Snap st.clock st'.slots i
  this_snap =
      let sn = (iv.opens i op).snap in
      record {
        begun = rw this_slot sn.begun;
        below = λ x nz lo. rw (this_slot, cv_same x) (sn.below x nz (rw this_slot at lo));
        hides = λ j ne. rw (this_slot, elsewhere j ne, cv_same) (sn.hides j ne);
        after = λ x le. rw (this_slot, cv_same x) (sn.after x le);
      }

  abbrev h' : Hist
  h' = record { last = h.last; who = h.who; view = h.view; own = own' }

  this_open : Open R st' g h' i
  this_open =
      let o = iv.opens i op in
      record {
        snap = this_snap;
        taken = rw this_slot (record { self = o.taken.self; lowest = o.taken.lowest; above = o.taken.above; early = o.taken.early });
        reads = λ r. rw this_slot (pick_same (vers st) (get_or g.rows r []) ∙ o.reads r);
        single = λ r. rw this_slot (single_same (vers st) (get_or g.rows r []) (o.single r));
        owns = λ r. rw this_slot (here r);
        entries = rw this_slot en;
        records = rw this_slot (all_map _ _ rs (λ q a. record { placed = a.placed; minned = a.minned; seen = vis_same _ ∙ a.seen }) rc);
        apart = rw this_slot ap₁;
      }

  pub reslot_inv : Inv R n (put_slot st i (reslot st i ws rs)) g (record { last = h.last; who = h.who; view = h.view; own = own' }) pend'
  reslot_inv =
      let lt = open_in st.slots i op in
      record {
        once = counts;
        ticking = iv.ticking;
        rowed = iv.rowed;
        chain = iv.chain;
        frees = iv.frees;
        tops = λ r. top_set st.clock st.clock st.slots i s' (omega arith) lt (vers st) (get_or g.rows r []) (h.last r) (λ x sx. sx.shut i) (iv.tops r);
        known = λ j. by_eq j i (λ q. rw (q, this_slot) (iv.known i)) (λ q. rw (elsewhere j q) (iv.known j));
        closed = λ j z. by_eq j i (λ q. absurd (op (rw (q, this_slot) at z))) (λ q. rw (elsewhere j q) (iv.closed j (rw (elsewhere j q) at z)));
        opens = λ j oj. by_eq j i (λ q. rw q this_open) (λ q.
            let o = iv.opens j (rw (elsewhere j q) at oj) in
            open_beside R st g h h' i s' st.clock (omega arith) lt j q (o.snap.hides i (λ e. q (sym e))) (λ r. refl) (λ r. there j r q) o);
      }
