-- What holds of a store and its history, in the words of the memory: ids, snapshots, chains, locks, records.
use Rattle.std.specs.Prelude.{true, false, ◌≢◌, ◌≡◌, ℕ, ◌≤◌, min, ◌<◌, suc, leb, eqb, get_or}
use Rattle.std.proofs.lemmas.Bool.{false≢true}
use mathlib.Core.List.{List, [], ◌∷◌}
use Rattle.std.proofs.Math.Option.{none}
use Rattle.std.proofs.Math.Path.{refl, subst, sym, ap}
use Rattle.std.proofs.Common.{◌∙◌, arith, leb-true, eq-eqb, leb-false, ne_eqb}
use Rattle.words.specs.Sizes.{Sizes}
use Rattle.words.specs.Lists.{least, has, greatest}
use Rattle.kinds.specs.Versions.{version_at}
use Rattle.words.specs.Slots.{Slot, Write, Rec}
use Rattle.rules.specs.Memory.{Mem, head_at, slot_at, clock}
use Rattle.kinds.specs.Visible.{visible}
use Rattle.rules.specs.Chain.{Chain}
use Rattle.rules.specs.Snapshot.{horizon}
use Rattle.kinds.specs.Versions.{reclaimable}
use Rattle.rules.specs.Lookup.{own_rows}
use Rattle.rules.specs.History.{Log, who_in}
use Rattle.rules.specs.Reachable.{All, InOrder, rows_read, bases_of, chain_at, behind, times, LockedFor, TrueStill, sees_at, BaseOf}
use Rattle.rules.proofs.Theory.Cases.{by_bool, or_true, by_eq}
use Rattle.rules.specs.Theory.View.{View, view_of}
use Rattle.rules.proofs.Theory.View.{get_slots}
use Rattle.rules.specs.Theory.Effects.{slot_v}
use Rattle.rules.specs.Theory.Counting.{cnt}
use Rattle.rules.proofs.Theory.Counting.{cnt_other, cnt_same, cnt_tail}
use Rattle.rules.specs.Theory.Inv.{Taken, Ver, own_find, Entries, Apart, Hist, Inv, vers, ver_of, Open, Recorded}
use Rattle.rules.proofs.Theory.Inv.{all_map, vis_is}
use Rattle.rules.proofs.Theory.Places.{chain_cell, head_among, placed_row}
use Rattle.rules.proofs.Theory.SlotSteps.{open_in}
use Rattle.rules.proofs.Theory.CommitView.{no_entry}
use Rattle.rules.proofs.Theory.Locks.{Holds, Based}
use Rattle.rules.specs.Theory.Good.{Owner}
use Rattle.rules.proofs.Theory.Good.{Good, view_open, view_id}
use Rattle.rules.proofs.Theory.BeginCall.{slots_length}
use Rattle.rules.proofs.Theory.VacuumCall.{row_chain_lem, dead_unseen, horizon_under}
use Rattle.rules.proofs.Theory.OnePlace.{times_is}

least_below : (c : ℕ) (l : List ℕ) (k : ℕ) → k ≤ least c l → All (λ x. k ≤ x) l
unfolding least
least_below c [] k h = tt
least_below c (x ∷ l) k h = (omega arith, least_below c l k (omega arith))

least_among : (c : ℕ) (l : List ℕ) → least c l ≢ c → has (least c l) l ≡ true
unfolding least has
least_among c [] ne = absurd (ne refl)
least_among c (x ∷ l) ne = by_bool (leb x (least c l))
    (λ e. let q : min x (least c l) ≡ x = omega (arith, leb-true x (least c l) e) in rw (q, eq-eqb x x refl))
    (λ e.
    let q : min x (least c l) ≡ least c l = omega (arith, leb-false x (least c l) e) in
    subst (λ (y : ℕ). has y (x ∷ l) ≡ true) (sym q) (rw (least_among c l (λ y. ne (q ∙ y))) (or_true (eqb (least c l) x))))

least_has_le : (c x : ℕ) (l : List ℕ) → has x l ≡ true → least c l ≤ x
unfolding least has
least_has_le c x [] e = absurd (false≢true e)
least_has_le c x (y ∷ l) e = by_eq x y (λ q. omega arith) (λ q. omega (arith, least_has_le c x l (rw (ne_eqb x y q) at e)))

greatest_above : (l : List ℕ) (k : ℕ) → greatest l < k → All (λ x. x < k) l
unfolding greatest
greatest_above [] k h = tt
greatest_above (x ∷ l) k h = (omega arith, greatest_above l k (omega arith))

-- what holds of every member holds of one that is in the list
pub has_all : (P : ℕ → Type 0) (x : ℕ) (l : List ℕ) → All P l → has x l ≡ true → P x
unfolding has
has_all P x [] a e = absurd (false≢true e)
has_all P x (y ∷ l) a e = by_eq x y (λ q. rw q a.0) (λ q. has_all P x l a.1 (rw (ne_eqb x y q) at e))

taken_order : (k : ℕ) (t : Slot) → Taken k t → InOrder t k
taken_order k t a =
    let up = greatest_above t.active t.top a.above in
    let lo = least_has_le t.top t.id t.active a.self in
    let hi = has_all (λ y. y < t.top) t.id t.active up a.self in
    record {
      self = a.self;
      among = subst (λ (x : ℕ). has x t.active ≡ true) (sym a.lowest) (least_among t.top t.active (λ e. omega arith));
      least = least_below t.top t.active t.low (omega (arith, a.lowest));
      above = up;
      early = a.early;
    }

-- ---- rows of a list of writes, of a list of records
no_row : (f : ℕ → Ver) (r : ℕ) (ws : List Write) → own_find f ws r ≡ none → cnt r (own_rows ws) ≡ 0
unfolding cnt
no_row f r [] e = refl
no_row f r (w ∷ l) e = let q = no_entry f w l r e in cnt_other r w.row (own_rows l) (λ y. q.0 (sym y)) ∙ no_row f r l q.1

entry_once : (f : ℕ → Ver) (R t r : ℕ) (ws : List Write) → Entries f R t ws → cnt r (own_rows ws) ≤ 1
unfolding cnt
entry_once f R t r [] e = omega arith
entry_once f R t r (w ∷ l) e = by_eq r w.row
    (λ q. subst (λ (y : ℕ). cnt y (own_rows (w ∷ l)) ≤ 1) (sym q) (omega (arith, cnt_same w.row (own_rows l), no_row f w.row l e.3)))
    (λ q. omega (arith, cnt_other r w.row (own_rows l) q, entry_once f R t r l e.4))

pub no_rec : (r : ℕ) (l : List Rec) → All (λ p. p.row ≢ r) l → cnt r (rows_read l) ≡ 0
unfolding cnt
no_rec r [] a = refl
no_rec r (q ∷ l) a = cnt_other r q.row (rows_read l) (λ y. a.0 (sym y)) ∙ no_rec r l a.1

pub rec_once : (r : ℕ) (l : List Rec) → Apart l → cnt r (rows_read l) ≤ 1
unfolding cnt
rec_once r [] a = omega arith
rec_once r (q ∷ l) a = by_eq r q.row
    (λ y. subst (λ (k : ℕ). cnt k (rows_read (q ∷ l)) ≤ 1) (sym y) (omega (arith, cnt_same q.row (rows_read l), no_rec q.row l a.0)))
    (λ y. omega (arith, cnt_other r q.row (rows_read l) y, rec_once r l a.1))

-- the base of a held entry
base_held : (st : View) (id : Slot) (c : ℕ) (ws : List Write) (f : ℕ → Ver) (R t : ℕ) → Entries f R t ws → All (Holds st id) ws → c ≢ 0 → cnt c (bases_of ws) ≢ 0 → (r : ℕ) × (r < R) × (st.heads r ≡ c)
unfolding cnt
base_held st id c [] f R t e a nz m = absurd (m refl)
base_held st id c (w ∷ l) f R t e a nz m = by_eq c w.base
    (λ q. (w.row, e.0, (a.0 (λ y. nz (q ∙ y))).headed ∙ sym q))
    (λ q. base_held st id c l f R t e.4 a.1 nz (λ y. m (cnt_other c w.base (bases_of l) q ∙ y)))

module _ {z : Sizes} (R N : ℕ) (m : Mem z) (h : Hist) (gd : Good R N m h) where
  abbrev st : View
  st = view_of m

  abbrev iv : Inv R (suc N) (view_of m) gd.ghost h []
  iv = gd.inv

  abbrev row_of : ℕ → List ℕ
  row_of r = get_or gd.ghost.rows r []

  pub at_row : (row : ℕ) → row < R → row_of row ≡ (chain_at m row).cells
  at_row row in_r = sym (ap (λ (c : Chain). c.cells) (row_chain_lem R N m h gd row in_r))

  -- ---- heads, and what stands behind them
  head_go : (row : ℕ) → row < R → (l : List ℕ) → row_of row ≡ l → head_at m row ≢ 0 → (version_at m.cells (head_at m row)).xmax.0 ≡ 0
  unfolding ver_of
  head_go row in_r [] e nz = absurd (nz (rw e at (iv.chain row in_r)))
  head_go row in_r (c ∷ l) e nz =
      let first : head_at m row ≡ c = (rw e at (iv.chain row in_r)).0 in
      rw first (rw e at (iv.tops row)).0

  pub head_live : (row : ℕ) → row < R → head_at m row ≢ 0 → (version_at m.cells (head_at m row)).xmax.0 ≡ 0
  head_live row in_r nz = head_go row in_r (row_of row) refl nz

  -- a head stands behind no head
  behind_go : (row : ℕ) (l : List ℕ) → row_of row ≡ l → row < R → (c r : ℕ) → r < R → st.heads r ≡ c → c ≢ 0 → cnt c (behind l) ≡ 0
  unfolding cnt
  behind_go row [] e in_r c r lt hc nz = refl
  behind_go row (d ∷ l) e in_r c r lt hc nz =
      let k = chain_cell R (suc N) st gd.ghost h [] c r iv (rw hc at (head_among R (suc N) st gd.ghost h [] r iv lt (rw hc nz))) in
      by_eq r row
      (λ q.
      let hd : c ≡ d = sym hc ∙ ap st.heads q ∙ (rw e at (iv.chain row in_r)).0 in
      let one : cnt c (d ∷ l) ≡ 1 = subst (λ (x : List ℕ). cnt c x ≡ 1) e (subst (λ (x : ℕ). cnt c (row_of x) ≡ 1) q k.single) in
      let two : cnt c (c ∷ l) ≡ 1 = rw (← hd) at one in
      omega (arith, cnt_same c l))
      (λ q. let none_here : cnt c (d ∷ l) ≡ 0 = subst (λ (x : List ℕ). cnt c x ≡ 0) e (k.unrow row q) in omega arith)

  -- c is a base: then it is a head
  based_head : (c : ℕ) → c ≢ 0 → Based st c → (r : ℕ) × (r < R) × (st.heads r ≡ c)
  based_head c nz b = base_held st (slot_v st b.slot) c (slot_v st b.slot).writes (vers st) R (slot_v st b.slot).id (iv.opens b.slot b.taken).entries (gd.locks.held b.slot b.taken) nz b.among

  later_go : (row : ℕ) (l : List ℕ) → row_of row ≡ l → row < R → (c : ℕ) → cnt c (behind l) ≢ 0 → ((version_at m.cells c).xmax.0 ≢ 0) × ((version_at m.cells c).locked ≡ 0)
  unfolding ver_of cnt
  later_go row [] e in_r c nz = absurd (nz refl)
  later_go row (d ∷ l) e in_r c nz =
      let k = chain_cell R (suc N) st gd.ghost h [] c row iv (rw e (λ y. nz (cnt_tail c d l y))) in (
        ((rw e at (iv.tops row)).3 c nz).nonzero,
        by_eq (version_at m.cells c).locked 0 (λ y. y)
            (λ y. let b = based_head c k.real (gd.locks.only c k.real k.inside y) in absurd (nz (behind_go row (d ∷ l) e in_r c b.0 b.1 b.2 k.real))),
      )

  pub later_superseded : (row c : ℕ) → row < R → times c (behind (chain_at m row).cells) ≢ 0 → ((version_at m.cells c).xmax.0 ≢ 0) × ((version_at m.cells c).locked ≡ 0)
  later_superseded row c in_r nz = later_go row (chain_at m row).cells (at_row row in_r) in_r c (rw (times_is c (behind (chain_at m row).cells)) at nz)

  -- ---- an open slot
  module _ (s id : ℕ) (o : Owner m s id) where
    at_slot : slot_v st s ≡ slot_at m s
    at_slot = get_slots z m.slots s o.slot

    abbrev q : Open R (view_of m) gd.ghost h s
    q = iv.opens s (view_open m s id o)

    pub id_past : id < clock m
    id_past = subst (λ (x : ℕ). x < clock m) (view_id m s id o) q.snap.begun

    pub snapshot_order : InOrder (slot_at m s) (clock m)
    snapshot_order = subst (λ (t : Slot). InOrder t (clock m)) at_slot (taken_order (clock m) (slot_v st s) q.taken)

    pub bases_locked : All (λ w. w.base ≢ 0 → LockedFor m id w) (slot_at m s).writes
    bases_locked = subst (λ (t : Slot). All (λ w. w.base ≢ 0 → LockedFor m id w) t.writes) at_slot
        (all_map _ _ (slot_v st s).writes (λ w a nz. let b = a nz in record { head = b.headed; flag = b.flag; owner = b.owner ∙ view_id m s id o }) (gd.locks.held s (view_open m s id o)))

    pub one_entry : (r : ℕ) → times r (own_rows (slot_at m s).writes) ≤ 1
    one_entry r = rw (times_is r (own_rows (slot_at m s).writes)) (subst (λ (t : Slot). cnt r (own_rows t.writes) ≤ 1) at_slot (entry_once (vers st) R (slot_v st s).id r (slot_v st s).writes q.entries))

    pub one_record : (r : ℕ) → times r (rows_read (slot_at m s).recs) ≤ 1
    one_record r = rw (times_is r (rows_read (slot_at m s).recs)) (subst (λ (t : Slot). cnt r (rows_read t.recs) ≤ 1) at_slot (rec_once r (slot_v st s).recs q.apart))

    pub records_true : All (TrueStill m s) (slot_at m s).recs
    unfolding ver_of
    records_true =
        let one : (x : Rec) → Recorded (vers st) gd.ghost.rows (slot_v st s) x → TrueStill m s x =
        λ x a.
        let lt = placed_row R (suc N) st gd.ghost h [] x.row x.cell iv a.placed in
        let k = chain_cell R (suc N) st gd.ghost h [] x.cell x.row iv a.placed in
        record {
          placed = times_is x.cell (chain_at m x.row).cells ∙ subst (λ (y : List ℕ). cnt x.cell y ≡ 1) (at_row x.row lt) k.single;
          xmin = a.minned;
          seen = subst (λ (t : Slot). visible t (version_at m.cells x.cell) ≡ true) at_slot (vis_is (slot_v st s) (st.vers x.cell) ∙ a.seen);
        } in
        subst (λ (t : Slot). All (TrueStill m s) t.recs) at_slot (all_map _ _ (slot_v st s).recs one q.records)

    -- what vacuum may reclaim this reader does not see
    pub reclaimed_unseen : (request c : ℕ) → reclaimable (horizon m request) (version_at m.cells c) ≡ true → sees_at m s c ≡ false
    reclaimed_unseen request c e =
        subst (λ (t : Slot). visible t (version_at m.cells c) ≡ false) at_slot
        (vis_is (slot_v st s) (st.vers c) ∙ dead_unseen R (suc N) st gd.ghost h (horizon m request) c iv (horizon_under m request) e s (view_open m s id o))

  -- nothing else is locked
  pub locked_based : (l : Log) → ((i : ℕ) → who_in l i ≡ h.who i) → (c : ℕ) → c ≢ 0 → c ≤ N → (version_at m.cells c).locked ≢ 0 → BaseOf m l c
  locked_based l e c nz le f =
      let b = gd.locks.only c nz (omega arith) f in
      let lt : b.slot < z.slots = rw (slots_length z m.slots gd.shaped.slots.count) at (open_in st.slots b.slot b.taken) in
      let here = get_slots z m.slots b.slot lt in
      record { slot = b.slot; taken = rw (e b.slot ∙ sym (iv.known b.slot)) b.taken; among = rw (times_is c (bases_of (slot_at m b.slot).writes)) (rw here at b.among) }
