-- Vacuum keeps what holds: what it reclaims is seen by no open reader, for all open snapshots at once. The history stays.
use Rattle.std.specs.Prelude.{Bool, true, false, not, ◌≢◌, ◌≡◌, ℕ, ◌≤◌, zero, suc, min, ◌<◌, eqb, ltb, get_or, take, set}
use mathlib.Core.List.{List, [], ◌∷◌, map, ◌++◌}
use Rattle.std.proofs.Math.Path.{refl, ap, subst}
use Rattle.std.proofs.Common.{◌∙◌, sym, le_of_suc-le-suc, arith, ne_eqb, ltb-true, leb-false}
use Rattle.std.proofs.lemmas.Bool.{eqb-false, not-true}
use Rattle.kinds.specs.Answer.{Answer}
use Rattle.words.specs.Sizes.{Sizes}
use Rattle.words.specs.Lists.{least, fold, nonzero, keep}
use Rattle.kinds.specs.Versions.{empty_version, version_at}
use Rattle.words.specs.Slots.{Slot, slot_of}
use Rattle.rules.specs.Memory.{Mem, clock, size_n, head_at, with_cells, free, size_r}
use Rattle.kinds.specs.Visible.{creator_visible}
use Rattle.rules.specs.Chain.{chain, chained, ends}
use Rattle.rules.specs.Snapshot.{horizon, horizon_of}
use Rattle.rules.specs.Outcome.{Outcome, refuse, store_tests, row_test}
use Rattle.rules.specs.Abort.{give_back}
use Rattle.rules.specs.Vacuum.{relink, swept, vacuum_now, vacuum_out}
use Rattle.kinds.specs.Versions.{reclaimable}
use Rattle.rules.proofs.Theory.Cases.{by_bool, and_true, and_false, by_eq}
use Rattle.rules.specs.Theory.CellLaws.{HasCell}
use Rattle.rules.specs.Theory.Shape.{SlotsOk}
use Rattle.rules.specs.Theory.View.{empty_slot, view_of, slots_of, View}
use Rattle.rules.specs.Theory.Effects.{lows_v, slot_v, give_all_v, give_v, with_vers, relink_v}
use Rattle.rules.specs.Theory.Bridge.{AllCells}
use Rattle.rules.proofs.Theory.Bridge.{lows_are, relink_vers, view_give_all, all_cells}
use Rattle.rules.specs.Theory.Counting.{cnt}
use Rattle.rules.proofs.Theory.Counting.{cnt_tail, cnt_head, cnt_same}
use Rattle.rules.specs.Theory.Inv.{Ghost, Hist, Inv, vers, vis, ver_of, Spelled, nexts}
use Rattle.rules.proofs.Theory.Inv.{spelled_frame}
use Rattle.rules.proofs.Theory.Places.{chain_cell, head_among}
use Rattle.rules.specs.Theory.Publish.{of_next}
use Rattle.rules.proofs.Theory.Publish.{part_off}
use Rattle.rules.proofs.Theory.Cells.{give_all_inv}
use Rattle.rules.proofs.Theory.VacuumView.{cnt_keep, relink_part, relink_inv}
use Rattle.rules.specs.Theory.Locks.{part_of, Part}
use Rattle.rules.proofs.Theory.Locks.{Locks, locks_give_all, held_off, locks_same}
use Rattle.rules.proofs.Theory.Chains.{chain_ends}
use Rattle.rules.proofs.Theory.Guard.{guard_case, passed_split}
use Rattle.rules.specs.Theory.Same.{Same}
use Rattle.rules.proofs.Theory.Same.{same_relink, same_then, same_give_all, same_shaped, slots_give_all}
use Rattle.rules.proofs.Theory.Good.{Good}

pub lows_under : (d : ℕ) (ss : List Slot) (i : ℕ) → (get_or ss i empty_slot).id ≢ 0 → least d (lows_v ss) ≤ (get_or ss i empty_slot).low
unfolding least lows_v
lows_under d [] i op = absurd (op refl)
lows_under d (s ∷ l) zero op = rw (ne_eqb s.id 0 op) (omega arith)
lows_under d (s ∷ l) (suc i) op = by_bool (eqb s.id 0) (λ e. rw e (lows_under d l i op)) (λ e. rw e (omega (arith, lows_under d l i op)))

-- the horizon is at most the xmin of every open snapshot
pub horizon_under : {z : Sizes} (m : Mem z) (request i : ℕ) → (slot_v (view_of m) i).id ≢ 0 → horizon m request ≤ (slot_v (view_of m) i).low
unfolding horizon_of slots_of
horizon_under {z} m request i op = rw (lows_are z (take z.slots m.slots)) (lows_under (min request (clock m)) (map (slot_of z) (take z.slots m.slots)) i op)

pub dead_unseen : (R n : ℕ) (st : View) (g : Ghost) (h : Hist) (hz c : ℕ) → Inv R n st g h [] → ((i : ℕ) → (slot_v st i).id ≢ 0 → hz ≤ (slot_v st i).low) → reclaimable hz (st.vers c) ≡ true
    → (i : ℕ) → (slot_v st i).id ≢ 0 → vis (slot_v st i) (vers st c) ≡ false
unfolding vis ver_of reclaimable
dead_unseen R n st g h hz c iv un e i op =
    let x = (st.vers c).xmax.0 in
    let a = and_true (nonzero x) _ e in
    let nz : x ≢ 0 = eqb-false x 0 (not-true _ a.0) in
    let lt : x < hz = ltb-true x hz (and_true (ltb x hz) _ a.1).0 in
    let u = un i op in
    rw ((iv.opens i op).snap.below x nz (omega arith), ne_eqb x 0 nz) (and_false (creator_visible (slot_v st i) (st.vers c).xmin.0))

-- a chain without the cells given back is spelled as before
give_spelled : (l : List ℕ) (st : View) (r : ℕ) (list : List ℕ) → ((c : ℕ) → cnt c list ≢ 0 → cnt c l ≡ 0) → Spelled (nexts st) (st.heads r) list → Spelled (nexts (give_all_v l st)) ((give_all_v l st).heads r) list
unfolding fold
give_spelled [] st r list off s = s
give_spelled (c ∷ l) st r list off s =
    give_spelled l (give_v c st) r list (λ d nz. cnt_tail d c l (off d nz))
    (spelled_frame (nexts st) (nexts (give_v c st)) c (st.heads r) list (part_off of_next st.vers c empty_version)
    (by_eq (cnt c list) 0 (λ e. e) (λ nz. absurd (cnt_head c c l (off c nz) refl))) s)

-- members that are cells, one by one
pub cells_of : (cs : List (List ℕ)) (l : List ℕ) → ((c : ℕ) → cnt c l ≢ 0 → HasCell cs c) → AllCells cs l
cells_of cs [] f = tt
cells_of cs (c ∷ l) f = (f c (λ z. cnt_head c c l z refl), cells_of cs l (λ d n. f d (λ z. n (cnt_tail d c l z))))

module _ {z : Sizes} (R N : ℕ) (m : Mem z) (h : Hist) (gd : Good R N m h) (row : ℕ) (in_r : row < R) where
  abbrev st : View
  st = view_of m

  -- the walk finds the row's chain, and its end
  pub row_chain_lem : chain (size_n m) (version_at m.cells) (size_n m) (head_at m row) ≡ chained (get_or gd.ghost.rows row []) ends
  row_chain_lem = rw gd.cells (chain_ends R N st gd.ghost h row gd.inv in_r)

  module _ (hz : ℕ) (un : (i : ℕ) → (slot_v (view_of m) i).id ≢ 0 → hz ≤ (slot_v (view_of m) i).low) (hd : ℕ) (l : List ℕ) (here : get_or gd.ghost.rows row [] ≡ hd ∷ l) where
    abbrev p : ℕ → Bool
    p c = reclaimable hz (version_at m.cells c)

    abbrev alive : List ℕ
    alive = hd ∷ keep (λ c. not (p c)) l

    in_row : (c : ℕ) → cnt c (hd ∷ l) ≢ 0 → HasCell m.cells c
    in_row c nz =
        let k = chain_cell R (suc N) st gd.ghost h [] c row gd.inv (rw here nz) in
        let a = le_of_suc-le-suc k.inside in
        let b = k.real in
        record { low = omega arith; high = omega (arith, gd.shaped.cells, gd.cells) }

    alive_in : AllCells m.cells alive
    unfolding cnt
    alive_in = cells_of m.cells alive (λ c nz. in_row c (λ e. nz (omega (arith, cnt_keep p c l))))

    dead_in : AllCells m.cells (keep p l)
    unfolding cnt
    dead_in = cells_of m.cells (keep p l) (λ c nz. in_row c (λ e. nz (omega (arith, cnt_keep p c l))))

    abbrev linked : Mem z
    linked = with_cells m (relink alive m.cells)

    abbrev relinked : View
    relinked = with_vers st (relink_v alive st.vers)

    swept_view : view_of (fold give_back (keep p l) linked) ≡ give_all_v (keep p l) relinked
    swept_view =
        let u = relink_vers alive m.cells alive_in in
        view_give_all (keep p l) linked (all_cells m.cells linked.cells (same_relink alive m.cells) (keep p l) dead_in) gd.shaped.metas
        ∙ ap (give_all_v (keep p l)) (λ i. record { vers = u.0 i; links = u.1 i; heads = head_at m; free = free m; clock = clock m; slots = slots_of z m.slots })

    -- no head is reclaimed
    head_stays : (r : ℕ) → r < R → st.heads r ≢ 0 → cnt (st.heads r) (keep p l) ≡ 0
    unfolding cnt
    head_stays r lt nz =
        let c = st.heads r in
        let k = chain_cell R (suc N) st gd.ghost h [] c r gd.inv (head_among R (suc N) st gd.ghost h [] r gd.inv lt nz) in
        by_eq r row
        (λ q.
        let e : c ≡ hd = ap st.heads q ∙ (rw here at (gd.inv.chain row in_r)).0 in
        let one : cnt c (hd ∷ l) ≡ 1 = subst (λ (x : List ℕ). cnt c x ≡ 1) here (subst (λ (x : ℕ). cnt c (get_or gd.ghost.rows x []) ≡ 1) q k.single) in
        let two : cnt c (c ∷ l) ≡ 1 = rw (← e) at one in
        omega (arith, cnt_keep p c l, cnt_same c l))
        (λ q. let zero-here : cnt c (hd ∷ l) ≡ 0 = subst (λ (x : List ℕ). cnt c x ≡ 0) here (k.unrow row q) in omega (arith, cnt_keep p c l))

    swept_locks : Locks (suc N) (give_all_v (keep p l) relinked)
    swept_locks =
        let same = relink_part part_of (λ v n. refl) alive st.vers in
        locks_give_all (suc N) (keep p l) relinked (held_off R (suc N) st gd.ghost h gd.inv gd.locks (keep p l) head_stays)
        (locks_same (suc N) st (relink_v alive st.vers) (λ c. ap (λ (f : ℕ → Part). f c) same) gd.locks)

    -- the dead are out of the chains, what is left is spelled as a part of what was
    pub swept_rows : (r : ℕ) → r < R
        → Spelled (nexts (view_of (fold give_back (keep p l) linked))) ((view_of (fold give_back (keep p l) linked)).heads r) (get_or (set gd.ghost.rows row alive) r [])
    swept_rows r lt =
        let iv₁ = relink_inv R (suc N) st gd.ghost h row hd l p gd.inv in_r here (λ c d. dead_unseen R (suc N) st gd.ghost h hz c gd.inv un d) in
        let rows = get_or (set gd.ghost.rows row alive) r [] in
        subst (λ (v : View). Spelled (nexts v) (v.heads r) rows) (sym swept_view)
        (give_spelled (keep p l) relinked r rows (λ c nz. (chain_cell R (suc N) relinked _ h (keep p l) c r iv₁ nz).unpend) (iv₁.chain r lt))

    swept_good : (room : ℕ) → Good R N (swept m hz room hd l).after h
    unfolding swept
    swept_good room = guard_case (λ (o : Outcome z Answer (List ℕ)). Good R N o.after h) (refuse m) _ _ (λ k x. gd)
        (λ _.
        let e₀ : Same m linked = record { meta = refl; rows = refl; cells = same_relink alive m.cells; sizer = refl; sizen = refl } in
        let e = same_then m linked (fold give_back (keep p l) linked) e₀ (same_give_all (keep p l) linked) in
        let iv₁ = relink_inv R (suc N) st gd.ghost h row hd l p gd.inv in_r here (λ c d. dead_unseen R (suc N) st gd.ghost h hz c gd.inv un d) in
        let k = give_all_inv R (suc N) (keep p l) _ _ h iv₁ in
        record {
          shaped = same_shaped m (fold give_back (keep p l) linked) e gd.shaped (subst (SlotsOk z) (sym (slots_give_all (keep p l) linked)) gd.shaped.slots);
          rows = e.sizer ∙ gd.rows;
          cells = e.sizen ∙ gd.cells;
          ghost = k.0;
          inv = rw swept_view k.1;
          locks = rw swept_view swept_locks;
        })

  now_good : (hz : ℕ) → ((i : ℕ) → (slot_v (view_of m) i).id ≢ 0 → hz ≤ (slot_v (view_of m) i).low) → (room : ℕ) (l : List ℕ) → get_or gd.ghost.rows row [] ≡ l → Good R N (vacuum_now m hz room l ends).after h
  unfolding vacuum_now
  now_good hz un room [] e = gd
  now_good hz un room (hd ∷ l) e = swept_good hz un hd l e room

pub vacuum_good : {z : Sizes} (R N : ℕ) (m : Mem z) (h : Hist) → Good R N m h → (row request room : ℕ) → Good R N (vacuum_out m row request room).after h
unfolding vacuum_out
vacuum_good {z} R N m h gd row request room = guard_case (λ (o : Outcome z Answer (List ℕ)). Good R N o.after h) (refuse m) (store_tests m ++ row_test m row ∷ []) _ (λ k x. gd)
    (λ p.
    let in_r : row < R = rw gd.rows at (leb-false (size_r m) row (passed_split (store_tests m) (row_test m row ∷ []) p).1.0) in
    rw (row_chain_lem R N m h gd row in_r) (now_good R N m h gd row in_r (horizon m request) (horizon_under m request) room (get_or gd.ghost.rows row []) refl))
