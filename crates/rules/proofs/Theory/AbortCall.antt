-- Abort keeps what holds; the history notes that the slot has ended.
use Rattle.std.specs.Prelude.{List, [], ◌∷◌, ◌++◌, ◌≢◌, ◌≡◌, ◌≤◌, ℕ, suc, length}
use Rattle.std.proofs.Common.{ap, ◌∙◌, sym, arith, get_or-set_same, get_or-set_other, ltb-false}
use Rattle.std.proofs.Math.Path.{refl}
use Rattle.kinds.specs.Answer.{Answer}
use Rattle.words.specs.Sizes.{Sizes}
use Rattle.words.specs.Lists.{fold}
use Rattle.kinds.specs.Versions.{version_at}
use Rattle.words.specs.Slots.{Write, Slot, emptied}
use Rattle.rules.specs.Memory.{Mem, size_n, slot_at, with_cells, with_slot, head_at, free, clock}
use Rattle.rules.specs.Outcome.{each, Outcome, refuse, slot_tests}
use Rattle.rules.specs.Abort.{abort_tests, news, unlock_base, give_back, abort_out}
use Rattle.rules.specs.History.{if_done}
use Rattle.rules.specs.Reachable.{All}
use Rattle.rules.proofs.Theory.Cases.{by_eq}
use Rattle.rules.specs.Theory.View.{View, view_of, slots_of, empty_slot}
use Rattle.rules.proofs.Theory.View.{get_slots}
use Rattle.rules.specs.Theory.Effects.{put_slot, give_all_v, give_v, with_vers, unlock_v, slot_v}
use Rattle.rules.specs.Theory.Bridge.{BasesIn, AllCells}
use Rattle.rules.proofs.Theory.Bridge.{unlock_vers, view_close, view_give_all, all_cells}
use Rattle.rules.specs.Theory.Counting.{cnt}
use Rattle.rules.specs.Theory.Inv.{Hist}
use Rattle.rules.proofs.Theory.Places.{chain_cell, head_among}
use Rattle.rules.proofs.Theory.SlotSteps.{ids_differ, open_in}
use Rattle.rules.specs.Theory.Cells.{abort_v}
use Rattle.rules.proofs.Theory.Cells.{abort_inv}
use Rattle.rules.proofs.Theory.Locks.{Locks, held_off, locks_give_all, locks_drop}
use Rattle.rules.specs.Theory.Guard.{Passed}
use Rattle.rules.proofs.Theory.Guard.{guard_case, passed_split}
use Rattle.rules.specs.Theory.Same.{Same}
use Rattle.rules.proofs.Theory.Same.{same_unlock, same_then, same_give_all, shaped_close, slots_give_all}
use Rattle.rules.specs.Theory.Good.{Owner, hist_end}
use Rattle.rules.proofs.Theory.Good.{cell_in, Good, slot_id, owner, view_open}

-- an abort's tests passed: bases and new cells are cells, of any arena that is long enough for the store
pub abort_entries_in : {z : Sizes} (m : Mem z) (cs : List (List ℕ)) → size_n m ≤ length cs → (ws : List Write) → Passed (each (abort_tests m) ws) → BasesIn cs ws × AllCells cs (news ws)
unfolding each
abort_entries_in m cs n [] p = (tt, tt)
abort_entries_in m cs n (w ∷ l) p =
    let r = abort_entries_in m cs n l p.1.1 in
    let b : w.base ≤ size_n m = ltb-false _ _ p.0 in
    ((omega arith, r.0), (cell_in (size_n m) w.new cs n p.1.0, r.1))

give_later : (l : List ℕ) (st : View) (s : ℕ) (t : Slot) → put_slot (give_all_v l st) s t ≡ give_all_v l (put_slot st s t)
unfolding fold
give_later [] st s t = refl
give_later (c ∷ l) st s t = give_later l (give_v c st) s t

module _ {z : Sizes} (R N : ℕ) (m : Mem z) (h : Hist) (gd : Good R N m h) (s id : ℕ) where
  abbrev ws : List Write
  ws = (slot_at m s).writes

  abbrev loosed : Mem z
  loosed = with_cells m (fold (unlock_base id) ws m.cells)

  abbrev gone : Mem z
  gone = with_slot (fold give_back (news ws) loosed) s (emptied z)

  abort_view : Owner m s id → BasesIn m.cells ws → AllCells m.cells (news ws) → view_of gone ≡ abort_v s (view_of m)
  abort_view o b a =
      let u = unlock_vers id ws m.cells b in
      let e : view_of loosed ≡ with_vers (view_of m) (unlock_v id ws (version_at m.cells)) = λ i. record { vers = u.0 i; links = u.1 i; heads = head_at m; free = free m; clock = clock m; slots = slots_of z m.slots } in
      view_close (fold give_back (news ws) loosed) s o.slot
      ∙ ap (λ (st : View). put_slot st s empty_slot) (view_give_all (news ws) loosed (all_cells m.cells loosed.cells u.2 (news ws) a) gd.shaped.metas ∙ ap (give_all_v (news ws)) e)
      ∙ give_later (news ws) (with_vers (view_of m) (unlock_v id ws (version_at m.cells))) s empty_slot
      ∙ sym (ap (λ (t : Slot). give_all_v (news t.writes) (put_slot (with_vers (view_of m) (unlock_v t.id t.writes (version_at m.cells))) s empty_slot)) (get_slots z m.slots s o.slot)
      ∙ ap (λ (k : ℕ). give_all_v (news ws) (put_slot (with_vers (view_of m) (unlock_v k ws (version_at m.cells))) s empty_slot)) (slot_id m s id o))

  -- a base that is held stands in a chain, a cell of a write set does not
  abort_locks : (op : (slot_v (view_of m) s).id ≢ 0) → Locks (suc N) (abort_v s (view_of m))
  abort_locks op =
      let st = view_of m in
      let iv = gd.inv in
      let g = gd.ghost in
      let differ = ids_differ R (suc N) st g h [] s iv op in
      let st₁ = put_slot (with_vers st (unlock_v (slot_v st s).id (slot_v st s).writes st.vers)) s empty_slot in
      let in_chain : (j : ℕ) → (slot_v st j).id ≢ 0 → All (λ w. w.base ≢ 0 → cnt w.base (news (slot_v st s).writes) ≡ 0) (slot_v st j).writes =
      λ j oj. held_off R (suc N) st g h iv gd.locks (news (slot_v st s).writes) (λ r lt nz. (chain_cell R (suc N) st g h [] (st.heads r) r iv (head_among R (suc N) st g h [] r iv lt nz)).unslot s) j oj in
      locks_give_all (suc N) (news (slot_v st s).writes) st₁
      (λ j oj. by_eq j s
      (λ q. absurd (oj (rw (q, get_or-set_same st.slots s empty_slot empty_slot (open_in st.slots s op)))))
      (λ q. let e = get_or-set_other st.slots s j empty_slot empty_slot q in rw e (in_chain j (rw e at oj))))
      (locks_drop (suc N) st s gd.locks op differ)

  pub abort_good : Good R N (abort_out m s id).after (if_done (abort_out m s id).answer (hist_end h s) h)
  unfolding abort_out
  abort_good = guard_case (λ (o : Outcome z Answer ℕ). Good R N o.after (if_done o.answer (hist_end h s) h)) (refuse m) (slot_tests m s id ++ each (abort_tests m) ws) _ (λ k x. gd)
      (λ p.
      let sh = gd.shaped in
      let q = passed_split (slot_tests m s id) (each (abort_tests m) ws) p in
      let o = owner m s id q.0 in
      let f = abort_entries_in m m.cells sh.cells ws q.1 in
      let e₀ : Same m loosed = record { meta = refl; rows = refl; cells = same_unlock id ws m.cells; sizer = refl; sizen = refl } in
      let e = same_then m loosed (fold give_back (news ws) loosed) e₀ (same_give_all (news ws) loosed) in
      let op = view_open m s id o in
      let k = abort_inv R (suc N) (view_of m) gd.ghost h s gd.inv op in
      record {
        shaped = shaped_close m (fold give_back (news ws) loosed) s o.slot sh e (slots_give_all (news ws) loosed);
        rows = e.sizer ∙ gd.rows;
        cells = e.sizen ∙ gd.cells;
        ghost = k.0;
        inv = rw (abort_view o f.0 f.1) k.1;
        locks = rw (abort_view o f.0 f.1) (abort_locks op);
      })
