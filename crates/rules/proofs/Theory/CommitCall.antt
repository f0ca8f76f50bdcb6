-- Commit keeps what holds: its tests give the theory's premises. The history's last commits become the transaction's own writes over those that stood.
use mathlib.Core.List.{List, [], ◌∷◌, ◌++◌}
use Rattle.std.proofs.Common.{ap, ◌∙◌, sym, arith}
use Rattle.std.specs.Prelude.{◌≡◌, refl, ◌<◌, ◌≤◌, ℕ, suc, length}
use borrow.Author.Tests.{leb-false, ltb-false, eqb-true, not-false}
use Rattle.kinds.specs.Answer.{Answer}
use Rattle.words.specs.Sizes.{Sizes}
use Rattle.words.specs.Lists.{fold}
use Rattle.words.specs.Slots.{Write, Slot, emptied}
use Rattle.rules.specs.Memory.{Mem, head_at, size_r, size_n, slot_at, with_slot}
use Rattle.rules.specs.Outcome.{each, slot_tests, Outcome, refuse}
use Rattle.rules.specs.Commit.{base_tests, new_tests, commit_tests, record_tests, publish_all, commit_out}
use Rattle.rules.specs.History.{if_done}
use Rattle.rules.specs.Theory.View.{View, view_of, empty_slot}
use Rattle.rules.proofs.Theory.View.{get_slots}
use Rattle.rules.specs.Theory.Effects.{put_slot, publish_all_v, publish_v, slot_v}
use Rattle.rules.specs.Theory.Bridge.{AllIn}
use Rattle.rules.proofs.Theory.Bridge.{view_close, view_publish_all}
use Rattle.rules.specs.Theory.Inv.{Hist}
use Rattle.rules.proofs.Theory.SlotSteps.{ids_differ}
use Rattle.rules.specs.Theory.CommitView.{Tested, commit_v}
use Rattle.rules.proofs.Theory.CommitView.{commit_inv}
use Rattle.rules.proofs.Theory.Locks.{locks_commit}
use Rattle.rules.specs.Theory.Guard.{Passed}
use Rattle.rules.proofs.Theory.Guard.{passed_split, guard_case}
use Rattle.rules.proofs.Theory.Same.{same_publish_all, shaped_close, slots_publish_all}
use Rattle.rules.specs.Theory.Good.{Owner, hist_commit}
use Rattle.rules.proofs.Theory.Good.{cell_in, Good, slot_id, owner, view_open}

-- k is any memory that is long enough for the store
module _ {z y : Sizes} (m : Mem z) (k : Mem y) (r : size_r m ≤ length k.rows) (n : size_n m ≤ length k.cells) where
  base_facts : (ws : List Write) → Passed (each (base_tests m) ws) → Passed (each (new_tests m) ws) → Tested (head_at m) ws × AllIn k ws
  unfolding each
  base_facts [] p q = (tt, tt)
  base_facts (w ∷ l) p q =
      let f = base_facts l p.1.1.1.1 q.1 in
      let a : w.row < size_r m = leb-false _ _ p.0 in
      let b : w.base ≤ size_n m = ltb-false _ _ p.1.1.0 in (
        (eqb-true _ _ (not-false _ p.1.0), f.0),
        (record { row_in = omega arith; base_in = omega arith; new_in = cell_in (size_n m) w.new k.cells n q.0 }, f.1),
      )

  pub commit_facts : (t : Slot) (ws : List Write) → Passed (commit_tests m t ws) → Tested (head_at m) ws × AllIn k ws
  unfolding commit_tests
  commit_facts t [] p = (tt, tt)
  commit_facts t (w ∷ l) p =
      let a = passed_split (each (record_tests m t) t.recs ++ each (base_tests m) (w ∷ l)) (each (new_tests m) (w ∷ l)) p in
      base_facts (w ∷ l) (passed_split (each (record_tests m t) t.recs) (each (base_tests m) (w ∷ l)) a.0).1 a.1

close_later : (id : ℕ) (ws : List Write) (st : View) (s : ℕ) (t : Slot) → put_slot (publish_all_v id ws st) s t ≡ publish_all_v id ws (put_slot st s t)
unfolding fold
close_later id [] st s t = refl
close_later id (w ∷ l) st s t = close_later id l (publish_v id w st) s t

module _ {z : Sizes} (R N : ℕ) (m : Mem z) (h : Hist) (gd : Good R N m h) (s id : ℕ) where
  abbrev ws : List Write
  ws = (slot_at m s).writes

  abbrev done : Mem z
  done = with_slot (publish_all id ws m) s (emptied z)

  commit_view : Owner m s id → AllIn m ws → view_of done ≡ commit_v s (view_of m)
  commit_view o a =
      view_close (publish_all id ws m) s o.slot
      ∙ ap (λ (st : View). put_slot st s empty_slot) (view_publish_all id ws m a)
      ∙ close_later id ws (view_of m) s empty_slot
      ∙ sym (ap (λ (t : Slot). publish_all_v t.id t.writes (put_slot (view_of m) s empty_slot)) (get_slots z m.slots s o.slot)
      ∙ ap (λ (k : ℕ). publish_all_v k ws (put_slot (view_of m) s empty_slot)) (slot_id m s id o))

  committed_good : Passed (slot_tests m s id ++ commit_tests m (slot_at m s) ws) → Good R N done (hist_commit h s)
  committed_good p =
      let sh = gd.shaped in
      let iv = gd.inv in
      let st = view_of m in
      let q = passed_split (slot_tests m s id) (commit_tests m (slot_at m s) ws) p in
      let o = owner m s id q.0 in
      let op = view_open m s id o in
      let f = commit_facts m m sh.rows sh.cells (slot_at m s) ws q.1 in
      let ts : Tested st.heads (slot_v st s).writes = rw (get_slots z m.slots s o.slot) f.0 in
      let e = same_publish_all id ws m in
      let k = commit_inv R (suc N) st gd.ghost h s iv op ts in
      record {
        shaped = shaped_close m (publish_all id ws m) s o.slot sh e (slots_publish_all id ws m);
        rows = e.sizer ∙ gd.rows;
        cells = e.sizen ∙ gd.cells;
        ghost = k.0;
        inv = rw (commit_view o f.1) k.1;
        locks = rw (commit_view o f.1) (locks_commit (suc N) st s gd.locks op (ids_differ R (suc N) st gd.ghost h [] s iv op) ts);
      }

  pub commit_good : Good R N (commit_out m s id).after (if_done (commit_out m s id).answer (hist_commit h s) h)
  unfolding commit_out
  commit_good =
      guard_case (λ (o : Outcome z Answer ℕ). Good R N o.after (if_done o.answer (hist_commit h s) h)) (refuse m) (slot_tests m s id ++ commit_tests m (slot_at m s) ws) _
      (λ k x. gd) committed_good
