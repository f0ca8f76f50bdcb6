-- Write keeps what holds; the history notes the slot, the row and the value.
use Rattle.std.specs.Prelude.{false, true, not, [], ◌∷◌, ◌++◌, ◌≢◌, ◌≡◌, ℕ, ◌<◌, ◌≤◌, suc, get_or}
use Rattle.std.proofs.Math.Option.{Option, none, some}
use Rattle.std.proofs.Common.{subst, ◌∙◌, sym, arith}
use Rattle.std.proofs.Math.Path.{refl}
use borrow.Author.Tests.{eqb-true, not-false, ne_eqb, ltb-false, leb-false, eqb-false}
use Rattle.kinds.specs.Answer.{Answer}
use Rattle.kinds.specs.declared.Version.{Version}
use Rattle.words.specs.Sizes.{Sizes, WRITES}
use Rattle.rules.specs.Numbers.{damaged}
use Rattle.kinds.specs.Versions.{locked_by_other, version_at, unlocked, with_value}
use Rattle.words.specs.Slots.{Write, Slot}
use Rattle.rules.specs.Memory.{Mem, size_r, slot_at, head_at, size_n, words_at, free}
use Rattle.kinds.specs.Visible.{visible}
use Rattle.rules.specs.Outcome.{Outcome, refuse, test, is_cell, slot_tests, row_test}
use Rattle.rules.specs.Read.{own}
use Rattle.rules.specs.Write.{prepared, write_now, head_tests, replaced, write_out}
use Rattle.rules.specs.History.{if_wrote}
use Rattle.rules.specs.Theory.CellLaws.{HasCell}
use Rattle.rules.proofs.Theory.CellLaws.{length_put}
use Rattle.rules.specs.Theory.View.{view_of, upd}
use Rattle.rules.proofs.Theory.View.{get_slots}
use Rattle.rules.specs.Theory.Effects.{slot_v, prepare_v, with_vers}
use Rattle.rules.proofs.Theory.Bridge.{view_prepared, view_replaced}
use Rattle.rules.specs.Theory.Inv.{Hist, vers, Inv}
use Rattle.rules.proofs.Theory.SlotSteps.{ids_differ}
use Rattle.rules.proofs.Theory.Publish.{part_same}
use Rattle.rules.proofs.Theory.Writes.{write_inv}
use Rattle.rules.specs.Theory.Revalue.{At, OwnAt}
use Rattle.rules.proofs.Theory.Revalue.{revalue_inv, at_is}
use Rattle.rules.specs.Theory.Locks.{part_of}
use Rattle.rules.proofs.Theory.Locks.{locks_write, Locks, locks_same}
use Rattle.rules.specs.Theory.Reading.{Own}
use Rattle.rules.proofs.Theory.Reading.{own_is}
use Rattle.rules.proofs.Theory.Guard.{guard_case, passed_split}
use Rattle.rules.specs.Theory.Same.{Same}
use Rattle.rules.proofs.Theory.Same.{same_prepared, shaped_prepared, same_shaped}
use Rattle.rules.specs.Theory.Good.{hist_write, Owner}
use Rattle.rules.proofs.Theory.Good.{Good, owner, view_open, view_id, cell_in}

module _ {z : Sizes} (R N : ℕ) (m : Mem z) (h : Hist) (gd : Good R N m h) (s id row : ℕ) (v : Option ℕ) where
  abbrev Kept : Outcome z Answer ℕ → Type 0
  Kept o = Good R N o.after (if_wrote o.answer (hist_write h s id row v) h)

  -- the lock test: a lock on the head is this id's
  lock_mine : (u : Version) → locked_by_other u id ≡ false → u.locked ≢ 0 → u.owner.0 ≡ id
  lock_mine u e l = eqb-true _ _ (not-false _ (rw (ne_eqb u.locked 0 l) at e))

  -- ---- a new entry
  prepared_good : (o : Owner m s id) → row < size_r m → own (slot_at m s).writes row ≡ none → head_at m row ≤ size_n m
      → (head_at m row ≢ 0 → locked_by_other (version_at m.cells (head_at m row)) id ≡ false) → (head_at m row ≢ 0 → visible (slot_at m s) (version_at m.cells (head_at m row)) ≡ true)
      → get_or (words_at m s) (WRITES z) 0 < z.writes → free m ≢ 0 → free m ≤ size_n m → Good R N (prepared m s id row v) (hist_write h s id row v)
  prepared_good o in_r no_own hd unlocked seen few fz fn =
      let sh = gd.shaped in
      let iv = gd.inv in
      let g = gd.ghost in
      let st = view_of m in
      let fr : HasCell m.cells (free m) = record { low = omega arith; high = omega (arith, sh.cells) } in
      let e = get_slots z m.slots s o.slot in
      let op = view_open m s id o in
      let sid = view_id m s id o in
      let lt : row < R = rw gd.rows at in_r in
      let nw : own (slot_v st s).writes row ≡ none = rw e no_own in
      let first = subst (Own (vers st) (slot_v st s).writes row) nw (own_is (vers st) row R (slot_v st s).id (slot_v st s).writes (iv.opens s op).entries) in
      let k = write_inv R (suc N) st g h s row v iv op lt first fz in
      let lk = locks_write R (suc N) st g h s row v iv gd.locks op lt fz (λ nz l. lock_mine (st.vers (st.heads row)) (unlocked nz) l ∙ sym sid) (λ nz. subst (λ (t : Slot). visible t (st.vers (st.heads row)) ≡ true) (sym e) (seen nz)) (ids_differ R (suc N) st g h [] s iv op) in
      let same = same_prepared m s id row v in
      let vw = view_prepared m s id row v sh o.slot few fr (omega (arith, sh.cells)) in
      record {
        shaped = shaped_prepared m s id row v sh o.slot few;
        rows = same.sizer ∙ gd.rows;
        cells = same.sizen ∙ gd.cells;
        ghost = k.0;
        inv = rw vw (subst (λ (i : ℕ). Inv R (suc N) (prepare_v s i row v st) k.0 (hist_write h s i row v) []) sid k.1);
        locks = rw vw (subst (λ (i : ℕ). Locks (suc N) (prepare_v s i row v st)) sid lk);
      }

  write_new_good : (o : Owner m s id) → row < size_r m → own (slot_at m s).writes row ≡ none → Kept (write_now m s id row v none)
  unfolding write_now head_tests
  write_new_good o in_r no_own = guard_case Kept (refuse m) _ _ (λ k x. gd)
      (λ p.
      prepared_good o in_r no_own (ltb-false _ _ p.0) (λ nz. rw (ne_eqb (head_at m row) 0 nz) at p.1.0) (λ nz. not-false _ (rw (ne_eqb (head_at m row) 0 nz) at p.1.1.0)) (leb-false _ _ p.1.1.1.0) (eqb-false _ _ p.1.1.1.1.0)
      (ltb-false _ _ p.1.1.1.1.1.0))

  -- ---- the own entry's value replaced
  replaced_good : (o : Owner m s id) (c : ℕ) → HasCell m.cells c → OwnAt (vers (view_of m)) (slot_v (view_of m) s).writes row c → Good R N (replaced m c v) (hist_write h s id row v)
  replaced_good o c k a =
      let sh = gd.shaped in
      let st = view_of m in
      let f = upd st.vers c (with_value (st.vers c) v) in
      let same : Same m (replaced m c v) = record { meta = refl; rows = refl; cells = length_put m.cells c _ _; sizer = refl; sizen = refl } in
      let sid = view_id m s id o in
      record {
        shaped = same_shaped m (replaced m c v) same sh sh.slots;
        rows = gd.rows;
        cells = gd.cells;
        ghost = gd.ghost;
        inv = rw (view_replaced m c v k) (subst (λ (i : ℕ). Inv R (suc N) (with_vers st f) gd.ghost (hist_write h s i row v) []) sid (revalue_inv R (suc N) st gd.ghost h s row v gd.inv (view_open m s id o) c a));
        locks = rw (view_replaced m c v k)
            (locks_same (suc N) st f (part_same part_of st.vers c (with_value (st.vers c) v) refl) gd.locks);
      }

  now_good : Owner m s id → row < size_r m → (o : Option Write) → own (slot_at m s).writes row ≡ o → At (vers (view_of m)) (slot_v (view_of m) s).writes row o → Kept (write_now m s id row v o)
  unfolding write_now
  now_good ow lt none e a = write_new_good ow lt e
  now_good ow lt (some w) e a = guard_case Kept (refuse m) (test (not (is_cell (size_n m) w.new)) damaged 0 ∷ []) _ (λ k x. gd)
      (λ p. replaced_good ow w.new (cell_in (size_n m) w.new m.cells gd.shaped.cells p.0) a)

  pub write_good : Kept (write_out m s id row v)
  unfolding write_out
  write_good = guard_case Kept (refuse m) (slot_tests m s id ++ row_test m row ∷ []) _ (λ k x. gd)
      (λ p.
      let q = passed_split (slot_tests m s id) (row_test m row ∷ []) p in
      let ow = owner m s id q.0 in
      let a = at_is (vers (view_of m)) R (slot_v (view_of m) s).id row (slot_v (view_of m) s).writes (gd.inv.opens s (view_open m s id ow)).entries in
      now_good ow (leb-false (size_r m) row q.1.0) (own (slot_at m s).writes row) refl
      (subst (λ (t : Slot). At (vers (view_of m)) (slot_v (view_of m) s).writes row (own t.writes row)) (get_slots z m.slots s ow.slot) a))
