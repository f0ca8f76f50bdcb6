-- An accepted commit, head by head and cell by cell.
use Rattle.std.specs.Prelude.{ℕ, ◌≤◌, ◌<◌, List, [], ◌∷◌, ◌++◌, ◌≡◌, refl, ◌≢◌, length, get_or}
use Rattle.std.proofs.Common.{sym, ap, subst, inl, inr, arith, get_or-set_same}
use Rattle.kinds.specs.Answer.{Answer}
use Rattle.words.specs.Sizes.{Sizes}
use Rattle.rules.proofs.Theory.Cases.{by_bool}
use Rattle.kinds.specs.Versions.{with_xmax, with_next, unlocked, cell_at, version_at}
use Rattle.words.specs.Slots.{Write, emptied}
use Rattle.rules.specs.Memory.{Mem, size_r, size_n, head_at, slot_at, with_slot}
use Rattle.rules.specs.Outcome.{Outcome, is_cell}
use Rattle.rules.specs.Commit.{publish_all, commit_out}
use Rattle.rules.specs.Exactly.{In, All, NoneOf, each_of, under}
use Rattle.rules.proofs.Exactly.{all_map, none_append, none_each, none_under}
use Rattle.rules.specs.Terms.{Fitting, CellOf, LastEntry, NoEntry}
use Rattle.rules.proofs.Terms.{store_fits, is_cell_lem}
use Rattle.rules.proofs.Members.{all_in, in_all, in_append}
use Rattle.rules.proofs.SharedLines.{slot_lines}
use Rattle.rules.proofs.CommitRefuses.{record_lines, base_lines, new_lines, valid_lines, commit_lines}
use Rattle.rules.proofs.CommitRefusedWhen.{Ready, is_ready}
use Rattle.rules.proofs.CommitAllOrNothing.{commit_accepted_leaves_exactly}
use Rattle.rules.specs.Published.{Apart, HasCells}
use Rattle.rules.proofs.Published.{publish_all_meta, publish_all_slots, published_keeps_other_heads, published_moves_each_head, published_keeps_other_cells, published_marks_each_base, published_links_each_new}

module _ {z : Sizes} (m : Mem z) (s id : ℕ) (accepted : NoneOf (commit_lines m s id)) where
  abbrev ws : List Write
  ws = (slot_at m s).writes

  abbrev after : Mem z
  after = (commit_out m s id).after

  after_is : after ≡ with_slot (publish_all id ws m) s (emptied z)
  after_is = ap (λ (o : Outcome z Answer ℕ). o.after) (commit_accepted_leaves_exactly m s id accepted)

  fitting : Fitting m (size_r m) (size_n m)
  fitting = store_fits m accepted.0

  no_writes_then : (w : Write) → In w ws → ws ≢ []
  no_writes_then w i e = subst (In w) e i

  -- every test of every entry passed
  entry : (w : Write) → In w ws → Ready m s id w × CellOf (size_n m) w.new
  entry w i =
      let v = none_under (ws ≢ []) (valid_lines m (slot_at m s)) (no_writes_then w i) ((none_append (slot_lines m s id) (under (ws ≢ []) (valid_lines m (slot_at m s)))).0 accepted).1 in
      let a = (none_append (each_of (record_lines m (slot_at m s)) (slot_at m s).recs ++ each_of (base_lines m) ws) (each_of (new_lines m) ws)).0 v in
      let b = (none_append (each_of (record_lines m (slot_at m s)) (slot_at m s).recs) (each_of (base_lines m) ws)).0 a.0 in
      let n = all_in (λ w. NoneOf (new_lines m w)) ws ((none_each (new_lines m) ws).0 a.1) w i in (
        is_ready m s id w (all_in (λ w. NoneOf (base_lines m w)) ws ((none_each (base_lines m) ws).0 b.1) w i),
        by_bool (is_cell (size_n m) w.new) (λ e. (is_cell_lem (size_n m) w.new).yes e) (λ e. absurd (n.0 ((is_cell_lem (size_n m) w.new).no e))),
      )

  has_cells : All (HasCells m.cells) ws
  has_cells =
      in_all (HasCells m.cells) ws
      (λ w i.
      let e = entry w i in
      record { base = omega (arith, e.0.base_of, fitting.cells); new = record { low = e.1.low; high = omega (arith, e.1.high, fitting.cells) } })

  lows : All (λ (w : Write). 1 ≤ w.new) ws
  lows = all_map (HasCells m.cells) (λ (w : Write). 1 ≤ w.new) (λ w h. h.new.low) ws has_cells

  last_in_lem : (r : ℕ) (w : Write) → LastEntry ws r w → In w ws
  last_in_lem r w i = subst (In w) (sym i.parts) ((in_append w i.before (w ∷ i.after)).1 (inr (inl refl)))

  -- "head = new"
  pub commit_moves_each_head : (r : ℕ) (w : Write) → LastEntry ws r w → head_at after r ≡ w.new
  commit_moves_each_head r w i =
      let e = (entry w (last_in_lem r w i)).0 in
      rw after_is (published_moves_each_head id ws m r w i (omega (arith, e.of_store, i.of_row, fitting.heads)))

  pub commit_keeps_other_heads : (r : ℕ) → NoEntry ws r → head_at after r ≡ head_at m r
  commit_keeps_other_heads r n = rw after_is (published_keeps_other_heads id ws m r n)

  -- "base xmax = id and unlocked"
  pub commit_marks_each_base : Apart ws → (w : Write) → In w ws → w.base ≢ 0 → version_at after.cells w.base ≡ unlocked (with_xmax (version_at m.cells w.base) id)
  commit_marks_each_base a w i n = rw after_is (published_marks_each_base id ws m w a has_cells i n)

  -- "new next = base"
  pub commit_links_each_new : Apart ws → (w : Write) → In w ws → version_at after.cells w.new ≡ with_next (version_at m.cells w.new) w.base
  commit_links_each_new a w i = rw after_is (published_links_each_new id ws m w a has_cells i)

  pub commit_keeps_other_cells : (c : ℕ) → All (λ (w : Write). (c ≢ w.new) × (w.base ≢ 0 → c ≢ w.base)) ws → cell_at after.cells c ≡ cell_at m.cells c
  commit_keeps_other_cells c h = rw after_is (published_keeps_other_cells id ws m c lows h)

  -- R, N, the clock and the free list's first cell
  pub commit_keeps_the_clock : after.meta ≡ m.meta
  commit_keeps_the_clock = rw after_is (publish_all_meta id ws m)

  -- "Then the slot is emptied: every field 0"
  pub commit_empties_the_slot : s < length m.slots → get_or after.slots s [] ≡ emptied z
  commit_empties_the_slot b = rw (after_is, publish_all_slots id ws m) (get_or-set_same m.slots s (emptied z) [] b)
