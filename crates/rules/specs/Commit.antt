-- Commit: "no writes: just end. Otherwise validate, then for each write in order head must equal base and a nonzero base must have
-- xmax 0. All tests come before any change."
use Rattle.std.specs.Prelude.{ℕ, not, ◌&&◌, cond, List, [], ◌∷◌, ◌++◌, eqb, ltb, leb}
use Rattle.kinds.specs.Answer.{Answer, Done}
use Rattle.words.specs.Sizes.{Sizes}
use Rattle.rules.specs.Numbers.{write_conflict, read_conflict, damaged}
use Rattle.words.specs.Lists.{nonzero, fold}
use Rattle.kinds.specs.Versions.{with_xmax, with_next, unlocked, version_at, put_version}
use Rattle.words.specs.Slots.{Write, Rec, Slot, emptied}
use Rattle.rules.specs.Memory.{Mem, size_r, size_n, head_at, slot_at, with_head, with_cells, with_slot}
use Rattle.kinds.specs.Visible.{conflict}
use Rattle.rules.specs.Outcome.{Outcome, out, Test, test, guard, each, refuse, slot_tests, is_cell}

-- "base xmax = id and unlocked"
unfoldable pub mark_base : ℕ → ℕ → List (List ℕ) → List (List ℕ)
mark_base id b cs = cond (eqb b 0) cs (put_version cs b (unlocked (with_xmax (version_at cs b) id)))

module _ {z : Sizes} where
  -- 9: "validation", the row of the record; 15 for a record's cell that is 0 or above N
  abbrev pub record_tests : Mem z → Slot → Rec → List Test
  record_tests m t q = test (not (is_cell (size_n m) q.cell)) damaged 0 ∷ test (conflict t (version_at m.cells q.cell) q.xmin) read_conflict q.row ∷ []

  -- 8: "commit: head or base test fails", the row of the write; 15 for a row at R or above and a base above N
  abbrev pub base_tests : Mem z → Write → List Test
  base_tests m w =
      test (leb (size_r m) w.row) damaged 0
      ∷ test (not (eqb (head_at m w.row) w.base)) write_conflict w.row
      ∷ test (ltb (size_n m) w.base) damaged 0
      ∷ test (nonzero w.base && nonzero (version_at m.cells w.base).xmax.0) write_conflict w.row
      ∷ []

  -- 15 for a new cell that is 0 or above N: it is first used in the changes, so it is told after every head and base test
  abbrev pub new_tests : Mem z → Write → List Test
  new_tests m w = test (not (is_cell (size_n m) w.new)) damaged 0 ∷ []

  unfoldable pub commit_tests : Mem z → Slot → List Write → List Test
  commit_tests m t [] = []
  commit_tests m t (w ∷ l) = each (record_tests m t) t.recs ++ each (base_tests m) (w ∷ l) ++ each (new_tests m) (w ∷ l)

  -- "for each write: base xmax = id and unlocked, new next = base, head = new"
  unfoldable pub publish : ℕ → Write → Mem z → Mem z
  publish id w m =
      let cs = mark_base id w.base m.cells in
      with_head (with_cells m (put_version cs w.new (with_next (version_at cs w.new) w.base))) w.row w.new

  abbrev pub publish_all : ℕ → List Write → Mem z → Mem z
  publish_all id ws m = fold (publish id) ws m

  -- "Then the slot is emptied: every field 0."
  unfoldable pub commit_out : Mem z → ℕ → ℕ → Outcome z Answer ℕ
  commit_out m s id =
      guard (refuse m) (slot_tests m s id ++ commit_tests m (slot_at m s) (slot_at m s).writes)
      (out Done [] (with_slot (publish_all id (slot_at m s).writes m) s (emptied z)))
