-- A commit refuses exactly when the paper says: "validate, then for each write in order head must equal base and a nonzero base must
-- have xmax 0. All tests come before any change."
use Rattle.std.specs.Prelude.{ℕ, ◌≤◌, ◌<◌, ◌≡◌, refl, ◌≢◌}
use mathlib.Core.List.{List, [], ◌∷◌, ◌++◌}
use Rattle.std.proofs.Common.{arith}
use Rattle.kinds.specs.Answer.{Answer, Done}
use Rattle.words.specs.Sizes.{Sizes}
use Rattle.rules.specs.Numbers.{write_conflict, read_conflict, damaged}
use Rattle.kinds.specs.Versions.{version_at}
use Rattle.words.specs.Slots.{Write, Rec, Slot, emptied}
use Rattle.rules.specs.Memory.{Mem, size_r, size_n, head_at, slot_at, with_slot}
use Rattle.rules.specs.Outcome.{Outcome, out, guard, each, refuse, slot_tests}
use Rattle.rules.specs.Commit.{record_tests, base_tests, new_tests, commit_tests, publish_all, commit_out}
use Rattle.rules.specs.Exactly.{Line, line, each_of, under, Says, Exactly, is_refusal}
use Rattle.rules.proofs.Exactly.{in_answer, is_equal, is_less, is_most, is_not, is_nonzero, is_both, says_append, says_each, not_refused, not_under, guard_append, exactly_tested, exactly_guarded, exactly_accepted, exactly_under}
use Rattle.rules.specs.Terms.{CellOf, Conflicts}
use Rattle.rules.proofs.Terms.{is_cell_lem, is_conflicting}
use Rattle.rules.proofs.SharedLines.{slot_lines, slot_says}

no_cons : (w : Write) (l : List Write) → w ∷ l ≡ [] → ⊥
no_cons w l e =
    let q : ◌≡◌ {A = ℕ} 0 1 = cc in
    omega arith

module _ {z : Sizes} (m : Mem z) where
  abbrev pub record_lines : Slot → Rec → List Line
  record_lines t q =
      -- 15: "cell 0 as .. the cell of a read record", or above N
      line (CellOf (size_n m) q.cell → ⊥) damaged 0
      -- 9: "validation", with the record's row
      ∷ line (Conflicts t (version_at m.cells q.cell) q.xmin) read_conflict q.row
      ∷ []

  abbrev pub base_lines : Write → List Line
  base_lines w =
      -- 15: "a saved row at R or above"
      line (size_r m ≤ w.row) damaged 0
      -- 8: "commit: head or base test fails": "head must equal base"
      ∷ line (head_at m w.row ≢ w.base) write_conflict w.row
      -- 15: "a cell or link above N"
      ∷ line (size_n m < w.base) damaged 0
      -- 8: "a nonzero base must have xmax 0"
      ∷ line ((w.base ≢ 0) × ((version_at m.cells w.base).xmax.0 ≢ 0)) write_conflict w.row
      ∷ []

  abbrev pub new_lines : Write → List Line
  new_lines w =
      -- 15: "cell 0 as the new cell of an entry", or above N
      line (CellOf (size_n m) w.new → ⊥) damaged 0
      ∷ []

  -- "no writes: just end. Otherwise .."
  abbrev pub valid_lines : Slot → List Line
  valid_lines t = each_of (record_lines t) t.recs ++ each_of base_lines t.writes ++ each_of new_lines t.writes

  abbrev pub commit_lines : ℕ → ℕ → List Line
  commit_lines s id = slot_lines m s id ++ under ((slot_at m s).writes ≢ []) (valid_lines (slot_at m s))

  record_says : (t : Slot) (q : Rec) → Says (record_tests m t q) (record_lines t q)
  record_says t q = (is_not _ (is_cell_lem (size_n m) q.cell), refl, refl, (is_conflicting t (version_at m.cells q.cell) q.xmin, refl, refl, tt))

  base_says : (w : Write) → Says (base_tests m w) (base_lines w)
  base_says w = (
    is_most (size_r m) w.row,
    refl,
    refl,
    (
      is_not _ (is_equal (head_at m w.row) w.base),
      refl,
      refl,
      (
        is_less (size_n m) w.base,
        refl,
        refl,
        (
          is_both _ _ (is_nonzero w.base) (is_nonzero (version_at m.cells w.base).xmax.0),
          refl,
          refl,
          tt,
        ),
      ),
    ),
  )

  new_says : (w : Write) → Says (new_tests m w) (new_lines w)
  new_says w = (is_not _ (is_cell_lem (size_n m) w.new), refl, refl, tt)

  commit_says : (t : Slot) (ws : List Write) → Says (each (record_tests m t) t.recs ++ each (base_tests m) ws ++ each (new_tests m) ws) (each_of (record_lines t) t.recs ++ each_of base_lines ws ++ each_of new_lines ws)
  commit_says t ws =
      says_append (each (record_tests m t) t.recs ++ each (base_tests m) ws) (each (new_tests m) ws) (each_of (record_lines t) t.recs ++ each_of base_lines ws) (each_of new_lines ws)
      (says_append (each (record_tests m t) t.recs) (each (base_tests m) ws) (each_of (record_lines t) t.recs) (each_of base_lines ws) (says_each (record_tests m t) (record_lines t) (record_says t) t.recs) (says_each (base_tests m) base_lines base_says ws))
      (says_each (new_tests m) new_lines new_says ws)

  -- the tests of the records and of these writes, guarding an accepted outcome
  valid_exactly : (t : Slot) (ws : List Write) (o : Outcome z Answer ℕ) → is_refusal o.answer ≡ 0 →
      Exactly in_answer m (guard (refuse m) (commit_tests m t ws) o) o (under (ws ≢ []) (each_of (record_lines t) t.recs ++ each_of base_lines ws ++ each_of new_lines ws))
  unfolding commit_tests guard
  valid_exactly t [] o e = exactly_accepted in_answer m o _ (not_refused o.answer e) (not_under (◌≢◌ {A = List Write} [] []) (each_of (record_lines t) t.recs ++ each_of base_lines [] ++ each_of new_lines []) (λ n. n refl))
  valid_exactly t (w ∷ l) o e = exactly_under in_answer m _ _ _ _ (no_cons w l) (exactly_tested m (commit_tests m t (w ∷ l)) _ o e (commit_says t (w ∷ l)))

  pub commit_refuses_exactly : (s id : ℕ) → Exactly in_answer m (commit_out m s id) (out Done [] (with_slot (publish_all id (slot_at m s).writes m) s (emptied z))) (commit_lines s id)
  unfolding commit_out
  commit_refuses_exactly s id = rw (guard_append (refuse m) (slot_tests m s id) (commit_tests m (slot_at m s) (slot_at m s).writes) (out Done [] (with_slot (publish_all id (slot_at m s).writes m) s (emptied z))))
      (exactly_guarded in_answer m (slot_tests m s id) (slot_lines m s id) _ _ _ (slot_says m s id) (valid_exactly (slot_at m s) (slot_at m s).writes _ refl))
