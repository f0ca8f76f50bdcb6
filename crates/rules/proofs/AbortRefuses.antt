-- An abort refuses exactly when the paper says: only for damage, "at the moment the call would use it".
use Rattle.std.specs.Prelude.{ℕ, ◌<◌, List, [], ◌∷◌, ◌++◌}
use Rattle.std.proofs.Math.Path.{refl}
use Rattle.kinds.specs.Answer.{Answer, Done}
use Rattle.words.specs.Sizes.{Sizes}
use Rattle.rules.specs.Numbers.{damaged}
use Rattle.words.specs.Lists.{fold}
use Rattle.words.specs.Slots.{Write, emptied}
use Rattle.rules.specs.Memory.{Mem, size_n, slot_at, with_cells, with_slot}
use Rattle.rules.specs.Outcome.{Outcome, out, each, slot_tests}
use Rattle.rules.specs.Abort.{unlock_base, news, give_back, abort_tests, abort_out}
use Rattle.rules.specs.Exactly.{Line, line, each_of, Says, Exactly}
use Rattle.rules.proofs.Exactly.{in_answer, is_less, is_not, says_append, says_each, exactly_tested}
use Rattle.rules.specs.Terms.{CellOf}
use Rattle.rules.proofs.Terms.{is_cell_lem}
use Rattle.rules.proofs.SharedLines.{slot_lines, slot_says}

module _ {z : Sizes} (m : Mem z) where
  abbrev pub undo_lines : Write → List Line
  undo_lines w =
      -- 15: "a cell or link above N"
      line (size_n m < w.base) damaged 0
      -- 15: "cell 0 as the new cell of an entry", or above N
      ∷ line (CellOf (size_n m) w.new → ⊥) damaged 0
      ∷ []

  abbrev pub abort_lines : ℕ → ℕ → List Line
  abort_lines s id = slot_lines m s id ++ each_of undo_lines (slot_at m s).writes

  undo_says : (w : Write) → Says (abort_tests m w) (undo_lines w)
  undo_says w = (is_less (size_n m) w.base, refl, refl, (is_not _ (is_cell_lem (size_n m) w.new), refl, refl, tt))

  -- what an accepted abort comes to
  abbrev pub aborted : ℕ → ℕ → Outcome z Answer ℕ
  aborted s id = let ws = (slot_at m s).writes in out Done [] (with_slot (fold give_back (news ws) (with_cells m (fold (unlock_base id) ws m.cells))) s (emptied z))

  pub abort_refuses_exactly : (s id : ℕ) → Exactly in_answer m (abort_out m s id) (aborted s id) (abort_lines s id)
  unfolding abort_out
  abort_refuses_exactly s id =
      exactly_tested m (slot_tests m s id ++ each (abort_tests m) (slot_at m s).writes) (abort_lines s id) (aborted s id) refl
      (says_append (slot_tests m s id) (each (abort_tests m) (slot_at m s).writes) (slot_lines m s id) (each_of undo_lines (slot_at m s).writes) (slot_says m s id) (says_each (abort_tests m) undo_lines undo_says (slot_at m s).writes))
