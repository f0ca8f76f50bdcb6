-- Abort: "unlock each base whose owner is this id, give cells back in write order, empty the slot".
use Rattle.std.specs.Prelude.{ℕ, not, ◌&&◌, cond, List, [], ◌∷◌, ◌++◌, set, eqb, ltb}
use Rattle.kinds.specs.Answer.{Answer, Done}
use Rattle.words.specs.Sizes.{Sizes, FREE}
use Rattle.rules.specs.Numbers.{damaged}
use Rattle.words.specs.Lists.{nonzero, fold}
use Rattle.kinds.specs.Versions.{empty_version, unlocked, version_at, put_cell, put_version}
use Rattle.words.specs.Slots.{Write, emptied}
use Rattle.rules.specs.Memory.{Mem, mem, size_n, free, slot_at, with_cells, with_slot}
use Rattle.rules.specs.Outcome.{Outcome, out, Test, test, guard, each, refuse, slot_tests, is_cell}

-- the base of one write, unlocked where its owner is this id
unfoldable pub unlock_base : ℕ → Write → List (List ℕ) → List (List ℕ)
unlock_base id w cs =
    cond (nonzero w.base && eqb (version_at cs w.base).owner.0 id) (put_version cs w.base (unlocked (version_at cs w.base))) cs

-- the cells of a write set, in write order
abbrev pub news : List Write → List ℕ
news [] = []
news (w ∷ l) = w.new ∷ news l

module _ {z : Sizes} where
  -- "a cell given back is the next handed out, all fields cleared but the free link"
  unfoldable pub give_back : ℕ → Mem z → Mem z
  give_back c m = mem (set m.meta FREE c) m.rows (put_cell m.cells c empty_version (free m)) m.slots

  -- 15 for a base above N, and for a new cell that is 0 or above N
  abbrev pub abort_tests : Mem z → Write → List Test
  abort_tests m w = test (ltb (size_n m) w.base) damaged 0 ∷ test (not (is_cell (size_n m) w.new)) damaged 0 ∷ []

  unfoldable pub abort_out : Mem z → ℕ → ℕ → Outcome z Answer ℕ
  abort_out m s id =
      let ws = (slot_at m s).writes in
      guard (refuse m) (slot_tests m s id ++ each (abort_tests m) ws)
      (out Done [] (with_slot (fold give_back (news ws) (with_cells m (fold (unlock_base id) ws m.cells))) s (emptied z)))
