-- Write (a key, or none to delete).
use Rattle.std.specs.Prelude.{ℕ, not, ◌&&◌, cond, List, [], ◌∷◌, ◌++◌, get_or, set, eqb, ltb, leb}
use Rattle.std.proofs.Math.Option.{Option, none, some}
use Rattle.kinds.specs.Answer.{Answer, Wrote}
use Rattle.words.specs.Sizes.{Sizes, FREE, WRITES}
use Rattle.rules.specs.Numbers.{row_locked, write_conflict, no_room, write_set_full, damaged}
use Rattle.words.specs.Lists.{nonzero}
use Rattle.kinds.specs.Versions.{at, locked_for, locked_by_other, with_value, new_version, version_at, link_at, put_cell, put_version}
use Rattle.words.specs.Slots.{Write, write, Slot, add_write}
use Rattle.rules.specs.Memory.{Mem, mem, size_n, free, head_at, words_at, slot_at, with_cells}
use Rattle.kinds.specs.Visible.{visible}
use Rattle.rules.specs.Outcome.{Outcome, out, Test, test, guard, refuse, slot_tests, row_test, is_cell}
use Rattle.rules.specs.Read.{own}

-- "the base is locked for this id"; a row with head 0 has nothing to lock
unfoldable pub lock_base : List (List ℕ) → ℕ → ℕ → List (List ℕ)
lock_base cs b id = cond (eqb b 0) cs (put_version cs b (locked_for (version_at cs b) id))

module _ {z : Sizes} where
  -- "base = head, the base is locked for this id, a cell is prepared (xmin = own id, next and free link 0), an entry is added"
  unfoldable pub prepared : Mem z → ℕ → ℕ → ℕ → Option ℕ → Mem z
  prepared m s id row v =
      mem (set m.meta FREE (link_at m.cells (free m)))
      m.rows
      (put_cell (lock_base m.cells (head_at m row) id) (free m) (new_version v id 0) 0)
      (set m.slots s (add_write z (write row (head_at m row) (free m)) (words_at m s)))

  -- "an own entry for the row has its value replaced and keeps its cell"
  abbrev pub replaced : Mem z → ℕ → Option ℕ → Mem z
  replaced m c v = with_cells m (put_version m.cells c (with_value (version_at m.cells c) v))

  -- 15 for a head above N; 7: "head locked by another id"; 8: "head nonzero and not visible"
  unfoldable pub head_tests : Mem z → Slot → ℕ → ℕ → ℕ → List Test
  head_tests m t id row h =
      let v = version_at m.cells h in
      test (ltb (size_n m) h) damaged 0
      ∷ test (nonzero h && locked_by_other v id) row_locked row
      ∷ test (nonzero h && not (visible t v)) write_conflict row
      ∷ []

  -- "write tests 7 and 8 only where the row has no own entry, then 12 and 11 only where an entry is added"
  unfoldable pub write_now : Mem z → ℕ → ℕ → ℕ → Option ℕ → Option Write → Outcome z Answer ℕ
  write_now m s id row v (some w) = guard (refuse m) (test (not (is_cell (size_n m) w.new)) damaged 0 ∷ []) (out (Wrote (at w.new)) [] (replaced m w.new v))
  write_now m s id row v none =
      guard (refuse m)
      (head_tests m (slot_at m s) id row (head_at m row)
      ++ test (leb z.writes (get_or (words_at m s) (WRITES z) 0)) write_set_full 0
      ∷ test (eqb (free m) 0) no_room 0
      ∷ test (ltb (size_n m) (free m)) damaged 0
      ∷ [])
      (out (Wrote (at (free m))) [] (prepared m s id row v))

  unfoldable pub write_out : Mem z → ℕ → ℕ → ℕ → Option ℕ → Outcome z Answer ℕ
  write_out m s id row v = guard (refuse m) (slot_tests m s id ++ row_test m row ∷ []) (write_now m s id row v (own (slot_at m s).writes row))
