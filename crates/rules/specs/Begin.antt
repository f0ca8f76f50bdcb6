-- Begin: "lowest empty slot, id = clock, clock + 1, then the snapshot".
use Rattle.std.specs.Prelude.{ℕ, ◌+◌, List, [], ◌∷◌, ◌++◌, take, set, eqb, leb}
use Rattle.kinds.specs.Answer.{Answer, Begun}
use Rattle.words.specs.Sizes.{Sizes, CLOCK, ID, last_id}
use Rattle.rules.specs.Numbers.{clock_spent, no_free_slot}
use Rattle.kinds.specs.Versions.{tx}
use Rattle.words.specs.Slots.{opened}
use Rattle.rules.specs.Memory.{Mem, clock, words_at, with_meta, with_slot}
use Rattle.rules.specs.Snapshot.{occupied, vacant, snap_low, snap_top}
use Rattle.rules.specs.Outcome.{Outcome, out, test, guard, refuse, store_tests}

module _ {z : Sizes} where
  -- "active = occupied slots in slot order, own included"
  unfoldable pub ids_with : Mem z → ℕ → List ℕ
  ids_with m s = occupied ID (take z.slots (set m.slots s (set (words_at m s) ID (clock m))))

  -- the snapshot is taken after the id is drawn: the clock is one more
  unfoldable pub begin_words : Mem z → ℕ → List ℕ
  begin_words m s = opened z (words_at m s) (clock m) (snap_low (clock m + 1) (ids_with m s)) (snap_top (clock m + 1) (ids_with m s)) (ids_with m s)

  abbrev pub begun : Mem z → ℕ → Mem z
  begun m s = with_slot (with_meta m CLOCK (clock m + 1)) s (begin_words m s)

  -- "begin tests 3 before 2": 3 with every slot occupied, 2 where the clock is 2^64 - 1
  unfoldable pub begin_out : Mem z → Outcome z Answer ℕ
  begin_out m =
      let s = vacant (take z.slots m.slots) in
      guard (refuse m) (store_tests m ++ test (leb z.slots s) no_free_slot 0 ∷ test (eqb (clock m) last_id) clock_spent 0 ∷ [])
      (out (Begun s (tx (clock m))) [] (begun m s))
