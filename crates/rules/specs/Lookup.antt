-- Lookup of a key: "candidates (any order, repeats allowed) and own written rows are read in ascending order, each once; the rows with
-- that key are listed ascending. A second call serves all rows."
use Rattle.std.specs.Prelude.{ℕ, Bool, false, ◌||◌, cond, List, [], ◌∷◌, ◌++◌, length, take, eqb, leb}
use Rattle.kinds.specs.ReadAnswer.{ReadAnswer, None, Empty, Key}
use Rattle.kinds.specs.Answer.{Answer, Listed}
use Rattle.words.specs.Sizes.{Sizes}
use Rattle.rules.specs.Numbers.{result_full, damaged}
use Rattle.words.specs.Lists.{has, keep, fold, from}
use Rattle.kinds.specs.Versions.{version_at}
use Rattle.words.specs.Slots.{Write, Rec, Slot, add_recs}
use Rattle.rules.specs.Memory.{Mem, size_r, words_at, slot_at, with_slot}
use Rattle.rules.specs.Outcome.{Outcome, out, Test, test, guard, each, refuse, slot_tests, row_test}
use Rattle.rules.specs.Read.{answer_at, Sight, blocked, sees, read_at}

-- what a lookup has come to after some rows: a refusal, or the records to add and the rows listed
pub data Found : Type 0 where
  stopped : ℕ → ℕ → Found
  got : List Rec → List ℕ → Found

unfoldable pub is_key : ℕ → ReadAnswer → Bool
is_key key None = false
is_key key Empty = false
is_key key (Key k) = eqb key k
is_key key (ReadAnswer.Refused k x) = false

-- the rows of a write set, in write order
abbrev pub own_rows : List Write → List ℕ
own_rows [] = []
own_rows (w ∷ l) = w.row ∷ own_rows l

module _ {z : Sizes} (m : Mem z) (t : Slot) (key room : ℕ) where
  -- row r was read: it is listed where it has the key. "14 last within a row"
  unfoldable pub list_row : ℕ → List Rec → List ℕ → Sight → Found
  list_row r recs rows (blocked k x) = stopped k x
  list_row r recs rows (sees c new) =
      cond (is_key key (answer_at (version_at m.cells) c))
      (cond (leb room (length rows)) (stopped result_full 0) (got (recs ++ new) (rows ++ (r ∷ []))))
      (got (recs ++ new) rows)

  -- "lookup stops at the first trouble in row order"
  unfoldable pub find_row : ℕ → Found → Found
  find_row r (stopped k x) = stopped k x
  find_row r (got recs rows) = list_row r recs rows (read_at m t (t.recs ++ recs) r)

  abbrev pub find : List ℕ → Found
  find rows = fold find_row rows (got [] [])

module _ {z : Sizes} where
  -- "a refused lookup records nothing"; late: the tests that come after every row below R
  unfoldable pub lookup_end : Mem z → ℕ → List Test → Found → Outcome z Answer ℕ
  lookup_end m s late (stopped k x) = refuse m k x
  lookup_end m s late (got recs rows) = guard (refuse m) late (out (Listed (length rows)) rows (with_slot m s (add_recs z recs (words_at m s))))

  -- 6: the "first such" candidate, in the order of the list
  abbrev pub candidate_tests : Mem z → ℕ → List Test
  candidate_tests m r = row_test m r ∷ []

  -- 15: an own row at or above R would be read after all others
  abbrev pub own_row_tests : Mem z → ℕ → List Test
  own_row_tests m r = test (leb (size_r m) r) damaged 0 ∷ []

  -- the rows below R that are candidates or own rows: ascending, each once
  unfoldable pub rows_to_read : Mem z → List Write → List ℕ → List ℕ
  rows_to_read m ws cands = keep (λ r. has r cands || has r (own_rows ws)) (from 0 (size_r m))

  unfoldable pub lookup_out : Mem z → ℕ → ℕ → ℕ → List ℕ → ℕ → Outcome z Answer ℕ
  lookup_out m s id key cands room =
      let t = slot_at m s in
      guard (refuse m) (slot_tests m s id ++ each (candidate_tests m) cands)
      (lookup_end m s (each (own_row_tests m) (own_rows t.writes)) (find m t key room (rows_to_read m t.writes cands)))

  unfoldable pub lookup_all_out : Mem z → ℕ → ℕ → ℕ → ℕ → Outcome z Answer ℕ
  lookup_all_out m s id key room = guard (refuse m) (slot_tests m s id) (lookup_end m s [] (find m (slot_at m s) key room (from 0 (size_r m))))

-- "the filled front of the caller's buffer is handed back as a part of it": the first `count` entries, all of them where count is past the end
abbrev pub front_of : {A : Type 0} → List A → ℕ → List A
front_of buffer count = take count buffer
