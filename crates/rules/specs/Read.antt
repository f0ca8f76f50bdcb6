-- Read: "own write of the row if any, unrecorded; else the first visible version from the head".
use Rattle.std.specs.Prelude.{ℕ, Bool, false, ◌||◌, cond, List, [], ◌∷◌, ◌++◌, length, eqb, leb}
use Rattle.std.proofs.Math.Option.{Option, none, some}
use Rattle.kinds.specs.declared.Version.{Version}
use Rattle.kinds.specs.ReadAnswer.{ReadAnswer, None}
use Rattle.words.specs.Sizes.{Sizes}
use Rattle.rules.specs.Numbers.{chain_too_long, read_set_full, damaged}
use Rattle.words.specs.Lists.{last}
use Rattle.kinds.specs.Versions.{version_at, value_of}
use Rattle.words.specs.Slots.{Write, Rec, rec, Slot, add_recs}
use Rattle.rules.specs.Memory.{Mem, size_n, head_at, words_at, slot_at, with_slot}
use Rattle.rules.specs.Chain.{Look, found, nothing, too_long, harmed, look}
use Rattle.rules.specs.Outcome.{Outcome, out, guard, refuse_read, slot_tests, row_test, is_cell}

-- the own write of the row: the last of its entries (000, `last_write`)
unfoldable pub own : List Write → ℕ → Option Write
own ws r = last (λ w. eqb w.row r) ws

-- "no version, a version without a key, or a key": cell 0 is no version
unfoldable pub answer_at : (ℕ → Version) → ℕ → ReadAnswer
answer_at f c = cond (eqb c 0) None (value_of (f c))

-- what a read of one row comes to: a refusal, or the cell found (0: none) and the records to add
pub data Sight : Type 0 where
  blocked : ℕ → ℕ → Sight
  sees : ℕ → List Rec → Sight

-- "recorded unless its cell is recorded already"
unfoldable pub recorded : ℕ → List Rec → Bool
recorded c [] = false
recorded c (q ∷ l) = eqb c q.cell || recorded c l

-- the sizes; the versions and the head of the row; the reader, and the records that stand already
module _ (z : Sizes) (n : ℕ) (f : ℕ → Version) (head : ℕ) (t : Slot) (recs : List Rec) (row : ℕ) where
  -- "A version found is recorded unless its cell is recorded already. A read that finds none records nothing."
  unfoldable pub sight_of : Look → Sight
  sight_of nothing = sees 0 []
  sight_of too_long = blocked chain_too_long row
  sight_of harmed = blocked damaged 0
  sight_of (found c) = cond (recorded c recs) (sees c []) (cond (leb z.reads (length recs)) (blocked read_set_full row) (sees c (rec row c (f c).xmin.0 ∷ [])))

  -- "own write of the row if any, unrecorded"
  unfoldable pub own_sight : Option Write → Sight
  own_sight (some w) = cond (is_cell n w.new) (sees w.new []) (blocked damaged 0)
  own_sight none = sight_of (look n t f z.walk head)

  unfoldable pub read_row : Sight
  read_row = own_sight (own t.writes row)

module _ {z : Sizes} where
  -- a row of the memory, read by slot t with these records
  abbrev pub read_at : Mem z → Slot → List Rec → ℕ → Sight
  read_at m t recs row = read_row z (size_n m) (version_at m.cells) (head_at m row) t recs row

  unfoldable pub read_end : Mem z → ℕ → Sight → Outcome z ReadAnswer ℕ
  read_end m s (blocked k x) = refuse_read m k x
  read_end m s (sees c l) = out (answer_at (version_at m.cells) c) [] (with_slot m s (add_recs z l (words_at m s)))

  unfoldable pub read_out : Mem z → ℕ → ℕ → ℕ → Outcome z ReadAnswer ℕ
  read_out m s id row = guard (refuse_read m) (slot_tests m s id ++ row_test m row ∷ []) (read_end m s (read_at m (slot_at m s) (slot_at m s).recs row))
