-- What a lookup lists by history, and what stops it: "the rows with that key are listed ascending"; it "stops at the first trouble in row
-- order, 14 last within a row".
use Rattle.std.specs.Prelude.{Bool, true, false, not, ◌||◌, ◌&&◌, cond, List, [], ◌∷◌, ◌++◌, ◌≢◌, ◌≡◌, ℕ, ◌+◌, ltb, leb, eqb, length}
use Rattle.std.proofs.Math.Option.{Option, none, some}
use Rattle.kinds.specs.Answer.{Answer, Listed}
use Rattle.words.specs.Sizes.{Sizes}
use Rattle.rules.specs.Numbers.{chain_too_long, read_set_full, result_full}
use Rattle.words.specs.Lists.{keep, has, from, first}
use Rattle.words.specs.Slots.{Rec}
use Rattle.rules.specs.Memory.{Mem, slot_at}
use Rattle.rules.specs.Outcome.{Outcome, refuse}
use Rattle.rules.specs.Read.{recorded}
use Rattle.rules.specs.Lookup.{is_key}
use Rattle.rules.specs.History.{Log, own_in, rows_in, answer_of, value_in}
use Rattle.rules.specs.Reachable.{sees_at, walked_at, chain_at}

abbrev pub is_none : {A : Type 0} → Option A → Bool
is_none none = true
is_none (some a) = false

-- a version was found, and is not recorded
abbrev pub unrecorded : Option ℕ → List Rec → Bool
unrecorded none rs = false
unrecorded (some c) rs = not (recorded c rs)

module _ {z : Sizes} (m : Mem z) (l : Log) (s : ℕ) where
  -- the rows that a lookup of these candidates reads: candidates and own rows, ascending, each once
  unfoldable pub rows_of : List ℕ → List ℕ
  rows_of cands = keep (λ r. has r cands || not (is_none (own_in l s r))) (from 0 (rows_in l))

  -- a read of the row looks past the walk limit: no own write, nothing visible among the versions walked, and the chain goes on
  unfoldable pub looks_past : ℕ → Bool
  looks_past r = is_none (own_in l s r) && (is_none (first (sees_at m s) (walked_at m r)) && ltb z.walk (length (chain_at m r).cells))

  -- a read of the row needs a new record: no own write, and the version found is not recorded
  unfoldable pub needs : ℕ → Bool
  needs r = is_none (own_in l s r) && unrecorded (first (sees_at m s) (walked_at m r)) (slot_at m s).recs

  -- the row's value by history is the key
  unfoldable pub hit : ℕ → ℕ → Bool
  hit key r = is_key key (answer_of (value_in l s r))

  module _ (key room : ℕ) where
    -- the trouble with row r after the rows before it, 0 where there is none: 10; 13, where those rows and the slot's records leave no room
    -- for a new one; 14, where the rows listed before it fill the buffer
    unfoldable pub trouble : List ℕ → ℕ → ℕ
    trouble before r =
        cond (looks_past r) chain_too_long
        (cond (needs r && leb z.reads (length (slot_at m s).recs + length (keep needs before))) read_set_full
        (cond (hit key r && leb room (length (keep (hit key) before))) result_full 0))

    -- the value that goes with it: the row, or nothing with 14
    abbrev pub trouble_value : ℕ → ℕ → ℕ
    trouble_value k r = cond (eqb k result_full) 0 r

    abbrev pub NoTrouble : List ℕ → List ℕ → Type 0
    NoTrouble before [] = Unit {0}
    NoTrouble before (r ∷ rows) = (trouble before r ≡ 0) × NoTrouble (before ++ (r ∷ [])) rows

    -- the first trouble among rows that come after the rows before: the rows without trouble, the row, the rows after it
    pub record FirstTrouble (before rows : List ℕ) : Type 0 where
      pub fine : List ℕ
      pub row : ℕ
      pub rest : List ℕ
      pub split : rows ≡ fine ++ (row ∷ rest)
      pub none_yet : NoTrouble before fine
      pub here : trouble (before ++ fine) row ≢ 0

    -- what a lookup of rows comes to by history: the rows with the key, or a refusal with the first trouble
    pub data Comes (rows : List ℕ) : Outcome z Answer ℕ → Type 0 where
      its_list : (o : Outcome z Answer ℕ) → NoTrouble [] rows → o.answer ≡ Listed (length (keep (hit key) rows)) → o.front ≡ keep (hit key) rows → Comes rows o
      its_trouble : (f : FirstTrouble [] rows) → Comes rows (refuse m (trouble f.fine f.row) (trouble_value (trouble f.fine f.row) f.row))
