-- What a call comes to, and how its tests refuse it.
use Rattle.std.specs.Prelude.{ℕ, Bool, not, ◌&&◌, ◌||◌, cond, List, [], ◌∷◌, ◌++◌, length, get_or, eqb, ltb, leb}
use Rattle.kinds.specs.ReadAnswer.{ReadAnswer}
use Rattle.kinds.specs.Answer.{Answer}
use Rattle.words.specs.Sizes.{Sizes, meta_words, ID, ACTIVE, WRITES, READS}
use Rattle.rules.specs.Numbers.{bad_slot, not_owner, bad_row, damaged}
use Rattle.words.specs.Lists.{nonzero}
use Rattle.rules.specs.Memory.{Mem, size_r, size_n, clock, words_at}

-- the answer; what is written at the front of the caller's buffer, the rest untouched; the memory after
pub record Outcome (z : Sizes) (A B : Type 0) : Type 0 where
  pub answer : A
  pub front : List B
  pub after : Mem z

abbrev pub out : {z : Sizes} {A B : Type 0} → A → List B → Mem z → Outcome z A B
out a l m = record { answer = a; front = l; after = m }

-- a test that refuses where it fails, with a number and a value
pub record Test : Type 0 where
  pub fails : Bool
  pub number : ℕ
  pub value : ℕ

abbrev pub test : Bool → ℕ → ℕ → Test
test b k x = record { fails = b; number = k; value = x }

-- the first test that fails refuses; where none does the call is done
unfoldable pub guard : {A : Type 0} → (ℕ → ℕ → A) → List Test → A → A
guard refused [] a = a
guard refused (t ∷ l) a = cond t.fails (refused t.number t.value) (guard refused l a)

-- the tests of each member, in order
unfoldable pub each : {A : Type 0} → (A → List Test) → List A → List Test
each f [] = []
each f (a ∷ l) = f a ++ each f l

module _ {z : Sizes} where
  -- "Every refusal changes nothing at all"
  abbrev pub refuse : {B : Type 0} → Mem z → ℕ → ℕ → Outcome z Answer B
  refuse m k x = out (Answer.Refused k x) [] m

  abbrev pub refuse_read : {B : Type 0} → Mem z → ℕ → ℕ → Outcome z ReadAnswer B
  refuse_read m k x = out (ReadAnswer.Refused k x) [] m

  -- R and N in range, and the lent lengths long enough for them
  unfoldable pub fits : Mem z → ℕ → ℕ → Bool
  fits m r n =
      leb 1 r && (leb r z.rows && (leb 1 n && (leb n z.cells
      && (leb meta_words (length m.meta) && (leb r (length m.rows) && (leb n (length m.cells) && leb z.slots (length m.slots)))))))

  -- 15: "saved sizes out of range or not fitting the lent lengths, clock 0"
  unfoldable pub store_tests : Mem z → List Test
  store_tests m = test (not (fits m (size_r m) (size_n m)) || eqb (clock m) 0) damaged 0 ∷ []

  -- then 4: "slot 16 or more"; 5: "presented id is 0 or not the slot's", with the id found; 15: "a saved count of the named slot above its limit"
  unfoldable pub slot_tests : Mem z → ℕ → ℕ → List Test
  slot_tests m s id =
      let t = words_at m s in
      store_tests m
      ++ test (leb z.slots s) bad_slot 0
      ∷ test (eqb id 0 || not (eqb id (get_or t ID 0))) not_owner (get_or t ID 0)
      ∷ test (ltb z.slots (get_or t ACTIVE 0) || (ltb z.writes (get_or t (WRITES z) 0) || ltb z.reads (get_or t (READS z) 0))) damaged 0
      ∷ []

  -- 6: "row or candidate at R or above"
  abbrev pub row_test : Mem z → ℕ → Test
  row_test m row = test (leb (size_r m) row) bad_row row

-- a cell or link that can be used: not 0, and not above N
abbrev pub is_cell : ℕ → ℕ → Bool
is_cell n c = nonzero c && leb c n
