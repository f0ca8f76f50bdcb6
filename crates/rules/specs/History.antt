-- The history of a store: a log of what was accepted, newest first, told by the calls and their replies alone; and what the log says.
use Rattle.std.specs.Prelude.{cond, ◌&&◌, Bool, false, true, List, [], ◌∷◌, ◌++◌, ◌≡◌, ℕ, eqb}
use Rattle.std.proofs.Math.Option.{Option, none, some}
use Rattle.kinds.specs.Answer.{Answer, Done, Begun, Wrote, Vacuumed, Listed}
use Rattle.kinds.specs.ReadAnswer.{ReadAnswer, Empty, Key, None}
use Rattle.words.specs.Lists.{or_else}
use Rattle.rules.specs.Vacuum.{reports}
use Rattle.rules.specs.Run.{commit, write, Call, Reply, looked, swept, create, gave, begin, read, abort, vacuum, lookup, lookup_all}

-- what a write says: a value, which is a key or none, and its creator's id
pub record Val : Type 0 where
  pub value : Option ℕ
  pub creator : ℕ

abbrev pub said : Option ℕ → ℕ → Val
said v x = record { value = v; creator = x }

pub data Event : Type 0 where
  -- N, R
  made : ℕ → ℕ → Event
  -- slot, id
  began : ℕ → ℕ → Event
  -- slot, row
  wrote : ℕ → ℕ → Val → Event
  -- row
  committed : ℕ → Val → Event
  -- slot
  ended : ℕ → Event

abbrev pub Log : Type 0
Log = List Event

-- ---- what a log says

-- the id that is open in slot s, 0 where none is
unfoldable pub who_in : Log → ℕ → ℕ
who_in [] s = 0
who_in (made n r ∷ l) s = who_in l s
who_in (began a id ∷ l) s = cond (eqb s a) id (who_in l s)
who_in (wrote a row v ∷ l) s = who_in l s
who_in (committed row v ∷ l) s = who_in l s
who_in (ended a ∷ l) s = cond (eqb s a) 0 (who_in l s)

-- the last commit of row r
unfoldable pub last_in : Log → ℕ → Option Val
last_in [] r = none
last_in (made n k ∷ l) r = last_in l r
last_in (began a id ∷ l) r = last_in l r
last_in (wrote a row v ∷ l) r = last_in l r
last_in (committed row v ∷ l) r = cond (eqb r row) (some v) (last_in l r)
last_in (ended a ∷ l) r = last_in l r

-- the last commit of row r made before the transaction of slot s began
unfoldable pub view_in : Log → ℕ → ℕ → Option Val
view_in [] s r = none
view_in (made n k ∷ l) s r = view_in l s r
view_in (began a id ∷ l) s r = cond (eqb s a) (last_in l r) (view_in l s r)
view_in (wrote a row v ∷ l) s r = view_in l s r
view_in (committed row v ∷ l) s r = view_in l s r
view_in (ended a ∷ l) s r = view_in l s r

-- the last accepted write of row r by the transaction of slot s
unfoldable pub own_in : Log → ℕ → ℕ → Option Val
own_in [] s r = none
own_in (made n k ∷ l) s r = own_in l s r
own_in (began a id ∷ l) s r = cond (eqb s a) none (own_in l s r)
own_in (wrote a row v ∷ l) s r = cond (eqb s a && eqb r row) (some v) (own_in l s r)
own_in (committed row v ∷ l) s r = own_in l s r
own_in (ended a ∷ l) s r = own_in l s r

-- "its own last write of that row, or else the last commit of that row made before it began, or else nothing"
abbrev pub value_in : Log → ℕ → ℕ → Option Val
value_in l s r = or_else (own_in l s r) (view_in l s r)

-- as an answer: no version; a version without a key; a key
abbrev pub key_answer : Option ℕ → ReadAnswer
key_answer none = Empty
key_answer (some k) = Key k

abbrev pub answer_of : Option Val → ReadAnswer
answer_of none = None
answer_of (some v) = key_answer v.value

-- R and N of the creation
unfoldable pub rows_in : Log → ℕ
rows_in [] = 0
rows_in (made n r ∷ l) = r
rows_in (began a id ∷ l) = rows_in l
rows_in (wrote a row v ∷ l) = rows_in l
rows_in (committed row v ∷ l) = rows_in l
rows_in (ended a ∷ l) = rows_in l

unfoldable pub cells_in : Log → ℕ
cells_in [] = 0
cells_in (made n r ∷ l) = n
cells_in (began a id ∷ l) = cells_in l
cells_in (wrote a row v ∷ l) = cells_in l
cells_in (committed row v ∷ l) = cells_in l
cells_in (ended a ∷ l) = cells_in l

-- ---- the log of calls and replies

-- which call an answer accepts
module _ {A : Type 0} where
  abbrev pub if_done : Answer → A → A → A
  if_done Done a b = a
  if_done (Begun s i) a b = b
  if_done (Wrote c) a b = b
  if_done (Vacuumed n v) a b = b
  if_done (Listed n) a b = b
  if_done (Answer.Refused n x) a b = b

  abbrev pub if_begun : Answer → (ℕ → ℕ → A) → A → A
  if_begun (Begun s i) f b = f s i.0
  if_begun Done f b = b
  if_begun (Wrote c) f b = b
  if_begun (Vacuumed n v) f b = b
  if_begun (Listed n) f b = b
  if_begun (Answer.Refused n x) f b = b

  abbrev pub if_wrote : Answer → A → A → A
  if_wrote (Wrote c) a b = a
  if_wrote Done a b = b
  if_wrote (Begun s i) a b = b
  if_wrote (Vacuumed n v) a b = b
  if_wrote (Listed n) a b = b
  if_wrote (Answer.Refused n x) a b = b

-- the accepted writes of the transaction of slot s, newest first: the last write of a row is met first
unfoldable pub writes_in : Log → ℕ → List (ℕ × Val)
writes_in [] s = []
writes_in (made n r ∷ l) s = writes_in l s
writes_in (began a id ∷ l) s = cond (eqb s a) [] (writes_in l s)
writes_in (wrote a row v ∷ l) s = cond (eqb s a) ((row, v) ∷ writes_in l s) (writes_in l s)
writes_in (committed row v ∷ l) s = writes_in l s
writes_in (ended a ∷ l) s = writes_in l s

unfoldable pub commits : List (ℕ × Val) → Log
commits [] = []
commits (w ∷ l) = committed w.0 w.1 ∷ commits l

-- one call and its reply. Refused calls, reads, lookups and vacuums leave the log; "an accepted creation call starts a new history"
unfoldable pub logged : Call → Reply → Log → Log
logged c (looked a) l = l
logged c (swept a reports) l = l
logged (create n r) (gave a rows) l = if_done a (made n r ∷ []) l
logged begin (gave a rows) l = if_begun a (λ s id. began s id ∷ l) l
logged (read s id row) (gave a rows) l = l
logged (write s id row v) (gave a rows) l = if_wrote a (wrote s row (said v id) ∷ l) l
logged (commit s id) (gave a rows) l = if_done a (ended s ∷ (commits (writes_in l s) ++ l)) l
logged (abort s id) (gave a rows) l = if_done a (ended s ∷ l) l
logged (vacuum row request room) (gave a rows) l = l
logged (lookup s id key cands room) (gave a rows) l = l
logged (lookup_all s id key room) (gave a rows) l = l

unfoldable pub log_of : List Call → List Reply → Log → Log
log_of [] rs l = l
log_of (c ∷ cs) [] l = l
log_of (c ∷ cs) (r ∷ rs) l = log_of cs rs (logged c r l)

-- an accepted creation
unfoldable pub restarts : Call → Reply → Bool
restarts c (looked a) = false
restarts c (swept a reports) = false
restarts (create n r) (gave a rows) = if_done a true false
restarts begin (gave a rows) = false
restarts (read s id row) (gave a rows) = false
restarts (write s id row v) (gave a rows) = false
restarts (commit s id) (gave a rows) = false
restarts (abort s id) (gave a rows) = false
restarts (vacuum row request room) (gave a rows) = false
restarts (lookup s id key cands room) (gave a rows) = false
restarts (lookup_all s id key room) (gave a rows) = false

-- calls and replies that go on with one history
abbrev pub GoesOn : List Call → List Reply → Type 0
GoesOn [] rs = Unit {0}
GoesOn (c ∷ cs) [] = Unit {0}
GoesOn (c ∷ cs) (r ∷ rs) = (restarts c r ≡ false) × GoesOn cs rs
