-- Reachable stores: what an accepted creation and any calls after it lead to, whatever memory was lent. And the parts of a memory that
-- the theorems on reachable stores speak of.
use Rattle.std.specs.Prelude.{Bool, cond, false, true, not, List, ◌∷◌, [], ◌++◌, ◌≢◌, ◌⊎◌, ◌≡◌, ℕ, ◌<◌, suc, ◌≤◌, eqb, take, length}
use Rattle.std.proofs.Math.Option.{Option, none, some}
use Rattle.kinds.specs.Answer.{Answer, Done, Vacuumed}
use Rattle.kinds.specs.ReadAnswer.{None}
use Rattle.words.specs.Sizes.{Sizes}
use Rattle.words.specs.Lists.{nonzero, first, from, has, keep}
use Rattle.kinds.specs.Versions.{version_at, with_next, empty_version, link_at, value_of}
use Rattle.words.specs.Slots.{Rec, Write, Slot}
use Rattle.rules.specs.Memory.{Mem, size_n, head_at, free, slot_at, size_r}
use Rattle.kinds.specs.Visible.{visible}
use Rattle.rules.specs.Chain.{chain, Chain}
use Rattle.rules.specs.Snapshot.{horizon}
use Rattle.rules.specs.Outcome.{Outcome, out}
use Rattle.rules.specs.Create.{create_out}
use Rattle.rules.specs.Read.{recorded}
use Rattle.rules.specs.Abort.{news}
use Rattle.rules.specs.Vacuum.{reports}
use Rattle.kinds.specs.Versions.{reclaimable}
use Rattle.rules.specs.Run.{Call, run}
use Rattle.rules.specs.History.{Log, log_of, made, Val, said, own_in, who_in, GoesOn}

-- m and its log l: calls with any arguments, refused ones and further creations among them, after an accepted creation
pub record Reachable {z : Sizes} (m : Mem z) (l : Log) : Type 0 where
  pub lent : Mem z
  pub n : ℕ
  pub r : ℕ
  pub calls : List Call
  pub accepted : (create_out lent n r).answer ≡ Done
  pub memory : (run calls (create_out lent n r).after).1 ≡ m
  pub log : log_of calls (run calls (create_out lent n r).after).0 (made n r ∷ []) ≡ l

module _ {z : Sizes} where
  -- a row's chain from the head, and what comes after it
  abbrev pub chain_at : Mem z → ℕ → Chain
  chain_at m r = chain (size_n m) (version_at m.cells) (size_n m) (head_at m r)

  -- the free list, walked as a chain along the free links
  abbrev pub free_at : Mem z → Chain
  free_at m = chain (size_n m) (λ c. with_next empty_version (link_at m.cells c)) (size_n m) (free m)

  -- the versions of the row that a read looks at: at most the walk limit
  abbrev pub walked_at : Mem z → ℕ → List ℕ
  walked_at m r = take z.walk (chain_at m r).cells

  -- slot s sees the version in cell c
  abbrev pub sees_at : Mem z → ℕ → ℕ → Bool
  sees_at m s c = visible (slot_at m s) (version_at m.cells c)

  -- what the version in cell c says: its value and its creator; cell 0 says nothing
  unfoldable pub says_at : Mem z → ℕ → Option Val
  says_at m c =
      let v = version_at m.cells c in
      cond (eqb c 0) none (some (said (cond (nonzero v.keyed) (some v.key) none) v.xmin.0))

  -- 10: "no visible version is among the first 64 of a chain that is longer"
  pub record TooLong (m : Mem z) (l : Log) (s row : ℕ) : Type 0 where
    pub no_own : own_in l s row ≡ none
    pub longer : z.walk < length (chain_at m row).cells
    pub unseen : first (sees_at m s) (walked_at m row) ≡ none

  -- 13: "a new record is needed and 128 stand"
  pub record ReadSetFull (m : Mem z) (l : Log) (s row : ℕ) : Type 0 where
    pub no_own : own_in l s row ≡ none
    pub cell : ℕ
    pub finds : first (sees_at m s) (walked_at m row) ≡ some cell
    pub unrecorded : recorded cell (slot_at m s).recs ≡ false
    pub most : length (slot_at m s).recs ≡ z.reads

-- one list after the other
unfoldable pub joined : (ℕ → List ℕ) → List ℕ → List ℕ
joined f [] = []
joined f (a ∷ l) = f a ++ joined f l

-- every place where a cell can stand: the free list, the chains of rows 0 to R - 1, the write sets of all slots
abbrev pub everywhere : {z : Sizes} → Mem z → List ℕ
everywhere {z} m = (free_at m).cells ++ (joined (λ r. (chain_at m r).cells) (from 0 (size_r m)) ++ joined (λ s. news (slot_at m s).writes) (from 0 z.slots))

-- how many times x stands in a list
unfoldable pub times : ℕ → List ℕ → ℕ
times x [] = 0
times x (y ∷ l) = cond (eqb x y) (suc (times x l)) (times x l)

-- cell c stands in row's chain once, and in no other place
pub record NowhereElse {z : Sizes} (m : Mem z) (row c : ℕ) : Type 0 where
  pub once : times c (chain_at m row).cells ≡ 1
  pub others : (r : ℕ) → r < size_r m → r ≢ row → times c (chain_at m r).cells ≡ 0
  pub unfree : times c (free_at m).cells ≡ 0
  pub unwritten : (s : ℕ) → s < z.slots → times c (news (slot_at m s).writes) ≡ 0

-- a chain behind its head
abbrev pub behind : List ℕ → List ℕ
behind [] = []
behind (c ∷ l) = l

-- the rows of records
abbrev pub rows_read : List Rec → List ℕ
rows_read [] = []
rows_read (q ∷ l) = q.row ∷ rows_read l

-- the bases of a write set
abbrev pub bases_of : List Write → List ℕ
bases_of [] = []
bases_of (w ∷ l) = w.base ∷ bases_of l

-- P of every member
abbrev pub All : {A : Type 0} → (A → Type 0) → List A → Type 0
All P [] = Unit {0}
All P (q ∷ l) = P q × All P l

-- a is a member
abbrev pub In : {A : Type 0} → A → List A → Type 0
In a [] = ⊥
In a (b ∷ l) = (a ≡ b) ⊎ In a l

-- a snapshot in order: xmin is the least of the active ids, the own id is among them, xmax is above them all and at most the clock
pub record InOrder (t : Slot) (now : ℕ) : Type 0 where
  pub self : has t.id t.active ≡ true
  pub among : has t.low t.active ≡ true
  pub least : All (λ x. t.low ≤ x) t.active
  pub above : All (λ x. x < t.top) t.active
  pub early : t.top ≤ now

module _ {z : Sizes} (m : Mem z) where
  -- the base of w is its row's head, locked for id
  pub record LockedFor (id : ℕ) (w : Write) : Type 0 where
    pub head : head_at m w.row ≡ w.base
    pub flag : (version_at m.cells w.base).locked ≢ 0
    pub owner : (version_at m.cells w.base).owner.0 ≡ id

  -- c is the base of a write of an open slot
  pub record BaseOf (l : Log) (c : ℕ) : Type 0 where
    pub slot : ℕ
    pub taken : who_in l slot ≢ 0
    pub among : times c (bases_of (slot_at m slot).writes) ≢ 0

  -- a record is true still: its cell stands in its row's chain, with the xmin that was read, and the reader sees it
  pub record TrueStill (s : ℕ) (q : Rec) : Type 0 where
    pub placed : times q.cell (chain_at m q.row).cells ≡ 1
    pub xmin : (version_at m.cells q.cell).xmin.0 ≡ q.xmin
    pub seen : sees_at m s q.cell ≡ true

  -- a write of the slot to a row that had no version when it was written, and has one now
  pub record Overtaken (s row : ℕ) : Type 0 where
    pub entry : Write
    pub among : In entry (slot_at m s).writes
    pub row_is : entry.row ≡ row
    pub base : entry.base ≡ 0
    pub head : head_at m row ≢ 0

-- after further calls that go on with the history, the transaction that slot s has now is open in it still
pub record StillOpen {z : Sizes} (m : Mem z) (l : Log) (s : ℕ) (cs : List Call) : Type 0 where
  pub going : GoesOn cs (run cs m).0
  pub still : who_in (log_of cs (run cs m).0 l) s ≡ who_in l s

-- What a vacuum of a row comes to, where the chain is l: nothing, for a row without versions; or the versions behind the head that are
-- reclaimable are out of the chain, counted, and reported in chain order, with the head's value; every other chain is as it was.
pub data Swept {z : Sizes} (m : Mem z) (row request : ℕ) : List ℕ → Outcome z Answer (List ℕ) → Type 0 where
  bare : Swept m row request [] (out (Vacuumed 0 None) [] m)
  sweeps : (head : ℕ) (l : List ℕ) (o : Outcome z Answer (List ℕ))
      → o.answer ≡ Vacuumed (length (keep (λ c. reclaimable (horizon m request) (version_at m.cells c)) l)) (value_of (version_at m.cells head))
      → o.front ≡ reports m.cells (keep (λ c. reclaimable (horizon m request) (version_at m.cells c)) l)
      → (chain_at o.after row).cells ≡ head ∷ keep (λ c. not (reclaimable (horizon m request) (version_at m.cells c))) l
      → ((r : ℕ) → r < size_r m → r ≢ row → (chain_at o.after r).cells ≡ (chain_at m r).cells)
      → Swept m row request (head ∷ l) o
