-- The invariant of the theory, over views. Ghost lists say which cells stand where, and one counting equation says that each cell from 1
-- on stands once in them all: so no cell is shared, none is lost, and 0 is nowhere. A snapshot is known by what it sees: ids below its xmin
-- are seen, ids of open slots and ids not yet drawn are not. Of each open slot and row, the first version of the chain that it sees says
-- what the history says it saw when it began. `pend` are the cells in hand between two steps of a call.
use Rattle.std.specs.Prelude.{cond, Bool, ◌&&◌, not, true, false, ◌≢◌, ◌≡◌, ℕ, ◌+◌, ◌<◌, ◌≤◌, eqb, ltb, get_or, length}
use mathlib.Core.List.{List, [], ◌∷◌}
use Rattle.std.proofs.Math.Option.{some, none, Option}
use Rattle.kinds.specs.declared.Version.{Version}
use Rattle.words.specs.Lists.{nonzero, has, least, greatest}
use Rattle.words.specs.Slots.{Slot, Write, Rec}
use Rattle.kinds.specs.Visible.{creator_visible}
use Rattle.rules.specs.Abort.{news}
use Rattle.rules.specs.History.{Val, said}
use Rattle.rules.specs.Reachable.{All}
use Rattle.rules.specs.Theory.View.{View, empty_slot}
use Rattle.rules.specs.Theory.Effects.{slot_v}
use Rattle.rules.specs.Theory.Counting.{cnt, bit, sum}

-- what a reader looks at
pub record Ver : Type 0 where
  pub xmin : ℕ
  pub xmax : ℕ
  pub val : Val

unfoldable pub ver_of : Version → Ver
ver_of v = record { xmin = v.xmin.0; xmax = v.xmax.0; val = said (cond (nonzero v.keyed) (some v.key) none) v.xmin.0 }

abbrev pub vers : View → ℕ → Ver
vers st c = ver_of (st.vers c)

abbrev pub nexts : View → ℕ → ℕ
nexts st c = (st.vers c).next.0

unfoldable pub vis : Slot → Ver → Bool
vis t v = creator_visible t v.xmin && not (nonzero v.xmax && creator_visible t v.xmax)

-- `l` is the list that `nx` spells from h
abbrev pub Spelled : (ℕ → ℕ) → ℕ → List ℕ → Type 0
Spelled nx h [] = h ≡ 0
Spelled nx h (c ∷ l) = (h ≡ c) × (c ≢ 0) × Spelled nx (nx c) l

-- the first version of the list that t sees
unfoldable pub pick : Slot → (ℕ → Ver) → List ℕ → Option Val
pick t f [] = none
pick t f (c ∷ l) = cond (vis t (f c)) (some (f c).val) (pick t f l)

-- the value of the row's own write
unfoldable pub own_find : (ℕ → Ver) → List Write → ℕ → Option Val
own_find f [] r = none
own_find f (w ∷ l) r = cond (eqb w.row r) (some (f w.new).val) (own_find f l r)

-- the ghost lists: the cells of each row's chain, and the free cells
pub record Ghost : Type 0 where
  pub rows : List (List ℕ)
  pub fl : List ℕ

-- the history: the last commit of each row; of each slot the id that is open there (0: none), the last commits that stood when it began,
-- and its own accepted writes
pub record Hist : Type 0 where
  pub last : ℕ → Option Val
  pub who : ℕ → ℕ
  pub view : ℕ → ℕ → Option Val
  pub own : ℕ → ℕ → Option Val

abbrev pub in_slot : ℕ → Slot → ℕ
in_slot x s = cnt x (news s.writes)

-- a cell's number
unfoldable pub inb : ℕ → ℕ → ℕ
inb n x = bit (not (eqb x 0) && ltb x n)

-- in how many places cell x is
abbrev pub places : Ghost → List Slot → List ℕ → ℕ → ℕ
places g ss pend x = cnt x g.fl + sum (cnt x) g.rows + sum (in_slot x) ss + cnt x pend

-- a committed id: nobody open has it
pub record Settled (k : ℕ) (ss : List Slot) (x : ℕ) : Type 0 where
  pub nonzero : x ≢ 0
  pub past : x < k
  pub shut : (j : ℕ) → (get_or ss j empty_slot).id ≢ x

-- every version after the head was superseded by a commit
abbrev pub Tail : (ℕ → Ver) → ℕ → List Slot → List ℕ → Type 0
Tail f k ss l = (d : ℕ) → cnt d l ≢ 0 → Settled k ss (f d).xmax

-- what a row's chain shows a reader that begins now
abbrev pub Top : (ℕ → Ver) → ℕ → List Slot → List ℕ → Option Val → Type 0
Top f k ss [] o = o ≡ none
Top f k ss (c ∷ l) o = ((f c).xmax ≡ 0) × Settled k ss (f c).xmin × (o ≡ some (f c).val) × Tail f k ss l

-- a snapshot, by what it sees
pub record Snap (k : ℕ) (ss : List Slot) (i : ℕ) : Type 0 where
  pub begun : (get_or ss i empty_slot).id < k
  pub below : (x : ℕ) → x ≢ 0 → x < (get_or ss i empty_slot).low → creator_visible (get_or ss i empty_slot) x ≡ true
  pub hides : (j : ℕ) → j ≢ i → creator_visible (get_or ss i empty_slot) (get_or ss j empty_slot).id ≡ false
  pub after : (x : ℕ) → k ≤ x → creator_visible (get_or ss i empty_slot) x ≡ false

-- a snapshot as begin took it: xmin is the least active id, its own among them, xmax is above them all
pub record Taken (k : ℕ) (s : Slot) : Type 0 where
  pub self : has s.id s.active ≡ true
  pub lowest : s.low ≡ least s.top s.active
  pub above : greatest s.active < s.top
  pub early : s.top ≤ k

-- t sees at most one version of the list
abbrev pub Single : Slot → (ℕ → Ver) → List ℕ → Type 0
Single t f [] = Unit {0}
Single t f (c ∷ l) = (vis t (f c) ≡ true → (d : ℕ) → cnt d l ≢ 0 → vis t (f d) ≡ false) × Single t f l

-- a write set: its rows differ and are in range, its cells carry the id
abbrev pub Entries : (ℕ → Ver) → ℕ → ℕ → List Write → Type 0
Entries f R t [] = Unit {0}
Entries f R t (w ∷ l) = (w.row < R) × ((f w.new).xmin ≡ t) × ((f w.new).xmax ≡ 0) × (own_find f l w.row ≡ none) × Entries f R t l

-- a recorded cell stands in its row's chain, with the xmin that was read, and is seen: so it is never reused while the reader is open
pub record Recorded (f : ℕ → Ver) (rows : List (List ℕ)) (s : Slot) (q : Rec) : Type 0 where
  pub placed : cnt q.cell (get_or rows q.row []) ≢ 0
  pub minned : (f q.cell).xmin ≡ q.xmin
  pub seen : vis s (f q.cell) ≡ true

-- one record a row
abbrev pub Apart : List Rec → Type 0
Apart [] = Unit {0}
Apart (q ∷ l) = All (λ p. p.row ≢ q.row) l × Apart l

pub record Open (R : ℕ) (st : View) (g : Ghost) (h : Hist) (i : ℕ) : Type 0 where
  pub snap : Snap st.clock st.slots i
  pub taken : Taken st.clock (slot_v st i)
  pub reads : (r : ℕ) → pick (slot_v st i) (vers st) (get_or g.rows r []) ≡ h.view i r
  pub single : (r : ℕ) → Single (slot_v st i) (vers st) (get_or g.rows r [])
  pub owns : (r : ℕ) → own_find (vers st) (slot_v st i).writes r ≡ h.own i r
  pub entries : Entries (vers st) R (slot_v st i).id (slot_v st i).writes
  pub records : All (Recorded (vers st) g.rows (slot_v st i)) (slot_v st i).recs
  pub apart : Apart (slot_v st i).recs

pub record Inv (R n : ℕ) (st : View) (g : Ghost) (h : Hist) (pend : List ℕ) : Type 0 where
  pub once : (x : ℕ) → places g st.slots pend x ≡ inb n x
  pub ticking : st.clock ≢ 0
  pub rowed : length g.rows ≡ R
  pub chain : (r : ℕ) → r < R → Spelled (nexts st) (st.heads r) (get_or g.rows r [])
  pub frees : Spelled st.links st.free g.fl
  pub tops : (r : ℕ) → Top (vers st) st.clock st.slots (get_or g.rows r []) (h.last r)
  pub known : (i : ℕ) → (slot_v st i).id ≡ h.who i
  pub closed : (i : ℕ) → (slot_v st i).id ≡ 0 → (slot_v st i).writes ≡ []
  pub opens : (i : ℕ) → (slot_v st i).id ≢ 0 → Open R st g h i
