-- A version, and a cell as its words. A cell is eight words: xmin, xmax, next, keyed, key, locked, owner, free link.
use Rattle.std.specs.Prelude.{ℕ, ◌-◌, Bool, not, ◌&&◌, cond, List, [], ◌∷◌, get_or, set, eqb, ltb}
use Rattle.std.proofs.Math.Option.{Option, none, some}
use Rattle.words.specs.declared.TxId.{TxId}
use Rattle.kinds.specs.declared.Cell.{Cell}
use Rattle.kinds.specs.declared.Version.{Version}
use Rattle.kinds.specs.ReadAnswer.{ReadAnswer, Empty, Key}
use Rattle.std.specs.Prelude.{Option as Maybe, Some, None}
use Rattle.words.specs.Lists.{nonzero}

abbrev pub tx : ℕ → TxId
tx x = record { 0 = x }

abbrev pub at : ℕ → Cell
at c = record { 0 = c }

abbrev pub version : ℕ → ℕ → ℕ → ℕ → ℕ → ℕ → ℕ → Version
version x y n h k l o = record { xmin = tx x; xmax = tx y; next = at n; keyed = h; key = k; locked = l; owner = tx o }

-- the empty version: every field 0
abbrev pub empty_version : Version
empty_version = version 0 0 0 0 0 0 0

-- ---- one field changed, the rest kept

abbrev pub with_xmax : Version → ℕ → Version
with_xmax v x = record { xmin = v.xmin; xmax = tx x; next = v.next; keyed = v.keyed; key = v.key; locked = v.locked; owner = v.owner }

abbrev pub with_next : Version → ℕ → Version
with_next v n = record { xmin = v.xmin; xmax = v.xmax; next = at n; keyed = v.keyed; key = v.key; locked = v.locked; owner = v.owner }

-- a lock is the flag and its owner
abbrev pub with_lock : Version → ℕ → ℕ → Version
with_lock v l o = record { xmin = v.xmin; xmax = v.xmax; next = v.next; keyed = v.keyed; key = v.key; locked = l; owner = tx o }

abbrev pub locked_for : Version → ℕ → Version
locked_for v id = with_lock v 1 id

-- Abort: "unlock (owner 0, here and in commit)"
abbrev pub unlocked : Version → Version
unlocked v = with_lock v 0 0

-- a value is a key, or none; as words: whether there is one, and the key (0 where there is none)
abbrev pub keyed_of : Option ℕ → ℕ
keyed_of none = 0
keyed_of (some k) = 1

abbrev pub key_of : Option ℕ → ℕ
key_of none = 0
key_of (some k) = k

-- the value that a caller gives
abbrev pub given : Maybe ℕ → Option ℕ
given None = none
given (Some k) = some k

abbrev pub with_value : Version → Option ℕ → Version
with_value v o = record { xmin = v.xmin; xmax = v.xmax; next = v.next; keyed = keyed_of o; key = key_of o; locked = v.locked; owner = v.owner }

-- 000, `new_row`: a value, its creator, the version after it; nothing else set
abbrev pub new_version : Option ℕ → ℕ → ℕ → Version
new_version o id next = version id 0 next (keyed_of o) (key_of o) 0 0

-- 7: "locked by another id"
abbrev pub locked_by_other : Version → ℕ → Bool
locked_by_other v id = nonzero v.locked && not (eqb v.owner.0 id)

-- "a version without a key, or a key"
abbrev pub value_of : Version → ReadAnswer
value_of v = cond (nonzero v.keyed) (Key v.key) Empty

-- ---- cells. Cell c stands at index c - 1; cell 0 is nowhere, and reads as no words

unfoldable pub version_of : List ℕ → Version
version_of w = version (get_or w 0 0) (get_or w 1 0) (get_or w 2 0) (get_or w 3 0) (get_or w 4 0) (get_or w 5 0) (get_or w 6 0)

unfoldable pub words_of : Version → ℕ → List ℕ
words_of v link = v.xmin.0 ∷ v.xmax.0 ∷ v.next.0 ∷ v.keyed ∷ v.key ∷ v.locked ∷ v.owner.0 ∷ link ∷ []

unfoldable pub cell_at : List (List ℕ) → ℕ → List ℕ
cell_at cs c = get_or ([] ∷ cs) c []

abbrev pub version_at : List (List ℕ) → ℕ → Version
version_at cs c = version_of (cell_at cs c)

abbrev pub link_at : List (List ℕ) → ℕ → ℕ
link_at cs c = get_or (cell_at cs c) 7 0

unfoldable pub put_cell : List (List ℕ) → ℕ → Version → ℕ → List (List ℕ)
put_cell cs c v link = set cs (c - 1) (words_of v link)

-- a version stored, its cell's free link kept
abbrev pub put_version : List (List ℕ) → ℕ → Version → List (List ℕ)
put_version cs c v = put_cell cs c v (link_at cs c)

-- "reclaimable are the versions after the head with xmax nonzero, below the horizon, unlocked"
unfoldable pub reclaimable : ℕ → Version → Bool
reclaimable hz v = nonzero v.xmax.0 && (ltb v.xmax.0 hz && not (nonzero v.locked))
