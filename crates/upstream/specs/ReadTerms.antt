-- What 000 says of reads: the view of a transaction, its records, `recording`, `read_conflict`, `matches_row`.
use Rattle.std.specs.Prelude.{ℕ, ◌<◌, Bool, true, false, not, ◌&&◌, ◌||◌, cond, List, [], ◌∷◌, ◌++◌, ◌⊎◌, ◌≡◌, eqb, leb}
use Rattle.std.proofs.Math.Option.{Option, none, some}
use Rattle.kinds.specs.declared.Version.{Version}
use Rattle.words.specs.Lists.{nonzero, has}
use Rattle.words.specs.Slots.{Slot, Rec, rec}
use Rattle.rules.specs.Read.{recorded}
use Rattle.rules.specs.Reachable.{In}
use Rattle.upstream.specs.Images.{Image, stored, snapshot}
use Rattle.upstream.specs.Seen.{first_visible}
use Rattle.upstream.specs.Transactions.{selected_value}

-- `transaction_view_same`: two transactions agree in all but the read set
pub record ViewSame (a b : Slot) : Type 0 where
  pub id : a.id ≡ b.id
  pub low : a.low ≡ b.low
  pub top : a.top ≡ b.top
  pub active : a.active ≡ b.active
  pub writes : a.writes ≡ b.writes

-- `records_extend`: the records of before stand at the front of those after
pub record Extends (before after : List Rec) : Type 0 where
  pub added : List Rec
  pub is : after ≡ before ++ added

-- `recording`: as they are where the cell is recorded already, else with one record at the end
abbrev pub recording : List Rec → ℕ → ℕ → ℕ → List Rec
recording recs row c x = cond (recorded c recs) recs (recs ++ rec row c x ∷ [])

-- `observed_record`: it names the first visible version of its row, with its xmin
pub record Observed (s : Image) (t : Slot) (q : Rec) : Type 0 where
  pub row : q.row < s.capacity
  pub cell : stored s q.cell ≡ true
  pub first : first_visible s (s.heads q.row) (snapshot t) ≡ some q.cell
  pub xmin : q.xmin ≡ (s.rows q.cell).xmin.0

-- `records_have_provenance`: every record is an old one or an observed one
abbrev pub Provenance : Image → Slot → List Rec → List Rec → Type 0
Provenance s t original current = (q : Rec) → In q current → In q original ⊎ Observed s t q

-- the records after a read of row r: as they were for an own write or where nothing was found, else `recording`
abbrev pub records_after : Image → Slot → ℕ → Option ℕ → Option ℕ → List Rec
records_after s t r (some p) found = t.recs
records_after s t r none none = t.recs
records_after s t r none (some c) = recording t.recs r c (s.rows c).xmin.0

-- `read_conflict`: xmin changed; or xmax is not 0, not own, and at or above snapshot xmax or active
unfoldable pub read_conflict : Version → Rec → Slot → Bool
read_conflict v q t =
    not (eqb v.xmin.0 q.xmin)
    || ((nonzero v.xmax.0 && not (eqb v.xmax.0 t.id)) && (leb t.top v.xmax.0 || has v.xmax.0 t.active))

-- `reads_conflict`: some record of a list has a conflict
unfoldable pub some_conflict : Image → Slot → List Rec → Bool
some_conflict s t [] = false
some_conflict s t (q ∷ l) = read_conflict (s.rows q.cell) q t || some_conflict s t l

abbrev pub reads_conflict : Image → Slot → Bool
reads_conflict s t = some_conflict s t t.recs

-- `EqualsKey::evaluate`: there is a key and it equals the sought one
abbrev pub equals_key : ℕ → Option ℕ → Bool
equals_key key none = false
equals_key key (some k) = eqb k key

-- `matches_row`, for the predicate "equals this key": the row is in range and its selected value is the key
pub record MatchesRow (s : Image) (t : Slot) (key r : ℕ) : Type 0 where
  pub row : r < s.capacity
  pub value : selected_value s t r ≡ some (some key)
