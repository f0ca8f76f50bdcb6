-- 000, module retention: its terms over an image. A term that speaks of visibility takes the rule as a test `see` of a version: 000's
-- rule and 01's are two such tests.
use Rattle.std.specs.Prelude.{ℕ, ◌<◌, ◌≤◌, Bool, true, cond, List, [], ◌∷◌, ◌≢◌, ◌↔◌, ◌≡◌, get_or}
use Rattle.std.proofs.Math.Option.{Option, none, some}
use Rattle.kinds.specs.declared.Version.{Version}
use Rattle.kinds.specs.ReadAnswer.{ReadAnswer, None, Empty, Key}
use Rattle.words.specs.Sizes.{Sizes}
use Rattle.words.specs.Lists.{nonzero, first}
use Rattle.kinds.specs.Versions.{empty_version}
use Rattle.rules.specs.Memory.{Mem}
use Rattle.rules.specs.Exactly.{In, All}
use Rattle.rules.specs.VacuumRefuses.{Reclaimable}
use Rattle.rules.specs.Reachable.{free_at}
use Rattle.upstream.specs.Images.{Image, image_of, stored, ImageValid, Snapshot}
use Rattle.upstream.specs.Seen.{reachable}
use Rattle.upstream.specs.Transactions.{value_of}
use Rattle.upstream.specs.Publication.{set_next}

-- `eligible`: xmax not 0, below the horizon, unlocked. It is 01's "reclaimable", but for the head
abbrev pub Eligible : Version → ℕ → Type 0
Eligible v hz = Reclaimable hz v

-- `spliced`: one version's next changed
abbrev pub spliced : Image → ℕ → ℕ → Image
spliced s prev next = set_next s prev next

-- `snapshot_well_formed`
pub record SnapshotWellFormed (t : Snapshot) : Type 0 where
  pub real : 0 < t.xmin
  pub lowest : t.xmin ≤ t.txid
  pub early : t.txid < t.xmax
  pub active : All (λ x. t.xmin ≤ x) t.active

-- `admissible`: the horizon protects the snapshot, and no stored version is the reader's own
pub record Admissible (s : Image) (t : Snapshot) (hz : ℕ) : Type 0 where
  pub formed : SnapshotWellFormed t
  pub below : hz ≤ t.xmin
  pub foreign : (p : ℕ) → stored s p ≡ true → (s.rows p).xmin.0 ≢ t.txid

-- `data_same`: two versions agree in all but next
pub record DataSame (a b : Version) : Type 0 where
  pub xmin : a.xmin ≡ b.xmin
  pub xmax : a.xmax ≡ b.xmax
  pub keyed : a.keyed ≡ b.keyed
  pub key : a.key ≡ b.key
  pub locked : a.locked ≡ b.locked
  pub owner : a.owner ≡ b.owner

-- `metadata_same`: two images agree in all but next. An image carries no rank; that one serves both is a lemma (Vacuums.antt)
pub record MetadataSame (a b : Image) : Type 0 where
  pub heads : (r : ℕ) → a.heads r ≡ b.heads r
  pub capacity : a.capacity ≡ b.capacity
  pub cells : a.cells ≡ b.cells
  pub rows : (p : ℕ) → stored a p ≡ true → DataSame (a.rows p) (b.rows p)

-- what stands in its place (01, "Clauses replaced"): "held but for reclaimed cells, which are cleared". d are the reclaimed cells
pub record MetadataSameBut (d : List ℕ) (a b : Image) : Type 0 where
  pub heads : (r : ℕ) → a.heads r ≡ b.heads r
  pub capacity : a.capacity ≡ b.capacity
  pub cells : a.cells ≡ b.cells
  pub rows : (p : ℕ) → stored a p ≡ true → (In p d → ⊥) → DataSame (a.rows p) (b.rows p)
  pub cleared : (p : ℕ) → In p d → b.rows p ≡ empty_version

-- `State`: an image and the recycled cells. Here the recycled cells are the free list
pub record State : Type 0 where
  pub image : Image
  pub recycled : List ℕ

abbrev pub state_of : {z : Sizes} → Mem z → State
state_of m = record { image = image_of m; recycled = (free_at m).cells }

-- x is recycled in b and was not in a
abbrev pub Newly : State → State → ℕ → Type 0
Newly a b x = In x b.recycled × (In x a.recycled → ⊥)

-- `report_provenance`: each report is of a removed version, with its value as it was. A report is the cell, whether it had a key, the key
abbrev pub ReportProvenance : Image → List ℕ → List (List ℕ) → Type 0
ReportProvenance s removed reports = All (λ (q : List ℕ). (p : ℕ) × In p removed × (q ≡ p ∷ (s.rows p).keyed ∷ (s.rows p).key ∷ [])) reports

-- `Reclaimed`: a report as 000 has it, with the row and the live head's value in each
pub record Reclaimed : Type 0 where
  pub row : ℕ
  pub value : Option ℕ
  pub live : Option (Option ℕ)

-- the live head's value in the answer, as 000's
abbrev pub live_of : ReadAnswer → Option (Option ℕ)
live_of None = none
live_of Empty = some none
live_of (Key k) = some (some k)
live_of (ReadAnswer.Refused k x) = none

-- one of our reports, with the call's row and the live head's value of its answer, as 000's
abbrev pub reclaimed_of : ℕ → ReadAnswer → List ℕ → Reclaimed
reclaimed_of row live q = record { row = row; value = cond (nonzero (get_or q 1 0)) (some (get_or q 2 0)) none; live = live_of live }

-- `report_provenance`, as 000 has it
abbrev pub ReclaimedProvenance : Image → List ℕ → List Reclaimed → ℕ → Type 0
ReclaimedProvenance s removed reports row = All (λ (q : Reclaimed). (q.row ≡ row) × (q.live ≡ some (value_of (s.rows (s.heads row)))) × ((p : ℕ) × In p removed × (stored s p ≡ true) × (value_of (s.rows p) ≡ q.value))) reports

module _ (see : Version → Bool) where
  -- `first_visible`, of a chain's cells
  abbrev pub first_seen : Image → ℕ → Option ℕ
  first_seen s p = first (λ c. see (s.rows c)) (reachable s p)

  -- the cells of a list down to the first seen one, that one included
  unfoldable pub down_to : (ℕ → Version) → List ℕ → List ℕ
  down_to f [] = []
  down_to f (c ∷ l) = c ∷ cond (see (f c)) [] (down_to f l)

  -- `prefix`
  abbrev pub prefix : Image → ℕ → List ℕ
  prefix s p = down_to s.rows (reachable s p)

  -- `prefix_ineligible`: there is a visible version, and nothing down to it is eligible
  pub record PrefixIneligible (s : Image) (row hz : ℕ) : Type 0 where
    pub found : first_seen s (s.heads row) ≢ none
    pub kept : (p : ℕ) → In p (prefix s (s.heads row)) → Eligible (s.rows p) hz → ⊥

  -- `prefix_preserved`: nothing down to the visible version is recycled or changed, but for the next of that version
  pub record PrefixPreserved (a b : State) (row : ℕ) : Type 0 where
    pub apart : (p : ℕ) → In p (prefix a.image (a.image.heads row)) → In p b.recycled → ⊥
    pub stands : (p : ℕ) → In p (prefix a.image (a.image.heads row)) → stored b.image p ≡ true
    pub same : (p : ℕ) → In p (prefix a.image (a.image.heads row)) → DataSame (a.image.rows p) (b.image.rows p)
    pub next : (p : ℕ) → In p (prefix a.image (a.image.heads row)) → first_seen a.image (a.image.heads row) ≢ some p
        → (a.image.rows p).next ≡ (b.image.rows p).next

  -- `safe_result`, with 01's clause in place of `metadata_same`: d are the reclaimed, the newly recycled
  pub record SafeResult (a b : State) (row : ℕ) (d : List ℕ) : Type 0 where
    pub reclaimed : (x : ℕ) → In x d ↔ Newly a b x
    pub valid : ImageValid b.image
    pub same : MetadataSameBut d a.image b.image
    pub first : first_seen a.image (a.image.heads row) ≡ first_seen b.image (b.image.heads row)
    pub grows : (x : ℕ) → In x a.recycled → In x b.recycled
    pub apart : (x : ℕ) → In x b.recycled → In x (reachable b.image (b.image.heads row)) → ⊥
    pub was : (x : ℕ) → Newly a b x → In x (reachable a.image (a.image.heads row))
    pub unlocked : (x : ℕ) → Newly a b x → (a.image.rows x).locked ≡ 0
    pub unseen : (x : ℕ) → Newly a b x → first_seen a.image (a.image.heads row) ≢ some x
