-- Where 000's visibility and 01's agree, and the smallest examples where they part. 01 looks at no snapshot xmin, holds id 0 for nobody,
-- and does not see an own version that was superseded by a visible one.
use Rattle.std.specs.Prelude.{ℕ, ◌<◌, ◌≤◌, true, false, not, ◌&&◌, ◌||◌, List, [], ◌∷◌, ◌≢◌, ◌↔◌, ◌≡◌, refl, eqb, leb}
use Rattle.std.proofs.Common.{sym, arith, eq-eqb, ne_eqb, lt-ltb, le-ltb, le-leb}
use Rattle.std.proofs.lemmas.Bool.{lt-leb, not-true}
use Rattle.kinds.specs.declared.Version.{Version}
use Rattle.words.specs.Lists.{nonzero, has}
use Rattle.kinds.specs.Versions.{version}
use Rattle.words.specs.Slots.{Slot}
use Rattle.rules.specs.Reachable.{All}
use Rattle.rules.proofs.Theory.Cases.{by_bool, by_eq, by_le}
use Rattle.kinds.specs.Visible as ours
use Rattle.upstream.specs.Images.{snapshot}
use Rattle.upstream.specs.Seen.{creator_visible, visible}
use Rattle.upstream.specs.Visibility.{LowFirst, Plain}

below_not_active : (x k : ℕ) (l : List ℕ) → All (λ y. k ≤ y) l → x < k → has x l ≡ false
unfolding has
below_not_active x k [] a h = refl
below_not_active x k (y ∷ l) a h = rw (ne_eqb x y (omega (arith, a.0)), below_not_active x k l a.1 h)

-- an id other than 0: the two rules on creators say the same
pub creator_visible_agrees : (t : Slot) → LowFirst t → (x : ℕ) → x ≢ 0 → creator_visible x (snapshot t) ≡ ours.creator_visible t x
unfolding creator_visible ours.creator_visible
creator_visible_agrees t k x nz =
    rw (ne_eqb x 0 nz)
    (by_le t.low x
    (λ le. rw (le-ltb x t.low le))
    (λ lt. rw (lt-ltb x t.low lt, lt-ltb x t.top (omega (arith, k.top)), below_not_active x t.low t.active k.active lt)))

-- a superseding id that is not 0 is not seen by the one rule exactly when it is past or active by the other
past_agrees : (t : Slot) (x : ℕ) → (eqb x 0 || (not (eqb x t.id) && (leb t.top x || has x t.active))) ≡ not (nonzero x && ours.creator_visible t x)
unfolding ours.creator_visible
past_agrees t x = by_eq x 0
    (λ z. rw (eq-eqb x 0 z))
    (λ nz. rw (ne_eqb x 0 nz)
    (by_eq x t.id
    (λ own. rw (eq-eqb x t.id own))
    (λ other. rw (ne_eqb x t.id other)
    (by_le t.top x
    (λ le. rw (le-leb t.top x le, le-ltb x t.top le))
    (λ lt. rw (lt-leb t.top x lt, lt-ltb x t.top lt) (by_bool (has x t.active) (λ e. rw e) (λ e. rw e)))))))

own_seen : (t : Slot) (x : ℕ) → x ≢ 0 → x ≡ t.id → ours.creator_visible t x ≡ true
unfolding ours.creator_visible
own_seen t x nz own = rw (ne_eqb x 0 nz, eq-eqb x t.id own)

-- The agreement: `visible` of 000 is `visible` of 01.
pub visible_agrees : (t : Slot) (v : Version) → LowFirst t → Plain t v → visible v (snapshot t) ≡ ours.visible t v
unfolding visible ours.visible
visible_agrees t v k p = by_eq v.xmin.0 t.id
    (λ own. rw (eq-eqb v.xmin.0 t.id own, own_seen t v.xmin.0 p.created own, eq-eqb v.xmax.0 0 (p.unsuperseded own)))
    (λ other. rw (ne_eqb v.xmin.0 t.id other, creator_visible_agrees t k v.xmin.0 p.created, past_agrees t v.xmax.0))

-- And no further: of a version that has a creator, under such a snapshot, they agree exactly where it is no own version whose xmax 01 sees.
pub visible_agrees_exactly : (t : Slot) (v : Version) → LowFirst t → v.xmin.0 ≢ 0
    → (visible v (snapshot t) ≡ ours.visible t v) ↔ (v.xmin.0 ≡ t.id → (nonzero v.xmax.0 && ours.creator_visible t v.xmax.0) ≡ false)
unfolding visible ours.visible
visible_agrees_exactly t v k nz = (
  λ e own. not-true _ (sym (rw (eq-eqb v.xmin.0 t.id own, own_seen t v.xmin.0 nz own) at e)),
  λ h. by_eq v.xmin.0 t.id
      (λ own. rw (eq-eqb v.xmin.0 t.id own, own_seen t v.xmin.0 nz own, h own))
      (λ other. rw (ne_eqb v.xmin.0 t.id other, creator_visible_agrees t k v.xmin.0 nz, past_agrees t v.xmax.0)),
)

-- ---- the smallest examples where they part: each breaks one premise
abbrev reader : Slot
reader = record { id = 6; low = 4; top = 7; active = 4 ∷ 6 ∷ []; writes = []; recs = [] }

-- id 0, which is below every snapshot xmin
pub part_at_id_0 : (visible (version 0 0 0 0 0 0 0) (snapshot reader) ≡ true) × (ours.visible reader (version 0 0 0 0 0 0 0) ≡ false)
unfolding visible creator_visible ours.visible ours.creator_visible has
part_at_id_0 = (refl, refl)

-- an own version that was superseded, by the reader or by one that it sees
pub part_at_own_superseded : (visible (version 6 6 0 0 0 0 0) (snapshot reader) ≡ true) × (ours.visible reader (version 6 6 0 0 0 0 0) ≡ false)
    × (visible (version 6 5 0 0 0 0 0) (snapshot reader) ≡ true) × (ours.visible reader (version 6 5 0 0 0 0 0) ≡ false)
unfolding visible creator_visible ours.visible ours.creator_visible has
part_at_own_superseded = (refl, refl, refl, refl)

-- an active id below snapshot xmin: a snapshot that begin never takes
abbrev stale : Slot
stale = record { id = 6; low = 5; top = 7; active = 4 ∷ 6 ∷ []; writes = []; recs = [] }

pub part_at_active_below_xmin : (visible (version 4 0 0 0 0 0 0) (snapshot stale) ≡ true) × (ours.visible stale (version 4 0 0 0 0 0 0) ≡ false)
unfolding visible creator_visible ours.visible ours.creator_visible has
part_at_active_below_xmin = (refl, refl)

-- an id below snapshot xmin and not below snapshot xmax
abbrev crossed : Slot
crossed = record { id = 3; low = 6; top = 4; active = []; writes = []; recs = [] }

pub part_at_xmin_above_xmax : (visible (version 5 0 0 0 0 0 0) (snapshot crossed) ≡ true) × (ours.visible crossed (version 5 0 0 0 0 0 0) ≡ false)
unfolding visible creator_visible ours.visible ours.creator_visible has
part_at_xmin_above_xmax = (refl, refl)
