-- What the horizon protects: a reader whose snapshot xmin is at or above it sees no eligible version. Under 01's rule that holds of every
-- such reader; under 000's it needs that the version is not the reader's own, since 000 sees an own version whatever its xmax.
use Rattle.std.specs.Prelude.{ℕ, ◌≤◌, ◌<◌, false, ◌≡◌, ◌≢◌, leb}
use Rattle.std.proofs.Common.{inr, arith, ne_eqb}
use Rattle.std.proofs.lemmas.Bool.{lt-leb}
use Rattle.kinds.specs.declared.Version.{Version}
use Rattle.words.specs.Lists.{has}
use Rattle.words.specs.Slots.{Slot}
use Rattle.kinds.specs.Visible as Here
use Rattle.rules.specs.Exactly.{In}
use Rattle.rules.proofs.Exactly.{is_in, fails_false}
use Rattle.rules.proofs.Terms.{is_seen}
use Rattle.rules.proofs.Members.{all_in}
use Rattle.rules.proofs.Theory.Cases.{and_false}
use Rattle.upstream.specs.Images.{Snapshot, snapshot}
use Rattle.upstream.specs.Seen.{visible}
use Rattle.upstream.specs.RetentionTerms.{Eligible, DataSame, SnapshotWellFormed}
use Rattle.upstream.specs.Protected.{sees01, sees000}

-- neither looks at next
pub sees01_same : (t : Slot) (v w : Version) → DataSame v w → sees01 t v ≡ sees01 t w
unfolding Here.visible
sees01_same t v w e = rw (e.xmin, e.xmax)

pub sees000_same : (t : Snapshot) (v w : Version) → DataSame v w → sees000 t v ≡ sees000 t w
unfolding visible
sees000_same t v w e = rw (e.xmin, e.xmax)

-- what is below snapshot xmin is not active
not_active : (t : Snapshot) (x : ℕ) → SnapshotWellFormed t → x < t.xmin → In x t.active → ⊥
not_active t x f b i = omega (arith, all_in (λ (y : ℕ). t.xmin ≤ y) t.active f.active x i)

pub eligible_is_not_seen : (t : Slot) (hz : ℕ) (v : Version) → SnapshotWellFormed (snapshot t) → hz ≤ t.low → Eligible v hz → sees01 t v ≡ false
eligible_is_not_seen t hz v f b e =
    let low : v.xmax.0 < t.low = omega (arith, e.below) in
    fails_false (Here.visible t v) (is_seen t v) (λ s. s.standing e.superseded (e.superseded, inr (omega (arith, f.lowest, f.early), not_active (snapshot t) v.xmax.0 f low)))

pub eligible_is_not_seen_under_000 : (t : Snapshot) (hz : ℕ) (v : Version) → SnapshotWellFormed t → hz ≤ t.xmin → v.xmin.0 ≢ t.txid → Eligible v hz → sees000 t v ≡ false
unfolding visible
eligible_is_not_seen_under_000 t hz v f b n e =
    let low : v.xmax.0 < t.xmin = omega (arith, e.below) in
    let a : has v.xmax.0 t.active ≡ false = fails_false (has v.xmax.0 t.active) (is_in v.xmax.0 t.active) (not_active t v.xmax.0 f low) in
    let c : leb t.xmax v.xmax.0 ≡ false = lt-leb t.xmax v.xmax.0 (omega (arith, f.lowest, f.early)) in
    rw (ne_eqb v.xmin.0 t.txid n, ne_eqb v.xmax.0 0 e.superseded, c, a, and_false, and_false)
