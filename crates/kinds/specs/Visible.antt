-- Paper 01's rules on one version: Creator visible, Visible, Validation.
use Rattle.std.specs.Prelude.{ℕ, Bool, not, ◌&&◌, ◌||◌, eqb, ltb, leb}
use Rattle.kinds.specs.declared.Version.{Version}
use Rattle.words.specs.Lists.{nonzero, has}
use Rattle.words.specs.Slots.{Slot}

-- "Creator visible: id is not 0, and it is the reader's own, or below snapshot xmax and not in its active list"
unfoldable pub creator_visible : Slot → ℕ → Bool
creator_visible t x = nonzero x && (eqb x t.id || (ltb x t.top && not (has x t.active)))

-- "Visible: creator visible, and not (xmax nonzero and xmax creator visible)"
unfoldable pub visible : Slot → Version → Bool
visible t v = creator_visible t v.xmin.0 && not (nonzero v.xmax.0 && creator_visible t v.xmax.0)

-- "Validation: a changed xmin conflicts; xmax 0 or own id does not; else xmax at or above snapshot xmax, or active, does". x is the recorded xmin
unfoldable pub conflict : Slot → Version → ℕ → Bool
conflict t v x =
    not (eqb v.xmin.0 x)
    || (nonzero v.xmax.0 && (not (eqb v.xmax.0 t.id) && (leb t.top v.xmax.0 || has v.xmax.0 t.active)))
