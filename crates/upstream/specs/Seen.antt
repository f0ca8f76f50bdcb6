-- 000's rules of visibility, in 000's own words and order, and what lies along a chain. 01's own rules are in `rules`, Visible.antt.
use Rattle.std.specs.Prelude.{ℕ, zero, suc, Bool, not, ◌&&◌, ◌||◌, cond, List, [], ◌∷◌, eqb, ltb, leb}
use Rattle.std.proofs.Math.Option.{Option, none, some}
use Rattle.kinds.specs.declared.Version.{Version}
use Rattle.words.specs.Lists.{has}
use Rattle.upstream.specs.Images.{Image, stored, Snapshot}

-- `creator_visible`: the reader's own id, or below snapshot xmin, or below snapshot xmax and not active
unfoldable pub creator_visible : ℕ → Snapshot → Bool
creator_visible x t = eqb x t.txid || (ltb x t.xmin || (ltb x t.xmax && not (has x t.active)))

-- `visible`: the creator is the reader; or it is visible, and xmax is 0, or another's and at or above snapshot xmax or active
unfoldable pub visible : Version → Snapshot → Bool
visible v t =
    eqb v.xmin.0 t.txid
    || (creator_visible v.xmin.0 t
    && (eqb v.xmax.0 0 || (not (eqb v.xmax.0 t.txid) && (leb t.xmax v.xmax.0 || has v.xmax.0 t.active))))

-- the first visible version along next from p, `most` versions at the most
unfoldable pub first_along : ℕ → Image → ℕ → Snapshot → Option ℕ
first_along zero s p t = none
first_along (suc most) s p t = cond (stored s p) (cond (visible (s.rows p) t) (some p) (first_along most s (s.rows p).next.0 t)) none

-- `first_visible`: the first visible version along next from p, if any. In a valid image no chain has more versions than there are cells
abbrev pub first_visible : Image → ℕ → Snapshot → Option ℕ
first_visible s p t = first_along s.cells s p t

-- the cells along next from p, `most` at the most
unfoldable pub along : ℕ → Image → ℕ → List ℕ
along zero s p = []
along (suc most) s p = cond (stored s p) (p ∷ along most s (s.rows p).next.0) []

-- `reachable`: the cells of the chain from p, in chain order
abbrev pub reachable : Image → ℕ → List ℕ
reachable s p = along s.cells s p
