-- Validation: what an accepted commit has tested of every record, on any memory.
use Rattle.std.specs.Prelude.{false, ◌⊎◌, ◌<◌}
use Rattle.std.proofs.Math.Path.{◌≡◌}
use Rattle.kinds.specs.declared.Version.{Version}
use Rattle.words.specs.Lists.{has}
use Rattle.words.specs.Slots.{Slot, Rec}

-- the version that record q read stands as it was read: its xmin is the recorded one, and it is not superseded by one that the reader t
-- does not see
pub record Stands (t : Slot) (v : Version) (q : Rec) : Type 0 where
  pub xmin : v.xmin.0 ≡ q.xmin
  pub xmax : (v.xmax.0 ≡ 0) ⊎ ((v.xmax.0 ≡ t.id) ⊎ ((v.xmax.0 < t.top) × (has v.xmax.0 t.active ≡ false)))
