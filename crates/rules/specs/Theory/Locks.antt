-- Locks: a nonzero base of an open write is its row's head, seen by its writer and locked for it, and nothing else is locked. Every effect
-- of a call keeps it.
use Rattle.std.specs.Prelude.{ℕ}
use Rattle.kinds.specs.declared.Version.{Version}

-- what a holder looks at of a version
pub record Part : Type 0 where
  pub flag : ℕ
  pub owner : ℕ
  pub xmin : ℕ
  pub xmax : ℕ

abbrev pub part_of : Version → Part
part_of v = record { flag = v.locked; owner = v.owner.0; xmin = v.xmin.0; xmax = v.xmax.0 }
