-- 14 is of the caller's buffer alone: a report buffer with an entry for each lent cell, and a result buffer with one for each lent row, are
-- never too short, on any memory.
use Rattle.std.specs.Prelude.{◌≤◌, length}
use Rattle.words.specs.Sizes.{Sizes}
use Rattle.rules.specs.Memory.{Mem}
use Rattle.rules.specs.Run.{Call, create, begin, read, write, commit, abort, vacuum, lookup, lookup_all}

-- ---- any call
-- the call's buffer, where it has one, has an entry for each lent cell or row
abbrev pub PlaceForAll : {z : Sizes} → Mem z → Call → Type 0
PlaceForAll m (vacuum row request room) = length m.cells ≤ room
PlaceForAll m (lookup s id key cands room) = length m.rows ≤ room
PlaceForAll m (lookup_all s id key room) = length m.rows ≤ room
PlaceForAll m (create n r) = Unit {0}
PlaceForAll m begin = Unit {0}
PlaceForAll m (read s id row) = Unit {0}
PlaceForAll m (write s id row v) = Unit {0}
PlaceForAll m (commit s id) = Unit {0}
PlaceForAll m (abort s id) = Unit {0}
