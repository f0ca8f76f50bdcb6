-- What the horizon protects: a reader whose snapshot xmin is at or above it sees no eligible version. Under 01's rule that holds of every
-- such reader; under 000's it needs that the version is not the reader's own, since 000 sees an own version whatever its xmax.
use Rattle.std.specs.Prelude.{Bool}
use Rattle.kinds.specs.declared.Version.{Version}
use Rattle.words.specs.Slots.{Slot}
use Rattle.kinds.specs.Visible as Here
use Rattle.upstream.specs.Images.{Snapshot}
use Rattle.upstream.specs.Seen.{visible}

-- the two rules as tests of a version
abbrev pub sees01 : Slot → Version → Bool
sees01 t v = Here.visible t v

abbrev pub sees000 : Snapshot → Version → Bool
sees000 t v = visible v t
