-- No record of the replay program is refused with 14: its buffers have an entry for each lent cell and row.
use Rattle.std.specs.Prelude.{ℕ, ◌≤◌, ◌≡◌, length}
use Rattle.std.proofs.Math.Option.{Option, none, some}
use Rattle.std.proofs.Common.{subst}
use Rattle.words.specs.Sizes.{base}
use Rattle.rules.specs.Numbers.{result_full}
use Rattle.rules.specs.Memory.{Mem}
use Rattle.rules.specs.Run.{Call, step}
use Rattle.rules.specs.EveryRefusal.{RefusedAs}
use Rattle.rules.specs.BufferForAll.{PlaceForAll}
use Rattle.rules.proofs.BufferForAll.{no_call_with_a_place_for_all_answers_14}
use Rattle.lines.specs.declared.Line.{Line}
use Rattle.perform.specs.Perform.{Rooms, call_of}

module _ (z : Rooms) (m : Mem base) (cells : length m.cells ≤ z.reports) (rows : length m.rows ≤ z.results) where
  abbrev PlaceFor : Option Call → Type 0
  PlaceFor none = Unit {0}
  PlaceFor (some c) = PlaceForAll m c

  place_for : (l : Line) → PlaceFor (call_of z l)
  place_for (Line.Store n r) = tt
  place_for Line.Begin = tt
  place_for (Line.Read slot id row) = tt
  place_for (Line.Write slot id row key) = tt
  place_for (Line.Delete slot id row) = tt
  place_for (Line.Commit slot id) = tt
  place_for (Line.Abort slot id) = tt
  place_for (Line.Vacuum row request) = cells
  place_for (Line.Find slot id key) = rows
  place_for Line.Other = tt

  pub no_record_is_refused_with_14 : (l : Line) (c : Call) → call_of z l ≡ some c → (x : ℕ) → RefusedAs (step c m).reply result_full x → ⊥
  no_record_is_refused_with_14 l c e x q = no_call_with_a_place_for_all_answers_14 m c (subst PlaceFor e (place_for l)) x q
