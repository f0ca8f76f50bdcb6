-- A slot's write set or read records change, and nothing else of it.
use mathlib.Core.List.{List}
use Rattle.std.specs.Prelude.{ℕ}
use Rattle.words.specs.Slots.{Write, Rec, Slot}
use Rattle.rules.specs.Theory.View.{View}
use Rattle.rules.specs.Theory.Effects.{slot_v}

abbrev pub reslot : View → ℕ → List Write → List Rec → Slot
reslot st i ws rs = record { id = (slot_v st i).id; top = (slot_v st i).top; low = (slot_v st i).low; active = (slot_v st i).active; writes = ws; recs = rs }
