-- A slot changes: it is closed, its cells loose then; or a transaction begins in it, and its snapshot sees what is committed.
use Prim.Native.Nat.{ℕ, ◌+◌}
use Rattle.words.specs.Slots.{Slot}
use Rattle.rules.specs.Snapshot.{snap_low, snap_top}
use Rattle.rules.specs.Theory.SlotLaws.{new_slot}
use Rattle.rules.specs.Theory.View.{View}
use Rattle.rules.specs.Theory.Effects.{born_v}

abbrev pub born_slot : View → ℕ → Slot
born_slot st i = new_slot st.clock (snap_low (st.clock + 1) (born_v st i)) (snap_top (st.clock + 1) (born_v st i)) (born_v st i)
