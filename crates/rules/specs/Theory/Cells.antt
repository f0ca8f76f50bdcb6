-- Cells given back, locks set and cleared, and of these the whole abort.
use Rattle.std.specs.Prelude.{ℕ}
use Rattle.rules.specs.Abort.{news}
use Rattle.rules.specs.Theory.View.{View, empty_slot}
use Rattle.rules.specs.Theory.Effects.{give_all_v, with_vers, slot_v, unlock_v, put_slot}

abbrev pub abort_v : ℕ → View → View
abort_v i st = give_all_v (news (slot_v st i).writes) (put_slot (with_vers st (unlock_v (slot_v st i).id (slot_v st i).writes st.vers)) i empty_slot)
