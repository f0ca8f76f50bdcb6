-- A write that adds an entry: the head is locked, the free list's first cell is handed out, and entered into the write set.
use Prim.Native.Nat.{ℕ}
use Rattle.kinds.specs.declared.Version.{Version}
use Rattle.rules.specs.Theory.View.{View, upd}

-- cell c handed out with version v
abbrev pub take_v : ℕ → Version → View → View
take_v c v st = record { vers = upd st.vers c v; links = upd st.links c 0; heads = st.heads; free = st.links c; clock = st.clock; slots = st.slots }
