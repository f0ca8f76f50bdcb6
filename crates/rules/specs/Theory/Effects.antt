-- The effects of the calls, on views: what the theory is about.
use Rattle.std.specs.Prelude.{cond, ◌&&◌, List, [], ◌∷◌, ℕ, ◌+◌, eqb, set, get_or}
use Rattle.std.proofs.Math.Option.{Option}
use Rattle.kinds.specs.declared.Version.{Version}
use Rattle.words.specs.Lists.{nonzero, fold}
use Rattle.kinds.specs.Versions.{with_lock, with_xmax, with_next, version, keyed_of, key_of, empty_version}
use Rattle.words.specs.Slots.{Write, Slot, write}
use Rattle.rules.specs.Snapshot.{snap_low, snap_top}
use Rattle.rules.specs.Theory.SlotLaws.{with_write, new_slot}
use Rattle.rules.specs.Theory.View.{upd, View, empty_slot}

abbrev pub lock_v : ℕ → ℕ → (ℕ → Version) → ℕ → Version
lock_v b id f = cond (eqb b 0) f (upd f b (with_lock (f b) 1 id))

abbrev pub mark_v : ℕ → ℕ → (ℕ → Version) → ℕ → Version
mark_v id b f = cond (eqb b 0) f (upd f b (with_lock (with_xmax (f b) id) 0 0))

abbrev pub unlock_one_v : ℕ → Write → (ℕ → Version) → ℕ → Version
unlock_one_v id w f = cond (nonzero w.base && eqb (f w.base).owner.0 id) (upd f w.base (with_lock (f w.base) 0 0)) f

abbrev pub unlock_v : ℕ → List Write → (ℕ → Version) → ℕ → Version
unlock_v id ws f = fold (unlock_one_v id) ws f

unfoldable pub relink_v : List ℕ → (ℕ → Version) → ℕ → Version
relink_v [] f = f
relink_v (c ∷ []) f = upd f c (with_next (f c) 0)
relink_v (c ∷ d ∷ l) f = relink_v (d ∷ l) (upd f c (with_next (f c) d))

abbrev pub with_vers : View → (ℕ → Version) → View
with_vers st f = record { vers = f; links = st.links; heads = st.heads; free = st.free; clock = st.clock; slots = st.slots }

abbrev pub put_slot : View → ℕ → Slot → View
put_slot st s t = record { vers = st.vers; links = st.links; heads = st.heads; free = st.free; clock = st.clock; slots = set st.slots s t }

abbrev pub slot_v : View → ℕ → Slot
slot_v st s = get_or st.slots s empty_slot

abbrev pub prepare_v : ℕ → ℕ → ℕ → Option ℕ → View → View
prepare_v s id row v st =
    record {
      vers = upd (lock_v (st.heads row) id st.vers) st.free (version id 0 0 (keyed_of v) (key_of v) 0 0);
      links = upd st.links st.free 0;
      heads = st.heads;
      free = st.links st.free;
      clock = st.clock;
      slots = set st.slots s (with_write (slot_v st s) (write row (st.heads row) st.free));
    }

abbrev pub publish_v : ℕ → Write → View → View
publish_v id w st =
    let f = mark_v id w.base st.vers in
    record { vers = upd f w.new (with_next (f w.new) w.base); links = st.links; heads = upd st.heads w.row w.new; free = st.free; clock = st.clock; slots = st.slots }

abbrev pub publish_all_v : ℕ → List Write → View → View
publish_all_v id ws st = fold (publish_v id) ws st

abbrev pub give_v : ℕ → View → View
give_v c st = record { vers = upd st.vers c empty_version; links = upd st.links c st.free; heads = st.heads; free = c; clock = st.clock; slots = st.slots }

abbrev pub give_all_v : List ℕ → View → View
give_all_v l st = fold give_v l st

-- the ids, and the snapshot xmins, of the open slots
unfoldable pub ids_v : List Slot → List ℕ
ids_v [] = []
ids_v (t ∷ l) = cond (eqb t.id 0) (ids_v l) (t.id ∷ ids_v l)

unfoldable pub lows_v : List Slot → List ℕ
lows_v [] = []
lows_v (t ∷ l) = cond (eqb t.id 0) (lows_v l) (t.low ∷ lows_v l)

abbrev pub born_v : View → ℕ → List ℕ
born_v st s = ids_v (set st.slots s (new_slot st.clock 0 0 []))

abbrev pub begin_v : ℕ → View → View
begin_v s st =
    record {
      vers = st.vers;
      links = st.links;
      heads = st.heads;
      free = st.free;
      clock = st.clock + 1;
      slots = set st.slots s (new_slot st.clock (snap_low (st.clock + 1) (born_v st s)) (snap_top (st.clock + 1) (born_v st s)) (born_v st s));
    }
