-- One equation for each effect: the view after a store of the arenas is the effect on the view before.
use Rattle.std.specs.Prelude.{Bool, ◌&&◌, cond, false, true, List, [], ◌∷◌, map, ◌≢◌, ◌≡◌, refl, eqb, set, get_or, take}
use Rattle.std.proofs.Common.{true≢false, ◌∙◌, sym, arith, eq-eqb, ne_eqb}
use Rattle.std.proofs.Math.Option.{Option}
use Rattle.std.proofs.Math.Path.{ap}
use Prim.Native.Nat.{ℕ, ◌<◌, ◌+◌, ◌≤◌, zero, suc}
use Rattle.std.proofs.Math.ListN.{length, length-set}
use Rattle.std.proofs.Math.Seq.{get_or-set_same, get_or-set_other}
use Rattle.kinds.specs.declared.Version.{Version}
use Rattle.words.specs.Sizes.{Sizes, READS, WRITES, FREE, CLOCK, ID, LOW}
use Rattle.words.specs.Lists.{fold, nonzero}
use Rattle.kinds.specs.Versions.{version, version_at, link_at, put_version, keyed_of, key_of, with_value, with_next, empty_version, with_lock}
use Rattle.words.specs.Slots.{Slot, slot_of, emptied, Rec, add_recs, write, add_write, Write}
use Rattle.rules.specs.Memory.{Mem, with_slot, head_at, free, clock, words_at}
use Rattle.rules.specs.Snapshot.{occupied, snap_low, snap_top}
use Rattle.rules.specs.Begin.{begin_words, ids_with, begun}
use Rattle.rules.specs.Write.{lock_base, prepared, replaced}
use Rattle.rules.specs.Commit.{mark_base, publish, publish_all}
use Rattle.rules.specs.Abort.{give_back, unlock_base}
use Rattle.rules.specs.Vacuum.{relink}
use Rattle.rules.proofs.Theory.Cases.{by_eq, by_bool}
use Rattle.rules.specs.Theory.SlotLaws.{with_recs, with_write, SlotOk, new_slot}
use Rattle.rules.proofs.Theory.SlotLaws.{slot_emptied, slot_recs, slot_write, ok_opened, slot_opened}
use Rattle.rules.specs.Theory.CellLaws.{HasCell}
use Rattle.rules.proofs.Theory.CellLaws.{length_put}
use Rattle.rules.specs.Theory.Shape.{Shaped}
use Rattle.rules.specs.Theory.View.{view_of, slots_of, empty_slot, upd}
use Rattle.rules.proofs.Theory.View.{set_slots, get_slots, put_vers, keep_links, put_links, set_word}
use Rattle.rules.specs.Theory.Effects.{put_slot, slot_v, lock_v, mark_v, prepare_v, with_vers, publish_v, publish_all_v, give_v, give_all_v, relink_v, unlock_v, ids_v, lows_v, begin_v, born_v}
use Rattle.rules.specs.Theory.Bridge.{WriteIn, AllIn, AllCells, BasesIn}

module _ {z : Sizes} (m : Mem z) (s : ℕ) (lt : s < z.slots) where
  -- a slot stored
  view_slot : (t : List ℕ) (u : Slot) → slot_of z t ≡ u → view_of (with_slot m s t) ≡ put_slot (view_of m) s u
  view_slot t u e = λ i. record { vers = version_at m.cells; links = link_at m.cells; heads = head_at m; free = free m; clock = clock m; slots = (set_slots z m.slots s t ∙ ap (set (slots_of z m.slots) s) e) i }

  pub view_close : view_of (with_slot m s (emptied z)) ≡ put_slot (view_of m) s empty_slot
  view_close = view_slot (emptied z) empty_slot (slot_emptied z)

  pub view_recs : Shaped m → (l : List Rec) → get_or (words_at m s) (READS z) 0 + length l ≤ z.reads → view_of (with_slot m s (add_recs z l (words_at m s))) ≡ put_slot (view_of m) s (with_recs (slot_v (view_of m) s) l)
  view_recs sh l le = rw (get_slots z m.slots s lt) (view_slot _ _ (slot_recs l (words_at m s) (sh.slots.each s lt) le).0)

-- a version of a cell that there is
module _ (cs : List (List ℕ)) (c : ℕ) (v : Version) (h : HasCell cs c) where
  pub version_vers : version_at (put_version cs c v) ≡ upd (version_at cs) c v
  version_vers = put_vers cs c v (link_at cs c) h

  pub version_links : link_at (put_version cs c v) ≡ link_at cs
  version_links = keep_links cs c v h

pub has_cell : (cs : List (List ℕ)) (b : ℕ) → b ≤ length cs → b ≢ 0 → HasCell cs b
has_cell cs b le z = record { low = omega arith; high = le }

module _ (cs : List (List ℕ)) (b id : ℕ) (le : b ≤ length cs) where
  pub length_lock : length (lock_base cs b id) ≡ length cs
  unfolding lock_base
  length_lock = by_eq b 0 (λ z. rw (eq-eqb b 0 z)) (λ z. rw (ne_eqb b 0 z) (length_put cs b _ _))

  pub lock_vers : version_at (lock_base cs b id) ≡ lock_v b id (version_at cs)
  unfolding lock_base
  lock_vers = by_eq b 0 (λ z. rw (eq-eqb b 0 z)) (λ z. rw (ne_eqb b 0 z) (version_vers cs b _ (has_cell cs b le z)))

  pub lock_links : link_at (lock_base cs b id) ≡ link_at cs
  unfolding lock_base
  lock_links = by_eq b 0 (λ z. rw (eq-eqb b 0 z)) (λ z. rw (ne_eqb b 0 z) (version_links cs b _ (has_cell cs b le z)))

  pub mark_vers : version_at (mark_base id b cs) ≡ mark_v id b (version_at cs)
  unfolding mark_base
  mark_vers = by_eq b 0 (λ z. rw (eq-eqb b 0 z)) (λ z. rw (ne_eqb b 0 z) (version_vers cs b _ (has_cell cs b le z)))

  pub mark_links : link_at (mark_base id b cs) ≡ link_at cs
  unfolding mark_base
  mark_links = by_eq b 0 (λ z. rw (eq-eqb b 0 z)) (λ z. rw (ne_eqb b 0 z) (version_links cs b _ (has_cell cs b le z)))

  pub length_mark : length (mark_base id b cs) ≡ length cs
  unfolding mark_base
  length_mark = by_eq b 0 (λ z. rw (eq-eqb b 0 z)) (λ z. rw (ne_eqb b 0 z) (length_put cs b _ _))

-- write
module _ {z : Sizes} (m : Mem z) (s id row : ℕ) (v : Option ℕ) (sh : Shaped m) (lt : s < z.slots) (few : get_or (words_at m s) (WRITES z) 0 < z.writes)
    (fr : HasCell m.cells (free m)) (hd : head_at m row ≤ length m.cells) where
  pub view_prepared : view_of (prepared m s id row v) ≡ prepare_v s id row v (view_of m)
  unfolding prepared
  view_prepared =
      let cs = lock_base m.cells (head_at m row) id in
      let w = write row (head_at m row) (free m) in
      let v' = version id 0 0 (keyed_of v) (key_of v) 0 0 in
      let h : HasCell cs (free m) = record { low = fr.low; high = rw (length_lock m.cells (head_at m row) id hd) fr.high } in
      λ i.
      record {
        vers = (put_vers cs (free m) v' 0 h ∙ ap (λ (f : ℕ → Version). upd f (free m) v') (lock_vers m.cells (head_at m row) id hd)) i;
        links = (put_links cs (free m) v' 0 h ∙ ap (λ (f : ℕ → ℕ). upd f (free m) 0) (lock_links m.cells (head_at m row) id hd)) i;
        heads = head_at m;
        free = get_or-set_same m.meta FREE (link_at m.cells (free m)) 0 sh.metas i;
        clock = get_or-set_other m.meta FREE CLOCK (link_at m.cells (free m)) 0 (omega arith) i;
        slots = (set_slots z m.slots s (add_write z w (words_at m s)) ∙ ap (set (slots_of z m.slots) s) (slot_write (words_at m s) (sh.slots.each s lt) w few ∙ ap (λ (t : Slot). with_write t w) (sym (get_slots z m.slots s lt)))) i;
      }

pub view_replaced : {z : Sizes} (m : Mem z) (c : ℕ) (v : Option ℕ) → HasCell m.cells c → view_of (replaced m c v) ≡ with_vers (view_of m) (upd (version_at m.cells) c (with_value (version_at m.cells c) v))
view_replaced {z} m c v h =
    let u = with_value (version_at m.cells c) v in
    λ i.
    record { vers = version_vers m.cells c u h i; links = version_links m.cells c u h i; heads = head_at m; free = free m; clock = clock m; slots = slots_of z m.slots }

module _ {z : Sizes} (id : ℕ) (w : Write) (m : Mem z) (k : WriteIn m w) where
  pub view_publish : view_of (publish id w m) ≡ publish_v id w (view_of m)
  unfolding publish
  view_publish =
      let cs = mark_base id w.base m.cells in
      let h : HasCell cs w.new = record { low = k.new_in.low; high = rw (length_mark m.cells w.base id k.base_in) k.new_in.high } in
      let e = mark_vers m.cells w.base id k.base_in in
      λ i.
      record {
        vers = (version_vers cs w.new (with_next (version_at cs w.new) w.base) h ∙ ap (λ (f : ℕ → Version). upd f w.new (with_next (f w.new) w.base)) e) i;
        links = (version_links cs w.new (with_next (version_at cs w.new) w.base) h ∙ mark_links m.cells w.base id k.base_in) i;
        heads = set_word m.rows w.row w.new k.row_in i;
        free = free m;
        clock = clock m;
        slots = slots_of z m.slots;
      }

  pub publish_in : (x : Write) → WriteIn m x → WriteIn (publish id w m) x
  unfolding publish
  publish_in x a =
      let e : length (put_version (mark_base id w.base m.cells) w.new (with_next (version_at (mark_base id w.base m.cells) w.new) w.base)) ≡ length m.cells = length_put _ w.new _ _ ∙ length_mark m.cells w.base id k.base_in in
      record { row_in = simp length-set a.row_in; base_in = rw e a.base_in; new_in = record { low = a.new_in.low; high = rw e a.new_in.high } }

all_in : {z : Sizes} (m n : Mem z) → ((x : Write) → WriteIn m x → WriteIn n x) → (l : List Write) → AllIn m l → AllIn n l
all_in m n f [] a = tt
all_in m n f (w ∷ l) a = (f w a.0, all_in m n f l a.1)

pub view_publish_all : {z : Sizes} (id : ℕ) (l : List Write) (m : Mem z) → AllIn m l → view_of (publish_all id l m) ≡ publish_all_v id l (view_of m)
unfolding fold
view_publish_all id [] m a = refl
view_publish_all id (w ∷ l) m a = view_publish_all id l (publish id w m) (all_in m (publish id w m) (publish_in id w m a.0) l a.1) ∙ ap (publish_all_v id l) (view_publish id w m a.0)

-- abort, vacuum
pub view_give : {z : Sizes} (c : ℕ) (m : Mem z) → HasCell m.cells c → FREE < length m.meta → view_of (give_back c m) ≡ give_v c (view_of m)
unfolding give_back
view_give {z} c m h l = λ i. record { vers = put_vers m.cells c empty_version (free m) h i; links = put_links m.cells c empty_version (free m) h i; heads = head_at m; free = get_or-set_same m.meta FREE c 0 l i; clock = get_or-set_other m.meta FREE CLOCK c 0 (omega arith) i; slots = slots_of z m.slots }

pub all_cells : (cs ds : List (List ℕ)) → length ds ≡ length cs → (l : List ℕ) → AllCells cs l → AllCells ds l
all_cells cs ds e [] a = tt
all_cells cs ds e (c ∷ l) a = (record { low = a.0.low; high = rw e a.0.high }, all_cells cs ds e l a.1)

give_length : {z : Sizes} (c : ℕ) (m : Mem z) → length (give_back c m).cells ≡ length m.cells
unfolding give_back
give_length c m = length_put m.cells c empty_version (free m)

give_meta : {z : Sizes} (c : ℕ) (m : Mem z) → length (give_back c m).meta ≡ length m.meta
unfolding give_back
give_meta c m = length-set m.meta FREE c

pub view_give_all : {z : Sizes} (l : List ℕ) (m : Mem z) → AllCells m.cells l → FREE < length m.meta → view_of (fold give_back l m) ≡ give_all_v l (view_of m)
unfolding fold
view_give_all [] m a h = refl
view_give_all (c ∷ l) m a h = view_give_all l (give_back c m) (all_cells m.cells (give_back c m).cells (give_length c m) l a.1) (rw (give_meta c m) h) ∙ ap (give_all_v l) (view_give c m a.0 h)

pub relink_vers : (l : List ℕ) (cs : List (List ℕ)) → AllCells cs l → (version_at (relink l cs) ≡ relink_v l (version_at cs)) × (link_at (relink l cs) ≡ link_at cs)
unfolding relink relink_v
relink_vers [] cs a = (refl, refl)
relink_vers (c ∷ []) cs a = (version_vers cs c _ a.0, version_links cs c (with_next (version_at cs c) 0) a.0)
relink_vers (c ∷ d ∷ l) cs a =
    let v = with_next (version_at cs c) d in
    let r = relink_vers (d ∷ l) (put_version cs c v) (all_cells cs (put_version cs c v) (length_put cs c v _) (d ∷ l) a.1) in
    (r.0 ∙ ap (relink_v (d ∷ l)) (version_vers cs c v a.0), r.1 ∙ version_links cs c v a.0)

unlock_one : (cs : List (List ℕ)) (b id : ℕ) → b ≤ length cs → (t : Bool) → t ≡ nonzero b && eqb (version_at cs b).owner.0 id →
    (version_at (cond t (put_version cs b (with_lock (version_at cs b) 0 0)) cs) ≡ cond t (upd (version_at cs) b (with_lock (version_at cs b) 0 0)) (version_at cs))
    × (link_at (cond t (put_version cs b (with_lock (version_at cs b) 0 0)) cs) ≡ link_at cs)
    × (length (cond t (put_version cs b (with_lock (version_at cs b) 0 0)) cs) ≡ length cs)
unlock_one cs b id le false e = (refl, refl, refl)
unlock_one cs b id le true e =
    let z : b ≢ 0 = λ q. let y : ◌≡◌ {A = Bool} true false = e ∙ rw (eq-eqb b 0 q) in true≢false y in
    (version_vers cs b (with_lock (version_at cs b) 0 0) (has_cell cs b le z), version_links cs b (with_lock (version_at cs b) 0 0) (has_cell cs b le z), length_put cs b _ _)

bases_in : (cs ds : List (List ℕ)) → length ds ≡ length cs → (l : List Write) → BasesIn cs l → BasesIn ds l
bases_in cs ds e [] a = tt
bases_in cs ds e (w ∷ l) a = (rw e a.0, bases_in cs ds e l a.1)

pub unlock_vers : (id : ℕ) (l : List Write) (cs : List (List ℕ)) → BasesIn cs l → (version_at (fold (unlock_base id) l cs) ≡ unlock_v id l (version_at cs)) × (link_at (fold (unlock_base id) l cs) ≡ link_at cs) × (length (fold (unlock_base id) l cs) ≡ length cs)
unfolding fold unlock_base
unlock_vers id [] cs a = (refl, refl, refl)
unlock_vers id (w ∷ l) cs a =
    let t = nonzero w.base && eqb (version_at cs w.base).owner.0 id in
    let ds = cond t (put_version cs w.base (with_lock (version_at cs w.base) 0 0)) cs in
    let u = unlock_one cs w.base id a.0 t refl in
    let r = unlock_vers id l ds (bases_in cs ds u.2 l a.1) in
    (r.0 ∙ ap (unlock_v id l) u.0, r.1 ∙ u.1, r.2 ∙ u.2)

-- begin
pub ids_are : (z : Sizes) (l : List (List ℕ)) → occupied ID l ≡ ids_v (map (slot_of z) l)
unfolding occupied ids_v slot_of
ids_are z [] = refl
ids_are z (t ∷ l) = rw (ids_are z l)

pub lows_are : (z : Sizes) (l : List (List ℕ)) → occupied LOW l ≡ lows_v (map (slot_of z) l)
unfolding occupied lows_v slot_of
lows_are z [] = refl
lows_are z (t ∷ l) = rw (lows_are z l)

ids_set : (z : Sizes) (k : ℕ) (l : List (List ℕ)) (i : ℕ) (u : List ℕ) (t : Slot) → get_or u ID 0 ≡ t.id → occupied ID (take k (set l i u)) ≡ ids_v (set (map (slot_of z) (take k l)) i t)
unfolding occupied ids_v slot_of
ids_set z zero l i u t e = refl
ids_set z (suc k) [] i u t e = refl
ids_set z (suc k) (w ∷ l) zero u t e = rw (e, ids_are z (take k l))
ids_set z (suc k) (w ∷ l) (suc i) u t e = rw (ids_set z k l i u t e)

pub few_ids : (k j : ℕ) (l : List (List ℕ)) → length (occupied j (take k l)) ≤ k
unfolding occupied
few_ids zero j l = omega arith
few_ids (suc k) j [] = omega arith
few_ids (suc k) j (t ∷ l) = by_bool (eqb (get_or t ID 0) 0) (λ e. rw e (omega (arith, few_ids k j l))) (λ e. rw e (omega (arith, few_ids k j l)))

pub begin_ok : {z : Sizes} (m : Mem z) (s : ℕ) → Shaped m → s < z.slots → SlotOk z (begin_words m s)
unfolding begin_words ids_with
begin_ok {z} m s sh lt = ok_opened (words_at m s) (sh.slots.each s lt) (clock m) _ _ (ids_with m s) (few_ids z.slots ID (set m.slots s (set (words_at m s) ID (clock m))))

pub view_begin : {z : Sizes} (m : Mem z) (s : ℕ) → Shaped m → s < z.slots → view_of (begun m s) ≡ begin_v s (view_of m)
unfolding begin_words ids_with slots_of
view_begin {z} m s sh lt =
    let t = words_at m s in
    let ids = ids_with m s in
    let ok = sh.slots.each s lt in
    let e : ids ≡ born_v (view_of m) s = ids_set z z.slots m.slots s (set t ID (clock m)) (new_slot (clock m) 0 0 []) (get_or-set_same t ID (clock m) 0 (omega (arith, ok.long))) in
    λ i.
    record {
      vers = version_at m.cells;
      links = link_at m.cells;
      heads = head_at m;
      free = get_or-set_other m.meta CLOCK FREE (clock m + 1) 0 (omega arith) i;
      clock = get_or-set_same m.meta CLOCK (clock m + 1) 0 (omega (arith, sh.metas)) i;
      slots =
          (set_slots z m.slots s (begin_words m s)
          ∙ ap (set (slots_of z m.slots) s)
          (slot_opened t ok (clock m) (snap_low (clock m + 1) ids) (snap_top (clock m + 1) ids) ids (few_ids z.slots ID (set m.slots s (set t ID (clock m))))
          ∙ ap (λ (l : List ℕ). new_slot (clock m) (snap_low (clock m + 1) l) (snap_top (clock m + 1) l) l) e)) i;
    }
