-- What an accepted commit replaces is what its transaction saw: of every row that it wrote, the last commit is still the one made before it began.
use Rattle.std.proofs.Math.Bool.{true}
use mathlib.Core.List.{List, [], ◌∷◌}
use Rattle.std.specs.Prelude.{◌≢◌, ◌≡◌, refl, ℕ, ◌<◌, get_or}
use Rattle.std.proofs.Math.Option.{some}
use Rattle.std.proofs.Common.{◌∙◌}
use Rattle.std.proofs.Math.Path.{sym, subst}
use Rattle.words.specs.Sizes.{Sizes}
use Rattle.kinds.specs.Versions.{version_at}
use Rattle.words.specs.Slots.{Slot, Write}
use Rattle.rules.specs.Memory.{Mem, head_at, slot_at}
use Rattle.kinds.specs.Visible.{visible}
use Rattle.rules.specs.Reachable.{All, sees_at}
use Rattle.rules.specs.Theory.View.{View, view_of}
use Rattle.rules.proofs.Theory.View.{get_slots}
use Rattle.rules.specs.Theory.Effects.{slot_v}
use Rattle.rules.specs.Theory.Inv.{Hist, Open, pick, vis, vers, Ver, Entries}
use Rattle.rules.proofs.Theory.Inv.{vis_is, all_map}
use Rattle.rules.specs.Theory.CommitView.{Tested}
use Rattle.rules.proofs.Theory.Locks.{Holds}
use Rattle.rules.specs.Theory.Good.{Owner}
use Rattle.rules.proofs.Theory.Good.{Good, view_open}

module _ {z : Sizes} (R N : ℕ) (m : Mem z) (h : Hist) (gd : Good R N m h) (s id : ℕ) (o : Owner m s id) where
  abbrev st : View
  st = view_of m

  abbrev t : Slot
  t = slot_v (view_of m) s

  abbrev q : Open R (view_of m) gd.ghost h s
  q = gd.inv.opens s (view_open m s id o)

  row_same : (w : Write) (l : List ℕ) → get_or gd.ghost.rows w.row [] ≡ l → w.row < R → Holds st t w → st.heads w.row ≡ w.base → h.last w.row ≡ h.view s w.row
  unfolding pick
  row_same w [] e lt a hb = (rw e at (gd.inv.tops w.row)) ∙ (rw e at (q.reads w.row))
  row_same w (c ∷ l) e lt a hb =
      let ch = rw e at (gd.inv.chain w.row lt) in
      let bc : w.base ≡ c = sym hb ∙ ch.0 in
      let sees : vis t (vers st c) ≡ true = subst (λ (x : ℕ). vis t (vers st x) ≡ true) bc (sym (vis_is t (st.vers w.base)) ∙ (a (λ y. ch.1 (sym bc ∙ y))).seen) in
      let shows : some (vers st c).val ≡ h.view s w.row = rw sees at (rw e at (q.reads w.row)) in
      (rw e at (gd.inv.tops w.row)).2 ∙ shows

  rows_same : (f : ℕ → Ver) (k : ℕ) (ws : List Write) → Entries f R k ws → All (Holds st t) ws → Tested st.heads ws → All (λ (w : Write). h.last w.row ≡ h.view s w.row) ws
  rows_same f k [] en a ts = tt
  rows_same f k (w ∷ l) en a ts = (row_same w (get_or gd.ghost.rows w.row []) refl en.0 a.0 ts.0, rows_same f k l en.4 a.1 ts.1)

  pub tested_saw : Tested (head_at m) (slot_at m s).writes → All (λ (w : Write). h.last w.row ≡ h.view s w.row) (slot_at m s).writes
  tested_saw ts =
      let e = get_slots z m.slots s o.slot in
      subst (λ (u : Slot). All (λ (w : Write). h.last w.row ≡ h.view s w.row) u.writes) e
      (rows_same (vers st) t.id t.writes q.entries (gd.locks.held s (view_open m s id o)) (subst (λ (u : Slot). Tested (head_at m) u.writes) (sym e) ts))

  pub bases_seen : All (λ w. w.base ≢ 0 → sees_at m s w.base ≡ true) (slot_at m s).writes
  bases_seen =
      let e = get_slots z m.slots s o.slot in
      subst (λ (u : Slot). All (λ w. w.base ≢ 0 → visible u (version_at m.cells w.base) ≡ true) u.writes) e
      (all_map _ _ t.writes (λ w a nz. (a nz).seen) (gd.locks.held s (view_open m s id o)))
