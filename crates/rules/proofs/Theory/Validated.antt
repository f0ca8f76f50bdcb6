-- On a store of which all holds, a record that stands is of its row's head: what was read is the last commit still.
use Rattle.std.specs.Prelude.{true, ◌≢◌, ◌≡◌, ℕ, ◌<◌, suc, get_or}
use Rattle.std.proofs.lemmas.Bool.{false≢true}
use mathlib.Core.List.{List, [], ◌∷◌}
use Rattle.std.proofs.Math.Logic.{⊎_elim}
use Rattle.std.proofs.Math.Path.{refl, sym}
use Rattle.std.proofs.Common.{ap, ◌∙◌, subst}
use borrow.Author.Tests.{ne_eqb, lt-ltb}
use Rattle.kinds.specs.declared.Version.{Version}
use Rattle.words.specs.Sizes.{Sizes}
use Rattle.kinds.specs.Versions.{version_at}
use Rattle.words.specs.Slots.{Slot, Rec}
use Rattle.rules.specs.Memory.{Mem, head_at, slot_at}
use Rattle.kinds.specs.Visible.{creator_visible}
use Rattle.rules.specs.Reachable.{All}
use Rattle.rules.specs.Validation.{Stands}
use Rattle.rules.proofs.Theory.Cases.{by_eq, and_true}
use Rattle.rules.specs.Theory.View.{View, view_of}
use Rattle.rules.proofs.Theory.View.{get_slots}
use Rattle.rules.specs.Theory.Effects.{slot_v}
use Rattle.rules.specs.Theory.Counting.{cnt}
use Rattle.rules.proofs.Theory.Counting.{cnt_other}
use Rattle.rules.specs.Theory.Inv.{Hist, vis, ver_of, Recorded, vers}
use Rattle.rules.proofs.Theory.Places.{placed_row}
use Rattle.rules.specs.Theory.Good.{Owner}
use Rattle.rules.proofs.Theory.Good.{Good, view_open}

module _ {z : Sizes} (R N : ℕ) (m : Mem z) (h : Hist) (gd : Good R N m h) (s id : ℕ) (o : Owner m s id) where
  abbrev st : View
  st = view_of m

  abbrev t : Slot
  t = slot_v (view_of m) s

  -- a version that is seen, and is not superseded by one that is not seen, is not superseded
  live : (v : Version) (q : Rec) → Stands t v q → vis t (ver_of v) ≡ true → ((x : ℕ) → v.xmax.0 ≡ x → x ≢ 0 → x ≢ t.id) → v.xmax.0 ≡ 0
  unfolding vis ver_of creator_visible
  live v q a seen shut = ⊎_elim (λ e. e)
      (λ b. by_eq v.xmax.0 0 (λ e. e) (λ nz. ⊎_elim
      (λ e. absurd (shut v.xmax.0 refl nz e))
      (λ c.
      let no = shut v.xmax.0 refl nz in
      let w = (and_true (creator_visible t v.xmin.0) _ seen).1 in
      absurd (false≢true (rw (ne_eqb v.xmax.0 0 nz, ne_eqb v.xmax.0 t.id no, lt-ltb v.xmax.0 t.top c.0, c.1) at w)))
      b))
      a.xmax

  in_head : (q : Rec) (l : List ℕ) → get_or gd.ghost.rows q.row [] ≡ l → q.row < R → Recorded (vers st) gd.ghost.rows t q → Stands t (st.vers q.cell) q → q.cell ≡ head_at m q.row
  unfolding ver_of cnt
  in_head q [] e lt rc a = absurd (rc.placed (ap (cnt q.cell) e))
  in_head q (c ∷ l) e lt rc a =
      let hd : head_at m q.row ≡ c = (rw e at (gd.inv.chain q.row lt)).0 in
      by_eq q.cell c (λ y. y ∙ sym hd)
      (λ ne.
      let k : cnt q.cell l ≢ 0 = λ y. rc.placed (ap (cnt q.cell) e ∙ cnt_other q.cell c l ne ∙ y) in
      let sx = (rw e at (gd.inv.tops q.row)).3 q.cell k in
      absurd (sx.nonzero (live (st.vers q.cell) q a rc.seen (λ x y nz w. sx.shut s (sym w ∙ sym y)))))

  all_heads_go : (l : List Rec) → All (Recorded (vers st) gd.ghost.rows t) l → All (λ q. Stands t (st.vers q.cell) q) l → All (λ (q : Rec). q.cell ≡ head_at m q.row) l
  all_heads_go [] a b = tt
  all_heads_go (q ∷ l) a b = (in_head q (get_or gd.ghost.rows q.row []) refl (placed_row R (suc N) st gd.ghost h [] q.row q.cell gd.inv a.0.placed) a.0 b.0, all_heads_go l a.1 b.1)

  pub standing_are_heads : All (λ q. Stands (slot_at m s) (version_at m.cells q.cell) q) (slot_at m s).recs → All (λ (q : Rec). q.cell ≡ head_at m q.row) (slot_at m s).recs
  standing_are_heads a =
      let e = get_slots z m.slots s o.slot in
      subst (λ (u : Slot). All (λ (q : Rec). q.cell ≡ head_at m q.row) u.recs) e
      (all_heads_go t.recs (gd.inv.opens s (view_open m s id o)).records
      (subst (λ (u : Slot). All (λ q. Stands u (version_at m.cells q.cell) q) u.recs) (sym e) a))
