-- What 000's terms say of a reachable store is what its history says: `selected_value`, and the records of an open reader.
use Rattle.std.specs.Prelude.{ℕ, ◌<◌, suc, false, ◌≢◌, ◌≡◌, refl, get_or}
use Rattle.std.proofs.Math.Bool.{true}
use mathlib.Core.List.{List, [], ◌∷◌}
use Rattle.std.proofs.Math.Option.{Option, none, some}
use Rattle.std.proofs.Math.Path.{sym, ap, subst}
use Rattle.std.proofs.Common.{◌∙◌}
use Rattle.kinds.specs.declared.Version.{Version}
use Rattle.words.specs.Sizes.{Sizes, Roomy}
use Rattle.words.specs.Lists.{first}
use Rattle.kinds.specs.Versions.{version_at}
use Rattle.words.specs.Slots.{Slot, Write, Rec}
use Rattle.rules.specs.Memory.{Mem, head_at, slot_at}
use Rattle.kinds.specs.Visible as ours
use Rattle.rules.specs.Read.{own}
use Rattle.rules.specs.History.{Log, who_in, rows_in, cells_in, own_in, view_in, value_in}
use Rattle.rules.specs.Reachable.{Reachable, All, chain_at, sees_at}
use Rattle.rules.proofs.Theory.Cases.{by_eq, by_bool, no_both}
use Rattle.rules.specs.Theory.View.{view_of}
use Rattle.rules.proofs.Theory.View.{get_slots}
use Rattle.rules.specs.Theory.Effects.{slot_v}
use Rattle.rules.specs.Theory.Counting.{cnt}
use Rattle.rules.proofs.Theory.Counting.{cnt_other}
use Rattle.rules.specs.Theory.Inv.{ver_of, vers, vis, pick, Single, Open, Recorded}
use Rattle.rules.proofs.Theory.Inv.{vis_is, all_map}
use Rattle.rules.proofs.Theory.Places.{placed_row}
use Rattle.rules.specs.Theory.Publish.{vers_f}
use Rattle.rules.specs.Theory.Reading.{Own}
use Rattle.rules.proofs.Theory.Reading.{own_is}
use Rattle.rules.specs.Theory.Good.{Owner}
use Rattle.rules.proofs.Theory.Never.{open_slot}
use Rattle.rules.proofs.Theory.Facts.{at_row}
use Rattle.rules.specs.Theory.Steps.{hist_of}
use Rattle.rules.proofs.Theory.Steps.{Sound}
use Rattle.rules.proofs.Theory.ReadLaw.{reachable_sound}
use Rattle.upstream.specs.Images.{Image, image_of, snapshot}
use Rattle.upstream.specs.Seen.{first_visible}
use Rattle.upstream.specs.Transactions.{last_write, selected_value, value_at}
use Rattle.upstream.specs.ReadTerms.{Observed}
use Rattle.upstream.specs.Reading.{new_of}
use Rattle.upstream.proofs.Reading.{latest_pending_is_last_write, first_visible_agrees, seen_is_stored}
use Rattle.upstream.specs.Told.{told_by}

picked_is : (t : Slot) (f : ℕ → Version) (s : Image) → s.rows ≡ f → (l : List ℕ) → value_at s (first (λ c. ours.visible t (f c)) l) ≡ told_by (pick t (vers_f f) l)
unfolding first pick ver_of
picked_is t f s e [] = refl
picked_is t f s e (c ∷ l) = by_bool (ours.visible t (f c))
    (λ q. let q' : vis t (ver_of (f c)) ≡ true = sym (vis_is t (f c)) ∙ q in rw (q, q', e))
    (λ q. let q' : vis t (ver_of (f c)) ≡ false = sym (vis_is t (f c)) ∙ q in rw (q, q') (picked_is t f s e l))

-- where a reader sees at most one version of a chain, one that it sees is the first
single_first : (t : Slot) (f : ℕ → Version) (l : List ℕ) (c : ℕ) → Single t (vers_f f) l → cnt c l ≢ 0 → ours.visible t (f c) ≡ true → first (λ d. ours.visible t (f d)) l ≡ some c
unfolding first cnt
single_first t f [] c s nz v = absurd (nz refl)
single_first t f (d ∷ l) c s nz v = by_eq c d
    (λ e. rw (← e, v))
    (λ ne.
    let in_tail : cnt c l ≢ 0 = λ y. nz (cnt_other c d l ne ∙ y) in
    by_bool (ours.visible t (f d))
    (λ q. absurd (no_both _ v (vis_is t (f c) ∙ s.0 (sym (vis_is t (f d)) ∙ q) c in_tail)))
    (λ q. rw q (single_first t f l c s.1 in_tail v)))

module _ {z : Sizes} (rm : Roomy z) (m : Mem z) (l : Log) (rc : Reachable m l) (s : ℕ) (op : who_in l s ≢ 0) where
  abbrev so : Sound m l
  so = reachable_sound rm m l rc

  abbrev t : Slot
  t = slot_at m s

  abbrev f : ℕ → Version
  f = version_at m.cells

  abbrev o : Owner m s (who_in l s)
  o = open_slot (rows_in l) (cells_in l) m (hist_of l) so s (who_in l s) op refl

  at_slot : slot_v (view_of m) s ≡ t
  at_slot = get_slots z m.slots s o.slot

  abbrev opened : Open (rows_in l) (view_of m) so.ghost (hist_of l) s
  opened = so.inv.opens s (rw (so.inv.known s) op)

  -- what a snapshot finds in the image is what the history says stood when its transaction began
  pub first_visible_is_history : (row : ℕ) → row < rows_in l → value_at (image_of m) (first_visible (image_of m) (head_at m row) (snapshot t)) ≡ told_by (view_in l s row)
  first_visible_is_history row in_r =
      ap (value_at (image_of m)) (first_visible_agrees rm m l rc s row op in_r)
      ∙ picked_is t f (image_of m) refl (chain_at m row).cells
      ∙ ap (λ (x : List ℕ). told_by (pick t (vers (view_of m)) x)) (sym (at_row (rows_in l) (cells_in l) m (hist_of l) so row in_r))
      ∙ ap (λ (x : Slot). told_by (pick x (vers (view_of m)) (get_or so.ghost.rows row []))) (sym at_slot)
      ∙ ap told_by (opened.reads row)

  told_own : (row : ℕ) → row < rows_in l → (x : Option Write) → own t.writes row ≡ x → Own (vers (view_of m)) (slot_v (view_of m) s).writes row x → selected_value (image_of m) t row ≡ told_by (value_in l s row)
  unfolding ver_of
  told_own row in_r none e k =
      let w : last_write t.writes row ≡ none = sym (latest_pending_is_last_write t.writes row) ∙ ap new_of e in
      let v : own_in l s row ≡ none = sym (opened.owns row) ∙ k in
      rw (w, v) (first_visible_is_history row in_r)
  told_own row in_r (some x) e k =
      let w : last_write t.writes row ≡ some x.new = sym (latest_pending_is_last_write t.writes row) ∙ ap new_of e in
      let v : own_in l s row ≡ some (ver_of (f x.new)).val = sym (opened.owns row) ∙ k.0 in
      rw (w, v)

  -- `selected_value` is the own last accepted write, else the last commit before the transaction began, else nothing
  pub selected_value_is_history : (row : ℕ) → row < rows_in l → selected_value (image_of m) t row ≡ told_by (value_in l s row)
  selected_value_is_history row in_r = told_own row in_r (own t.writes row) refl
      (subst (λ (x : Slot). Own (vers (view_of m)) (slot_v (view_of m) s).writes row (own x.writes row)) at_slot (own_is (vers (view_of m)) row (rows_in l) (slot_v (view_of m) s).id (slot_v (view_of m) s).writes opened.entries))

  record_observed : (q : Rec) → Recorded (vers (view_of m)) so.ghost.rows (slot_v (view_of m) s) q → Observed (image_of m) t q
  unfolding ver_of
  record_observed q a =
      let in_r = placed_row (rows_in l) (suc (cells_in l)) (view_of m) so.ghost (hist_of l) [] q.row q.cell so.inv a.placed in
      let v : ours.visible t (f q.cell) ≡ true = subst (λ (x : Slot). ours.visible x (f q.cell) ≡ true) at_slot (vis_is (slot_v (view_of m) s) (f q.cell) ∙ a.seen) in
      let si : Single t (vers (view_of m)) (get_or so.ghost.rows q.row []) = subst (λ (x : Slot). Single x (vers (view_of m)) (get_or so.ghost.rows q.row [])) at_slot (opened.single q.row) in
      let e = first_visible_agrees rm m l rc s q.row op in_r ∙ ap (first (sees_at m s)) (sym (at_row (rows_in l) (cells_in l) m (hist_of l) so q.row in_r)) ∙ single_first t f (get_or so.ghost.rows q.row []) q.cell si a.placed v in
      record { row = rw so.rows in_r; cell = seen_is_stored rm m l rc s q.row op in_r q.cell e; first = e; xmin = sym a.minned }

  -- every record of an open reader is an `observed_record`
  pub every_record_is_observed : All (Observed (image_of m) t) t.recs
  every_record_is_observed = subst (λ (x : Slot). All (Observed (image_of m) t) x.recs) at_slot (all_map _ _ (slot_v (view_of m) s).recs record_observed opened.records)
