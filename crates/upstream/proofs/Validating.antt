-- Upstream's clause on `has_serialization_conflict`, of every reachable store and every open transaction with writes: its Ok answer is
-- whether our commit is refused with 9, and it is always Ok.
use Rattle.std.specs.Prelude.{ℕ, ◌≢◌, ◌↔◌, ◌≡◌, refl}
use Rattle.std.proofs.Math.Bool.{true, false}
use mathlib.Core.List.{List, [], ◌∷◌, ◌++◌, append_assoc}
use Rattle.std.proofs.Math.Path.{sym, ap}
use Rattle.std.proofs.Common.{◌∙◌}
use Rattle.kinds.specs.Answer.{Answer}
use Rattle.kinds.specs.declared.Version.{Version}
use Rattle.words.specs.Sizes.{Sizes, Roomy}
use Rattle.rules.specs.Numbers.{read_conflict}
use Rattle.words.specs.Lists.{nonzero}
use Rattle.kinds.specs.Versions.{version_at}
use Rattle.words.specs.Slots.{Slot, Write, Rec}
use Rattle.rules.specs.Memory.{Mem, size_n, slot_at}
use Rattle.kinds.specs.Visible as ours
use Rattle.rules.specs.Outcome.{Outcome, Test, guard, each, refuse, slot_tests, is_cell}
use Rattle.rules.specs.Commit.{commit_out, commit_tests, record_tests, base_tests, new_tests}
use Rattle.rules.specs.History.{Log, who_in, rows_in, cells_in}
use Rattle.rules.specs.Reachable.{Reachable, All}
use Rattle.rules.proofs.Terms.{is_conflicting}
use Rattle.rules.proofs.CommitRefusedWhen.{commit_refused_9_names_first_conflicting_record}
use Rattle.rules.proofs.Theory.Cases.{by_bool, or_true, no_both}
use Rattle.rules.proofs.Theory.Inv.{all_map}
use Rattle.rules.specs.Theory.Guard.{Passed}
use Rattle.rules.proofs.Theory.Never.{open_slot, slot_passed}
use Rattle.rules.specs.Theory.Steps.{hist_of}
use Rattle.rules.proofs.Theory.Steps.{Sound}
use Rattle.rules.proofs.Theory.ReadLaw.{reachable_sound}
use Rattle.upstream.specs.Images.{image_of}
use Rattle.upstream.specs.ReadTerms as up
use Rattle.upstream.specs.ReadTerms.{some_conflict, reads_conflict}
use Rattle.upstream.proofs.Told.{every_record_is_observed}

-- `read_conflict` of 000 is 01's Validation, for any version, record and reader
pub read_conflict_agrees : (v : Version) (q : Rec) (t : Slot) → up.read_conflict v q t ≡ ours.conflict t v q.xmin
unfolding up.read_conflict ours.conflict
read_conflict_agrees v q t = by_bool (nonzero v.xmax.0) (λ e. rw e) (λ e. rw e)

guard_past : {A : Type 0} (r : ℕ → ℕ → A) (a b : List Test) (x : A) → Passed a → guard r (a ++ b) x ≡ guard r b x
unfolding guard
guard_past r [] b x p = refl
guard_past r (t ∷ a) b x p = rw p.0 (guard_past r a b x p.1)

module _ {z : Sizes} (m : Mem z) (t : Slot) where
  -- the first record that conflicts refuses
  records_refuse : (rs : List Rec) (rest : List Test) (done : Outcome z Answer ℕ) → All (λ q. is_cell (size_n m) q.cell ≡ true) rs → some_conflict (image_of m) t rs ≡ true
      → (x : ℕ) × (guard (refuse m) (each (record_tests m t) rs ++ rest) done ≡ refuse m read_conflict x)
  unfolding guard each some_conflict
  records_refuse [] rest done a e = absurd (no_both _ e refl)
  records_refuse (q ∷ rs) rest done a e = by_bool (up.read_conflict (version_at m.cells q.cell) q t)
      (λ y. let c : ours.conflict t (version_at m.cells q.cell) q.xmin ≡ true = sym (read_conflict_agrees (version_at m.cells q.cell) q t) ∙ y in (q.row, rw (a.0, c)))
      (λ y.
      let c : ours.conflict t (version_at m.cells q.cell) q.xmin ≡ false = sym (read_conflict_agrees (version_at m.cells q.cell) q t) ∙ y in
      let i = records_refuse rs rest done a.1 (rw y at e) in
      (i.0, rw (a.0, c) i.1))

  -- one record that conflicts is enough
  some_conflicts : (before : List Rec) (q : Rec) (after : List Rec) → up.read_conflict (version_at m.cells q.cell) q t ≡ true → some_conflict (image_of m) t (before ++ q ∷ after) ≡ true
  unfolding some_conflict
  some_conflicts [] q after e = rw e
  some_conflicts (x ∷ before) q after e = rw (some_conflicts before q after e) (or_true (up.read_conflict (version_at m.cells x.cell) x t))

module _ {z : Sizes} (rm : Roomy z) (m : Mem z) (l : Log) (rc : Reachable m l) (s : ℕ) (op : who_in l s ≢ 0) (writes : (slot_at m s).writes ≢ []) where
  abbrev so : Sound m l
  so = reachable_sound rm m l rc

  abbrev t : Slot
  t = slot_at m s

  refused_by_records : (ws : List Write) → ws ≢ [] → (done : Outcome z Answer ℕ) → reads_conflict (image_of m) t ≡ true
      → (x : ℕ) × (guard (refuse m) (slot_tests m s (who_in l s) ++ commit_tests m t ws) done ≡ refuse m read_conflict x)
  unfolding commit_tests
  refused_by_records [] ne done e = absurd (ne refl)
  refused_by_records (w ∷ ws) ne done e =
      let pass = slot_passed (rows_in l) (cells_in l) m (hist_of l) so s (who_in l s) (open_slot (rows_in l) (cells_in l) m (hist_of l) so s (who_in l s) op refl) in
      let a = each (record_tests m t) t.recs in
      let b = each (base_tests m) (w ∷ ws) in
      let c = each (new_tests m) (w ∷ ws) in
      let i = records_refuse m t t.recs (b ++ c) done (all_map _ _ t.recs (λ q o. o.cell) (every_record_is_observed rm m l rc s op)) e in
      (i.0, guard_past (refuse m) (slot_tests m s (who_in l s)) ((a ++ b) ++ c) done pass ∙ ap (λ (x : List Test). guard (refuse m) x done) (append_assoc a b c) ∙ i.1)

  -- `has_serialization_conflict`: `reads_conflict` holds exactly where the commit is refused with 9. Gap 1: nothing else keeps it from an
  -- answer, for no call on a reachable store answers 15 (`reachable_store_never_answers_15`).
  pub has_serialization_conflict_is_refusal_9 : (reads_conflict (image_of m) t ≡ true) ↔ ((x : ℕ) × ((commit_out m s (who_in l s)).answer ≡ Answer.Refused read_conflict x))
  unfolding commit_out
  has_serialization_conflict_is_refusal_9 = (
    λ e. let k = refused_by_records t.writes writes _ e in (k.0, ap (λ (o : Outcome z Answer ℕ). o.answer) k.1),
    λ p. conflict_from p,
  )
    where
      conflict_from : (x : ℕ) × ((commit_out m s (who_in l s)).answer ≡ Answer.Refused read_conflict x) → reads_conflict (image_of m) t ≡ true
      conflict_from p =
          let k = ((commit_refused_9_names_first_conflicting_record m s (who_in l s) p.0).0 p.1).1 in
          let q = k.conflicting in
          let v = version_at m.cells q.cell in
          let yes : up.read_conflict v q t ≡ true = read_conflict_agrees v q t ∙ by_bool (ours.conflict t v q.xmin) (λ e. e) (λ e. absurd ((is_conflicting t v q.xmin).no e k.conflicts)) in
          ap (some_conflict (image_of m) t) k.parts ∙ some_conflicts m t k.before q k.after yes
