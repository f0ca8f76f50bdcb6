-- Validation: what an accepted commit has tested of every record, on any memory.
use Rattle.std.specs.Prelude.{false, not, ◌≢◌, refl, ℕ, eqb, leb}
use mathlib.Core.List.{List, [], ◌∷◌, ◌++◌}
use Rattle.std.proofs.Common.{inl, inr, arith, eqb-true, ne_eqb, leb-false}
use Rattle.std.proofs.Math.Path.{◌≡◌}
use Rattle.std.proofs.lemmas.Bool.{not-false}
use Rattle.kinds.specs.Answer.{Answer, Done}
use Rattle.kinds.specs.declared.Version.{Version}
use Rattle.words.specs.Sizes.{Sizes}
use Rattle.kinds.specs.Versions.{version_at}
use Rattle.words.specs.Slots.{Slot, Rec, Write}
use Rattle.rules.specs.Memory.{Mem, slot_at}
use Rattle.kinds.specs.Visible.{conflict}
use Rattle.rules.specs.Outcome.{Test, each, slot_tests, Outcome, refuse}
use Rattle.rules.specs.Commit.{commit_tests, record_tests, base_tests, new_tests, commit_out}
use Rattle.rules.specs.Reachable.{All}
use Rattle.rules.proofs.Theory.Cases.{or_false, by_eq}
use Rattle.rules.proofs.Theory.Inv.{all_map}
use Rattle.rules.specs.Theory.Guard.{Passed}
use Rattle.rules.proofs.Theory.Guard.{passed_split, passed_all, guard_case}
use Rattle.rules.specs.Validation.{Stands}

-- no conflict: so it stands
pub no_conflict_stands : (t : Slot) (v : Version) (q : Rec) → conflict t v q.xmin ≡ false → Stands t v q
unfolding conflict
no_conflict_stands t v q e =
    let a = or_false (not (eqb v.xmin.0 q.xmin)) _ e in
    record {
      xmin = eqb-true _ _ (not-false _ a.0);
      xmax = by_eq v.xmax.0 0 (λ z. inl z)
          (λ nz. by_eq v.xmax.0 t.id (λ o. inr (inl o))
          (λ no. let b = or_false (leb t.top v.xmax.0) _ (rw (ne_eqb v.xmax.0 0 nz, ne_eqb v.xmax.0 t.id no) at a.1) in inr (inr (leb-false _ _ b.0, b.1))));
    }

-- A commit of a transaction with writes is accepted only where every version that it read stands.
module _ {z : Sizes} (m : Mem z) (s id : ℕ) where
  records_stand : (ws : List Write) → ws ≢ [] → Passed (commit_tests m (slot_at m s) ws) → All (λ q. Stands (slot_at m s) (version_at m.cells q.cell) q) (slot_at m s).recs
  unfolding commit_tests
  records_stand [] ne p = absurd (ne refl)
  records_stand (w ∷ l) ne p =
      let t = slot_at m s in
      let a = (passed_split (each (record_tests m t) t.recs ++ each (base_tests m) (w ∷ l)) (each (new_tests m) (w ∷ l)) p).0 in
      let b = (passed_split (each (record_tests m t) t.recs) (each (base_tests m) (w ∷ l)) a).0 in
      all_map _ _ t.recs (λ q c. no_conflict_stands t (version_at m.cells q.cell) q c.1.0) (passed_all (record_tests m t) t.recs b)

  abbrev tests : List Test
  tests = slot_tests m s id ++ commit_tests m (slot_at m s) (slot_at m s).writes

  pub commit_tested : (commit_out m s id).answer ≡ Done → Passed tests
  unfolding commit_out
  commit_tested = guard_case (λ (o : Outcome z Answer ℕ). o.answer ≡ Done → Passed tests) (refuse m) tests _ (λ k x e. let y : ◌≡◌ {A = ℕ} 0 1 = cc in absurd (omega arith)) (λ p _. p)

  pub accepted_commit_read_what_stands : (commit_out m s id).answer ≡ Done → (slot_at m s).writes ≢ [] → All (λ q. Stands (slot_at m s) (version_at m.cells q.cell) q) (slot_at m s).recs
  accepted_commit_read_what_stands e ne = records_stand (slot_at m s).writes ne (passed_split (slot_tests m s id) _ (commit_tested e)).1
