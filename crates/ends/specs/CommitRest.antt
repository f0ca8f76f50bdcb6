-- What is left of a commit once the slot is tested, and its ways out.
use Rattle.std.specs.Prelude.{ℕ, ◌≡◌, set}
use mathlib.Core.List.{List, []}
use Rattle.std.proofs.Math.Path.{sym, ap}
use Rattle.std.proofs.Common.{◌∙◌}
use Rattle.kinds.specs.Answer.{Answer, Done}
use Rattle.kinds.specs.Verdict.{Verdict}
use Rattle.words.specs.Sizes.{Sizes}
use Rattle.words.specs.Slots.{emptied}
use Rattle.rules.specs.Memory.{Mem, mem, slot_at, with_slot}
use Rattle.rules.specs.Outcome.{Outcome, out, guard, refuse, slot_tests}
use Rattle.rules.specs.Verdicts.{verdict}
use Rattle.rules.proofs.Verdicts.{guard_append, guard_fine, guard_refused}
use Rattle.rules.specs.Commit.{commit_tests, publish_all, commit_out}

module _ {z : Sizes} (m : Mem z) (s id : ℕ) where
  unfoldable pub commit_rest : Outcome z Answer ℕ
  commit_rest =
      guard (refuse m) (commit_tests m (slot_at m s) (slot_at m s).writes)
      (out Done [] (with_slot (publish_all id (slot_at m s).writes m) s (emptied z)))

  pub commit_split : commit_out m s id ≡ guard (refuse m) (slot_tests m s id) commit_rest
  unfolding commit_out commit_rest
  commit_split = guard_append (refuse m) (slot_tests m s id) _ _

  abbrev judged : Verdict
  judged = verdict (commit_tests m (slot_at m s) (slot_at m s).writes)

  pub commit_refused : (k x : ℕ) → judged ≡ Verdict.Refused k x → refuse m k x ≡ commit_rest
  unfolding commit_rest
  commit_refused k x e = sym (guard_refused (refuse m) _ _ k x e)

  pub commit_done : (rows : List ℕ) (cells slots : List (List ℕ)) → judged ≡ Verdict.Fine
      → ◌≡◌ {A = Mem z} (mem m.meta rows cells m.slots) (publish_all id (slot_at m s).writes m)
      → slots ≡ set m.slots s (emptied z)
      → out Done [] (mem m.meta rows cells slots) ≡ commit_rest
  unfolding commit_rest
  commit_done rows cells slots e p q =
      ap (λ (ss : List (List ℕ)). out Done [] (mem m.meta rows cells ss)) q
      ∙ ap (λ (k : Mem z). out Done [] (with_slot k s (emptied z))) p
      ∙ sym (guard_fine (refuse m) _ _ e)
