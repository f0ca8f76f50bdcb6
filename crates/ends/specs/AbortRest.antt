-- What is left of an abort once the slot is tested, and its ways out.
use Rattle.std.specs.Prelude.{ℕ, ◌≡◌, set}
use mathlib.Core.List.{List, []}
use Rattle.std.proofs.Math.Path.{sym, ap}
use Rattle.std.proofs.Common.{◌∙◌}
use Rattle.kinds.specs.Answer.{Answer, Done}
use Rattle.kinds.specs.Verdict.{Verdict}
use Rattle.words.specs.Sizes.{Sizes}
use Rattle.words.specs.Lists.{fold}
use Rattle.words.specs.Slots.{emptied}
use Rattle.rules.specs.Memory.{Mem, mem, slot_at, with_slot, with_cells}
use Rattle.rules.specs.Outcome.{Outcome, out, guard, each, refuse, slot_tests}
use Rattle.rules.specs.Verdicts.{verdict}
use Rattle.rules.proofs.Verdicts.{guard_append, guard_fine, guard_refused}
use Rattle.rules.specs.Abort.{abort_tests, unlock_base, give_back, news, abort_out}

module _ {z : Sizes} (m : Mem z) (s id : ℕ) where
  -- the bases unlocked, then the cells given back
  abbrev pub undone : Mem z
  undone = fold give_back (news (slot_at m s).writes) (with_cells m (fold (unlock_base id) (slot_at m s).writes m.cells))

  unfoldable pub abort_rest : Outcome z Answer ℕ
  abort_rest = guard (refuse m) (each (abort_tests m) (slot_at m s).writes) (out Done [] (with_slot undone s (emptied z)))

  pub abort_split : abort_out m s id ≡ guard (refuse m) (slot_tests m s id) abort_rest
  unfolding abort_out abort_rest
  abort_split = guard_append (refuse m) (slot_tests m s id) _ _

  abbrev judged : Verdict
  judged = verdict (each (abort_tests m) (slot_at m s).writes)

  pub abort_refused : (k x : ℕ) → judged ≡ Verdict.Refused k x → refuse m k x ≡ abort_rest
  unfolding abort_rest
  abort_refused k x e = sym (guard_refused (refuse m) _ _ k x e)

  pub abort_done : (meta : List ℕ) (cells slots : List (List ℕ)) → judged ≡ Verdict.Fine
      → ◌≡◌ {A = Mem z} (mem meta m.rows cells m.slots) undone
      → slots ≡ set m.slots s (emptied z)
      → out Done [] (mem meta m.rows cells slots) ≡ abort_rest
  unfolding abort_rest
  abort_done meta cells slots e p q =
      ap (λ (ss : List (List ℕ)). out Done [] (mem meta m.rows cells ss)) q
      ∙ ap (λ (k : Mem z). out Done [] (with_slot k s (emptied z))) p
      ∙ sym (guard_fine (refuse m) _ _ e)
