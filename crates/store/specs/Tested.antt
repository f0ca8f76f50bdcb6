-- A call whose first tests refuse it, and one whose first tests are fine.
use Rattle.std.specs.Prelude.{ℕ, List, ◌≡◌, refl}
use Rattle.std.proofs.Common.{sym, ap, ◌∙◌}
use Rattle.std.proofs.lemmas.List.Edits.{sets}
use Rattle.kinds.specs.Answer.{Answer}
use Rattle.words.specs.Sizes.{Sizes}
use Rattle.rules.specs.Memory.{Mem}
use Rattle.kinds.specs.Verdict.{Verdict}
use Rattle.rules.specs.Outcome.{Outcome, out, refuse, Test, guard}
use Rattle.rules.specs.Verdicts.{verdict}
use Rattle.rules.proofs.Verdicts.{guard_fine, guard_refused}

-- o is the call; `rest` what is left of it once the tests are fine
module _ {A : Type 0} (r : ℕ → ℕ → A) (l : List Test) (o rest : A) (split : o ≡ guard r l rest) where
  pub tested_refused : (k x : ℕ) → verdict l ≡ Verdict.Refused k x → r k x ≡ o
  tested_refused k x e = sym (split ∙ guard_refused r l rest k x e)

  pub tested_fine : verdict l ≡ Verdict.Fine → rest ≡ o
  tested_fine e = sym (split ∙ guard_fine r l rest e)

-- ---- a call with a buffer, told in two equations: the answer and the memory, and the buffer

module _ {z : Sizes} {B : Type 0} (o : Outcome z Answer B) (a : Answer) (after : Mem z) (buf buf' : List B) where
  abbrev pub Told : Type 0
  Told = (out a o.front after ≡ o) × (buf' ≡ sets buf 0 o.front)

pub told_over : {z : Sizes} {B : Type 0} (p o : Outcome z Answer B) (a : Answer) (after : Mem z) (buf buf' : List B) → p ≡ o → Told p a after buf buf' → Told o a after buf buf'
told_over {z} {B} p o a after buf buf' e t = (
  ap (λ (x : Outcome z Answer B). out a x.front after) (sym e) ∙ t.0 ∙ e,
  t.1 ∙ ap (λ (x : Outcome z Answer B). sets buf 0 x.front) e,
)

-- a refusal leaves the buffer as it was
pub told_refused : {z : Sizes} {B : Type 0} (o : Outcome z Answer B) (m : Mem z) (k x : ℕ) (buf : List B) → refuse m k x ≡ o → Told o (Answer.Refused k x) m buf buf
told_refused o m k x buf e = told_over (refuse m k x) o (Answer.Refused k x) m buf buf e (refl, refl)
