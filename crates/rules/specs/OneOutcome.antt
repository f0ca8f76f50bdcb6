-- No second outcome fits. A call's specification is its table of refusals and what an accepted call leaves, said of any outcome; two
-- outcomes that meet it for the same arguments and memory are equal: the answer, what stands in the buffer, every lent entry.
use Rattle.std.specs.Prelude.{ℕ, ◌≡◌}
use mathlib.Core.List.{List, []}
use Rattle.words.specs.Sizes.{Sizes}
use Rattle.rules.specs.Memory.{Mem}
use Rattle.rules.specs.Outcome.{Outcome, out}
use Rattle.rules.specs.Exactly.{Line, Refuses, NoneOf, Told}

-- an outcome that meets a specification: where a line of the table applies it is that refusal and nothing changed; where none does it
-- is as `Accepted` says
pub record Meets {z : Sizes} {A B : Type 0} (T : Told A) (m : Mem z) (table : List Line) (Accepted : Outcome z A B → Type 0) (o : Outcome z A B) : Type 0 where
  pub refused : (k x : ℕ) → Refuses table k x → o ≡ out (T.tell k x) [] m
  pub accepted : NoneOf table → Accepted o
