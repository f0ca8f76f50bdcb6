-- "Walk limit 64: a 65th version is never looked at": of two limits, the longer changes no answer that the shorter gave. Only a refusal
-- 10 of the shorter may turn into something else.
use Rattle.std.specs.Prelude.{ℕ}
use Rattle.std.proofs.Math.Path.{◌≡◌}
use Rattle.kinds.specs.ReadAnswer.{ReadAnswer}
use Rattle.words.specs.Sizes.{Sizes}
use Rattle.rules.specs.Memory.{Mem, mem}
use Rattle.rules.specs.Outcome.{Outcome}

-- z with another walk limit
abbrev pub walking : Sizes → ℕ → Sizes
walking z k = record { slots = z.slots; walk = k; writes = z.writes; reads = z.reads; rows = z.rows; cells = z.cells; width = z.width }

-- ---- the call
-- one memory, lent to stores of two limits
abbrev pub lent : {z : Sizes} (j : ℕ) → Mem z → Mem (walking z j)
lent j m = mem m.meta m.rows m.cells m.slots

-- the same answer, and the same in every arena
pub record Same {z z' : Sizes} (o : Outcome z ReadAnswer ℕ) (p : Outcome z' ReadAnswer ℕ) : Type 0 where
  pub answer : o.answer ≡ p.answer
  pub meta : o.after.meta ≡ p.after.meta
  pub rows : o.after.rows ≡ p.after.rows
  pub cells : o.after.cells ≡ p.after.cells
  pub slots : o.after.slots ≡ p.after.slots
