-- "Every refusal changes nothing at all": not a cell, a head, a record, the clock or a buffer. One lemma says it of a list of tests;
-- each call is then a line, since a call is its tests and what they guard.
use Rattle.std.specs.Prelude.{ℕ, ◌<◌, ◌≡◌}
use mathlib.Core.List.{[]}
use Rattle.words.specs.Sizes.{Sizes}
use Rattle.rules.specs.Memory.{Mem}
use Rattle.rules.specs.Outcome.{Outcome}
use Rattle.rules.specs.Run.{Call, create, begin, read, write, commit, abort, vacuum, lookup, lookup_all, Reply, looked, gave, reply_number, step}
use Rattle.rules.specs.Run as R

-- an outcome that is accepted, or leaves the memory and the buffer alone
pub record Still {z : Sizes} {A B : Type 0} (f : A → ℕ) (m : Mem z) (o : Outcome z A B) : Type 0 where
  pub same : 0 < f o.answer → o.after ≡ m
  pub bare : 0 < f o.answer → o.front ≡ []

-- nothing is written into the caller's buffer
abbrev pub Unwritten : Reply → Type 0
Unwritten (looked a) = Unit {0}
Unwritten (gave a l) = l ≡ []
Unwritten (R.swept a l) = l ≡ []
