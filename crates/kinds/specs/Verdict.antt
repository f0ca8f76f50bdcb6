-- What a list of tests comes to: none fails, or the first that does, with its number and what it returns.
use Rattle.std.specs.Prelude.{ℕ}

pub data Verdict : Type 0 where
  Fine : Verdict
  Refused : (number value : ℕ) → Verdict
