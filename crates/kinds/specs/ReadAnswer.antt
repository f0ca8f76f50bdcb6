-- What a read answers, in paper 01's words: no version, a version without a key, a key; or a refusal, its number and what it returns.
use Rattle.std.specs.Prelude.{ℕ}

pub data ReadAnswer : Type 0 where
  None : ReadAnswer
  Empty : ReadAnswer
  Key : (key : ℕ) → ReadAnswer
  Refused : (number value : ℕ) → ReadAnswer
