-- What a lookup has come to after some rows, in the papers' words: how many are listed; or a refusal, its number and what it returns.
use Rattle.std.specs.Prelude.{ℕ}

pub data Listing : Type 0 where
  Rows : (count : ℕ) → Listing
  Stopped : (number value : ℕ) → Listing
