-- What every other call answers, in paper 01's words.
use Rattle.std.specs.Prelude.{ℕ}
use Rattle.words.specs.declared.TxId.{TxId}
use Rattle.kinds.specs.declared.Cell.{Cell}
use Rattle.kinds.specs.ReadAnswer.{ReadAnswer}

pub data Answer : Type 0 where
  Done : Answer
  Begun : (slot : ℕ) (id : TxId) → Answer
  Wrote : (cell : Cell) → Answer
  Vacuumed : (count : ℕ) (live : ReadAnswer) → Answer
  Listed : (count : ℕ) → Answer
  Refused : (number value : ℕ) → Answer
