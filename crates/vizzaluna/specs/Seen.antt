-- What a host has after a call, one record for each kind of call: the number returned, each out-parameter and every lent entry is a
-- function of the arguments and the memory before, through o, which is what the rules say of the call.
use Rattle.std.specs.Prelude.{ℕ, List, ◌≡◌}
use Rattle.std.proofs.lemmas.List.Edits.{sets}
use Rattle.kinds.specs.ReadAnswer.{ReadAnswer}
use Rattle.kinds.specs.Answer.{Answer}
use Rattle.words.specs.Sizes.{base}
use Rattle.rules.specs.Numbers.{read_number, number_of}
use Rattle.rules.specs.Memory.{Mem}
use Rattle.rules.specs.Outcome.{Outcome}
use Rattle.told.specs.Numbers as told

-- creation: accepted or refused, and no refusal of it is about anything
pub record Made (o : Outcome base Answer ℕ) (n : ℕ) (after : Mem base) : Type 0 where
  pub number : n ≡ number_of o.answer
  pub memory : after ≡ o.after

-- begin: the slot and the id; no refusal of it is about anything
pub record Began (o : Outcome base Answer ℕ) (n slot id : ℕ) (after : Mem base) : Type 0 where
  pub number : n ≡ number_of o.answer
  pub slot_is : slot ≡ told.first o.answer
  pub id_is : id ≡ told.begun_id o.answer
  pub memory : after ≡ o.after

-- read: which of the three, and the key
pub record Read (o : Outcome base ReadAnswer ℕ) (n kind key about : ℕ) (after : Mem base) : Type 0 where
  pub number : n ≡ read_number o.answer
  pub kind_is : kind ≡ told.kind o.answer
  pub key_is : key ≡ told.read_key o.answer
  pub about_is : about ≡ told.read_about o.answer
  pub memory : after ≡ o.after

-- write: the cell
pub record Wrote (o : Outcome base Answer ℕ) (n cell about : ℕ) (after : Mem base) : Type 0 where
  pub number : n ≡ number_of o.answer
  pub cell_is : cell ≡ told.first o.answer
  pub about_is : about ≡ told.about o.answer
  pub memory : after ≡ o.after

-- commit and abort
pub record Ended (o : Outcome base Answer ℕ) (n about : ℕ) (after : Mem base) : Type 0 where
  pub number : n ≡ number_of o.answer
  pub about_is : about ≡ told.about o.answer
  pub memory : after ≡ o.after

-- vacuum: the count, which of the three the live value is and its key, and the reports at the front of their buffer
pub record Swept (o : Outcome base Answer (List ℕ)) (n count kind key about : ℕ) (after : Mem base) (buffer buffer' : List (List ℕ)) : Type 0 where
  pub number : n ≡ number_of o.answer
  pub count_is : count ≡ told.first o.answer
  pub kind_is : kind ≡ told.kind (told.live o.answer)
  pub key_is : key ≡ told.read_key (told.live o.answer)
  pub about_is : about ≡ told.about o.answer
  pub memory : after ≡ o.after
  pub reports : buffer' ≡ sets buffer 0 o.front

-- lookup: the count, and the rows at the front of their buffer
pub record Found (o : Outcome base Answer ℕ) (n count about : ℕ) (after : Mem base) (buffer buffer' : List ℕ) : Type 0 where
  pub number : n ≡ number_of o.answer
  pub count_is : count ≡ told.first o.answer
  pub about_is : about ≡ told.about o.answer
  pub memory : after ≡ o.after
  pub rows : buffer' ≡ sets buffer 0 o.front
