-- An answer as a host in C is given it: as numbers. The number returned is the rules' `number_of` or `read_number`: 0 accepted, else paper 01's
-- number for "no". Each further number is an out-parameter of its own, and is always written: with 0 where the answer has no such number.
use Rattle.std.specs.Prelude.{ℕ, List, [], cond, eqb, get_or}
use Rattle.std.proofs.Math.Option.{Option, none, some}
use Rattle.kinds.specs.ReadAnswer.{ReadAnswer, None, Empty, Key}
use Rattle.kinds.specs.Answer.{Answer, Done, Begun, Wrote, Vacuumed, Listed}
use Rattle.rules.specs.Numbers.{read_values, values_of}
use Rattle.std.specs.Prelude.{Result, Ok, Err}
use Rattle.kinds.specs.declared.refusals.Refusal.{Refusal}
use Rattle.kinds.specs.Results as results

-- the values that an accepted call answers; none of a refusal
abbrev pub answered : Answer → List ℕ
answered Done = values_of Done
answered (Begun s i) = values_of (Begun s i)
answered (Wrote c) = values_of (Wrote c)
answered (Vacuumed n v) = values_of (Vacuumed n v)
answered (Listed n) = values_of (Listed n)
answered (Answer.Refused n x) = []

-- the first of them: a slot, a cell or a count; 0 where there is none
abbrev pub first : Answer → ℕ
first a = get_or (answered a) 0 0

-- the second that a begin answers: the id, which is nobody's (0) where no transaction has begun
abbrev pub begun_id : Answer → ℕ
begun_id Done = 0
begun_id (Begun s i) = get_or (answered (Begun s i)) 1 0
begun_id (Wrote c) = 0
begun_id (Vacuumed n v) = 0
begun_id (Listed n) = 0
begun_id (Answer.Refused n x) = 0

-- the live value that a vacuum answers
abbrev pub live : Answer → ReadAnswer
live Done = None
live (Begun s i) = None
live (Wrote c) = None
live (Vacuumed n v) = v
live (Listed n) = None
live (Answer.Refused n x) = None

-- what a refusal is about: 01's column "Returns", the row or the id; 0 where it returns nothing, and of an accepted call
abbrev pub about : Answer → ℕ
about Done = 0
about (Begun s i) = 0
about (Wrote c) = 0
about (Vacuumed n v) = 0
about (Listed n) = 0
about (Answer.Refused n x) = x

-- ---- "no version, a version without a key, or a key"

abbrev pub no_version : ℕ
no_version = 0

abbrev pub no_key : ℕ
no_key = 1

abbrev pub a_key : ℕ
a_key = 2

-- which of the three a read answers, and the key; of a refusal as of no version
abbrev pub kind : ReadAnswer → ℕ
kind None = no_version
kind Empty = no_key
kind (Key k) = a_key
kind (ReadAnswer.Refused n x) = no_version

abbrev pub read_key : ReadAnswer → ℕ
read_key None = 0
read_key Empty = 0
read_key (Key k) = get_or (read_values (Key k)) 0 0
read_key (ReadAnswer.Refused n x) = 0

abbrev pub read_about : ReadAnswer → ℕ
read_about None = 0
read_about Empty = 0
read_about (Key k) = 0
read_about (ReadAnswer.Refused n x) = x

-- ---- the same of what the code answers, whatever an accepted call answers

abbrev pub number_in : {A : Type 0} → Result A Refusal → ℕ
number_in (Ok x) = 0
number_in (Err e) = results.number e

abbrev pub about_in : {A : Type 0} → Result A Refusal → ℕ
about_in (Ok x) = 0
about_in (Err e) = results.about e

-- ---- what a host gives

-- the value to write: a key, or none to delete where `keyed` is 0
abbrev pub chosen : ℕ → ℕ → Option ℕ
chosen keyed key = cond (eqb keyed 0) none (some key)
