-- Paper 01, "Numbers for no": the refusals by name. And its number and values for each case of an answer.
use Rattle.std.specs.Prelude.{ℕ, List, [], ◌∷◌}
use Rattle.kinds.specs.ReadAnswer.{ReadAnswer, None, Empty, Key}
use Rattle.kinds.specs.Answer.{Answer, Done, Begun, Wrote, Vacuumed, Listed}

abbrev pub bad_size : ℕ
bad_size = 1

abbrev pub clock_spent : ℕ
clock_spent = 2

abbrev pub no_free_slot : ℕ
no_free_slot = 3

abbrev pub bad_slot : ℕ
bad_slot = 4

abbrev pub not_owner : ℕ
not_owner = 5

abbrev pub bad_row : ℕ
bad_row = 6

abbrev pub row_locked : ℕ
row_locked = 7

abbrev pub write_conflict : ℕ
write_conflict = 8

abbrev pub read_conflict : ℕ
read_conflict = 9

abbrev pub chain_too_long : ℕ
chain_too_long = 10

abbrev pub no_room : ℕ
no_room = 11

abbrev pub write_set_full : ℕ
write_set_full = 12

abbrev pub read_set_full : ℕ
read_set_full = 13

abbrev pub result_full : ℕ
result_full = 14

abbrev pub damaged : ℕ
damaged = 15

-- the number of a read's answer: 0 where it is no refusal; and what it carries
abbrev pub read_number : ReadAnswer → ℕ
read_number None = 0
read_number Empty = 0
read_number (Key k) = 0
read_number (ReadAnswer.Refused n x) = n

abbrev pub read_values : ReadAnswer → List ℕ
read_values None = []
read_values Empty = []
read_values (Key k) = k ∷ []
read_values (ReadAnswer.Refused n x) = x ∷ []

-- the same of every other call's answer
abbrev pub number_of : Answer → ℕ
number_of Done = 0
number_of (Begun s i) = 0
number_of (Wrote c) = 0
number_of (Vacuumed n v) = 0
number_of (Listed n) = 0
number_of (Answer.Refused n x) = n

abbrev pub values_of : Answer → List ℕ
values_of Done = []
values_of (Begun s i) = s ∷ i.0 ∷ []
values_of (Wrote c) = c.0 ∷ []
values_of (Vacuumed n v) = n ∷ read_values v
values_of (Listed n) = n ∷ []
values_of (Answer.Refused n x) = x ∷ []
