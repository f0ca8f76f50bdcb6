-- Decimal numbers as bytes: what a string of bytes says, and how a number is spelled.
use Rattle.std.specs.Prelude.{ℕ, zero, suc, ◌+◌, ◌*◌, ◌-◌, ◌/◌, ◌%◌, ◌^◌, Bool, true, false, not, ◌&&◌, cond, Option, None, Some, List, [], ◌∷◌, ◌++◌, ◌≡◌, eqb, ltb, leb, length}
use Rattle.std.proofs.lemmas.List.Edits.{sets}

-- a byte from `0` to `9`
abbrev pub is_digit : ℕ → Bool
is_digit b = leb 48 b && leb b 57

unfoldable pub all_digits : List ℕ → Bool
all_digits [] = true
all_digits (b ∷ l) = is_digit b && all_digits l

-- at least one byte, and a `0` in front only alone
unfoldable pub leads : List ℕ → Bool
leads [] = false
leads (b ∷ []) = true
leads (b ∷ c ∷ l) = not (eqb b 48)

-- the value of digits that are read on from v
unfoldable pub value_on : ℕ → List ℕ → ℕ
value_on v [] = v
value_on v (b ∷ l) = value_on (v * 10 + (b - 48)) l

-- the number that digits say after v, where it is at most 2^64 - 1
unfoldable pub read_on : ℕ → List ℕ → Option ℕ
read_on v l = cond (all_digits l && ltb (value_on v l) (2 ^ 64)) (Some (value_on v l)) None

-- the number that the bytes say: digits alone, no leading zero, at most 2^64 - 1
unfoldable pub number_of : List ℕ → Option ℕ
number_of s = cond (leads s) (read_on 0 s) None

-- the digits of n, the most significant first, k at most
unfoldable pub spell : ℕ → ℕ → List ℕ
spell zero n = []
spell (suc k) n = cond (ltb n 10) ((48 + n) ∷ []) (spell k (n / 10) ++ ((48 + n % 10) ∷ []))

-- twenty hold every number below 2^64
abbrev pub most : ℕ
most = 20

abbrev pub digits : ℕ → List ℕ
digits n = spell most n

-- s stands in the buffer from at, the rest is as it was; next is the place after it
pub record Laid (before after : List ℕ) (at next : ℕ) (s : List ℕ) : Type 0 where
  pub bytes : after ≡ sets before at s
  pub past : next ≡ at + length s
