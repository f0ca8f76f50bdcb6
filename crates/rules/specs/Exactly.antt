-- A call's refusals as a table: lines in the paper's order, each a condition, its number and the value returned with it. The call
-- refuses with the number of the first line whose condition holds; a later line applies only where no earlier one does. What is
-- proved of a call is that it refuses exactly so, and changes nothing then. The conditions are propositions; that each test of the
-- definition decides its line's condition is shown test by test, and the rest of the proof is the same for every call.
use Rattle.std.specs.Prelude.{ℕ, Bool, true, false, ◌≡◌, ◌≢◌, ◌⊎◌}
use mathlib.Core.List.{List, [], ◌∷◌, ◌++◌}
use Rattle.kinds.specs.Answer.{Answer, Done, Begun, Wrote, Vacuumed, Listed}
use Rattle.words.specs.Sizes.{Sizes}
use Rattle.rules.specs.Memory.{Mem}
use Rattle.rules.specs.Outcome.{Outcome, out, Test}

-- ---- tables
pub record Line : Type 1 where
  pub holds : Type 0
  pub number : ℕ
  pub value : ℕ

abbrev pub line : Type 0 → ℕ → ℕ → Line
line P k x = record { holds = P; number = k; value = x }

-- the first line that applies gives number k and value x
abbrev pub Refuses : List Line → ℕ → ℕ → Type 0
Refuses [] k x = ⊥
Refuses (p ∷ l) k x = (p.holds × (k ≡ p.number) × (x ≡ p.value)) ⊎ ((p.holds → ⊥) × Refuses l k x)

-- no line applies
abbrev pub NoneOf : List Line → Type 0
NoneOf [] = Unit {0}
NoneOf (p ∷ l) = (p.holds → ⊥) × NoneOf l

-- the lines of each member, in order
abbrev pub each_of : {A : Type 0} → (A → List Line) → List A → List Line
each_of f [] = []
each_of f (a ∷ l) = f a ++ each_of f l

-- x is a member
abbrev pub In : {A : Type 0} → A → List A → Type 0
In x [] = ⊥
In x (y ∷ l) = (x ≡ y) ⊎ In x l

-- every member has the property
abbrev pub All : {A : Type 0} → (A → Type 0) → List A → Type 0
All P [] = Unit {0}
All P (a ∷ l) = P a × All P l

-- ---- a test decides a condition
pub record Reflects (b : Bool) (P : Type 0) : Type 0 where
  pub yes : b ≡ true → P
  pub no : b ≡ false → P → ⊥

-- ---- tests say lines
abbrev pub Says : List Test → List Line → Type 0
Says [] [] = Unit {0}
Says [] (p ∷ l) = ⊥
Says (t ∷ l) [] = ⊥
Says (t ∷ l) (p ∷ q) = Reflects t.fails p.holds × (t.number ≡ p.number) × (t.value ≡ p.value) × Says l q

-- ---- a call refuses exactly as its table says
-- how a refusal is told as an answer: two told alike have one number and one value
pub record Told (A : Type 0) : Type 0 where
  pub tell : ℕ → ℕ → A
  pub same : {k x k' x' : ℕ} → tell k x ≡ tell k' x' → (k ≡ k') × (x ≡ x')

-- the answer tells k and x only where the table says so; where it says so the whole outcome is that answer and nothing changed; and
-- where no line applies the outcome is `done`
pub record Exactly {z : Sizes} {A B : Type 0} (T : Told A) (m : Mem z) (o done : Outcome z A B) (table : List Line) : Type 0 where
  pub only : (k x : ℕ) → o.answer ≡ T.tell k x → Refuses table k x
  pub when : (k x : ℕ) → Refuses table k x → o ≡ out (T.tell k x) [] m
  pub otherwise : NoneOf table → o ≡ done
  -- the table is decided: a line applies, or none does
  pub decided : NoneOf table ⊎ ((k : ℕ) × (x : ℕ) × Refuses table k x)

-- an answer that is no refusal
abbrev pub is_refusal : Answer → ℕ
is_refusal Done = 0
is_refusal (Begun s i) = 0
is_refusal (Wrote c) = 0
is_refusal (Vacuumed n v) = 0
is_refusal (Listed n) = 0
is_refusal (Answer.Refused k x) = 1

-- ---- lines that are asked only under a condition
abbrev pub under : Type 0 → List Line → List Line
under P [] = []
under P (p ∷ l) = line (P × p.holds) p.number p.value ∷ under P l

-- ---- a table read flat
-- no line has number k
abbrev pub Lacks : ℕ → List Line → Type 0
Lacks k [] = Unit {0}
Lacks k (p ∷ l) = (k ≢ p.number) × Lacks k l
