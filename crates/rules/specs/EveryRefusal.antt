-- Every refusal of every call: one table for each call, in the paper's order, and one theorem. "Order: sizes and clock, slot, owner,
-- counts, row, then the call's steps as told." Then 4, 5, 1, 3 and 2, each alone; 6 stands with 15.
use Rattle.std.specs.Prelude.{ℕ, ◌≡◌}
use Rattle.kinds.specs.ReadAnswer.{ReadAnswer}
use Rattle.kinds.specs.Answer.{Answer}
use Rattle.rules.specs.Run.{Call, create, begin, read, write, commit, abort, vacuum, lookup, lookup_all, Reply, looked, gave, swept}

-- the reply is a refusal with number k and value x
abbrev pub RefusedAs : Reply → ℕ → ℕ → Type 0
RefusedAs (looked a) k x = a ≡ ReadAnswer.Refused k x
RefusedAs (gave a l) k x = a ≡ Answer.Refused k x
RefusedAs (swept a l) k x = a ≡ Answer.Refused k x

-- ---- 4 and 5, of every call that names a slot and an id
abbrev pub NamesSlot : Call → ℕ → ℕ → Type 0
NamesSlot (create n r) s id = ⊥
NamesSlot begin s id = ⊥
NamesSlot (read s' id' row) s id = (s' ≡ s) × (id' ≡ id)
NamesSlot (write s' id' row v) s id = (s' ≡ s) × (id' ≡ id)
NamesSlot (commit s' id') s id = (s' ≡ s) × (id' ≡ id)
NamesSlot (abort s' id') s id = (s' ≡ s) × (id' ≡ id)
NamesSlot (vacuum row request room) s id = ⊥
NamesSlot (lookup s' id' key cands room) s id = (s' ≡ s) × (id' ≡ id)
NamesSlot (lookup_all s' id' key room) s id = (s' ≡ s) × (id' ≡ id)
