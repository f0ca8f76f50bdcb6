-- What is kept of a record whose end has not come.
use Rattle.std.specs.Prelude.{ℕ, ◌+◌, ◌-◌, ◌<◌, ◌≤◌, min, Bool, true, false, List, [], ◌∷◌, ◌++◌, ◌≡◌, eqb, length, take}
use Rattle.std.proofs.Math.Option.{none, some}
use Rattle.pieces.specs.declared.Held.{Held}
use Rattle.pieces.specs.declared.Next.{Next}
use Rattle.pieces.specs.Ends.{first_end}

-- the last byte is a CR
unfoldable pub ends_cr : List ℕ → Bool
ends_cr [] = false
ends_cr (a ∷ []) = eqb a 13
ends_cr (a ∷ b ∷ l) = ends_cr (b ∷ l)

-- a buffer that is not empty, a count that has room in it, and a CR that was counted
pub record Sane (room : ℕ) (h : Held) : Type 0 where
  pub some_room : 0 < room
  pub fits : h.count ≤ room
  pub some_byte : h.cr ≡ true → 0 < h.count

-- p has come since the last end, there is no end in it, and as much of it as the buffer holds stands there
pub record Holds (p buffer : List ℕ) (h : Held) : Type 0 where
  pub no_end : first_end p ≡ none
  pub counted : h.count ≡ min (length p) (length buffer)
  pub kept : take h.count buffer ≡ take h.count p
  pub last : h.cr ≡ ends_cr p

-- p had come, and in s, which begins at a place, a record ends: k bytes, of which as many as the buffer holds but one are handed out
pub record Ended (p s : List ℕ) (from : ℕ) (buffer : List ℕ) (count at : ℕ) : Type 0 where
  pub k : ℕ
  pub end : first_end (p ++ s) ≡ some k
  pub past : k + 2 ≡ length p + (at - from)
  pub given : take count buffer ≡ take (length buffer - 1) (take k (p ++ s))

abbrev pub Handed : List ℕ → List ℕ → ℕ → List ℕ → Next → Type 0
Handed p s from buffer (Next.Record count at) = Ended p s from buffer count at
Handed p s from buffer (Next.More h) = Holds (p ++ s) buffer h

-- the record's front stands in the buffer; its end is in the piece, past where the search began
abbrev pub Within : ℕ → ℕ → ℕ → Next → Type 0
Within room from size (Next.Record count at) = (count ≤ room) × ((from < at) × (at ≤ size))
Within room from size (Next.More h) = Sane room h

-- one byte more of a record, where there is room for it
pub record Put (before after : List ℕ) (count next b : ℕ) : Type 0 where
  pub same_length : length after ≡ length before
  pub counted : count ≤ length before → next ≡ min (count + 1) (length before)
  pub stored : count < length before → take next after ≡ take count before ++ (b ∷ [])
  pub full : length before ≤ count → after ≡ before
