-- What the code finds for a row, for what the rules say.
use Rattle.std.specs.Prelude.{ℕ, true, false, cond, ◌≡◌, refl, Option as Maybe, Some, None, Result, Ok, Err}
use Rattle.std.proofs.Math.Option.{Option, none, some}
use Rattle.std.proofs.Common.{ap, ◌∙◌}
use Rattle.kinds.specs.declared.Cell.{Cell}
use Rattle.kinds.specs.Versions.{at}
use Rattle.words.specs.Slots.{Write}
use Rattle.rules.specs.Chain.{Look, found, nothing, too_long, harmed}
use Rattle.rules.specs.Outcome.{is_cell}
use Rattle.arena.specs.declared.Broken.{Broken}
use Rattle.arena.specs.Sights.{sighted}
use Rattle.reads.specs.declared.Found.{Found}

abbrev pub own_of : Option Write → Maybe Cell
own_of none = None
own_of (some w) = Some (at w.new)

-- along the chain
abbrev pub along : Look → Result Found Broken
along (found c) = Ok (Found.Version (at c))
along nothing = Ok Found.Nothing
along too_long = Err Broken.TooLong
along harmed = Err Broken.Harmed

-- the own write first: its cell is 0 or above N where it is harmed
unfoldable pub found_of : ℕ → Option Write → Look → Result Found Broken
found_of n (some w) k = cond (is_cell n w.new) (Ok (Found.Own (at w.new))) (Err Broken.Harmed)
found_of n none k = along k

-- ---- the same from what the two searches answer

pub found_own : (n : ℕ) (o : Option Write) (k : Look) (c : Cell) → own_of o ≡ Some c → is_cell n c.0 ≡ true → found_of n o k ≡ Ok (Found.Own c)
unfolding found_of
found_own n none k c e h = cc
found_own n (some w) k c e h =
    let q : at w.new ≡ c = cc in
    ap (λ (d : Cell). cond (is_cell n d.0) (Ok (Found.Own d)) (Err Broken.Harmed)) q ∙ rw h

pub found_harmed : (n : ℕ) (o : Option Write) (k : Look) (c : Cell) → own_of o ≡ Some c → is_cell n c.0 ≡ false → found_of n o k ≡ Err Broken.Harmed
unfolding found_of
found_harmed n none k c e h = cc
found_harmed n (some w) k c e h =
    let q : at w.new ≡ c = cc in
    ap (λ (d : Cell). cond (is_cell n d.0) (Ok (Found.Own d)) (Err Broken.Harmed)) q ∙ rw h

abbrev pub along_seen : Result (Maybe Cell) Broken → Result Found Broken
along_seen (Ok (Some c)) = Ok (Found.Version c)
along_seen (Ok None) = Ok Found.Nothing
along_seen (Err b) = Err b

pub found_along : (n : ℕ) (o : Option Write) (k : Look) → own_of o ≡ None → found_of n o k ≡ along_seen (sighted k)
unfolding found_of
found_along n (some w) k e = cc
found_along n none (found c) e = refl
found_along n none nothing e = refl
found_along n none too_long e = refl
found_along n none harmed e = refl
