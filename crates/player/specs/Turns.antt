-- From the bytes of a piece to the bytes of an answer: the record that ends there, performed.
use Rattle.std.specs.Prelude.{ℕ, suc, ◌+◌, ◌-◌, ◌<◌, ◌≤◌, Bool, true, false, List, [], ◌∷◌, ◌++◌, ◌≡◌, refl, ltb, length, take}
use Rattle.std.proofs.Math.Option.{some}
use Rattle.std.proofs.Common.{sym, ap, ◌∙◌, arith, take_all, ltb-true, ltb-false}
use Rattle.digits.specs.Numbers.{Laid}
use Rattle.answers.specs.Answers.{room}
use Rattle.answers.specs.Laws.{laid_as, laid_none}
use Rattle.words.specs.Sizes.{base}
use Rattle.rules.specs.Memory.{Mem}
use Rattle.lines.specs.declared.Line.{Line}
use Rattle.lines.specs.Lines.{meaning}
use Rattle.lines.specs.Longest.{longest, cut_means_the_same}
use Rattle.pieces.specs.declared.Held.{Held}
use Rattle.pieces.specs.declared.Next.{Next}
use Rattle.pieces.specs.Ends.{first_end}
use Rattle.pieces.specs.Texts.{records}
use Rattle.pieces.proofs.Texts.{no_end_one_record}
use Rattle.pieces.specs.Held.{Sane, Holds, Ended, Handed, Within}
use Rattle.perform.specs.Perform.{Rooms, performed, replayed, memory_after}
use Rattle.perform.specs.Laws.{replayed_one, memory_after_one}
use Rattle.player.specs.declared.Place.{Place}
use Rattle.player.specs.declared.Turn.{Turn}

-- a record can be performed: what is held is sane, the places are in the piece and in the output, and there is room for its answer
pub record Ready (piece front reports numbers out : ℕ) (x : Place) : Type 0 where
  pub sane : Sane front x.held
  pub record_kept : suc longest < front
  pub within : x.from ≤ piece
  pub all_listed : reports ≤ numbers
  pub has_room : x.at + room (2 + numbers) ≤ out

-- the answer lines of records stand in the output from a place on, and the memory is what the rules say
pub record Answered (z : Rooms) (rs : List (List ℕ)) (m after : Mem base) (before out : List ℕ) (at next : ℕ) : Type 0 where
  pub lines : Laid before out at next (replayed z rs m)
  pub memory : after ≡ memory_after z rs m

-- p had come, and in s, which begins at a place, a record ends before `past`: it was performed, and nothing is held of the next
pub record Ends (z : Rooms) (p s : List ℕ) (from past : ℕ) (front : List ℕ) (h : Held) (m after : Mem base) (before out : List ℕ) (at next : ℕ) : Type 0 where
  pub k : ℕ
  pub end : first_end (p ++ s) ≡ some k
  pub past_end : k + 2 ≡ length p + (past - from)
  pub answered : Answered z (take k (p ++ s) ∷ []) m after before out at next
  pub holds : Holds [] front h

-- no record ends there: nothing is performed, nothing is put, and all of it is held
pub record Waits (p s : List ℕ) (front : List ℕ) (h : Held) (m after : Mem base) (before out : List ℕ) (at next : ℕ) : Type 0 where
  pub holds : Holds (p ++ s) front h
  pub memory : after ≡ m
  pub output : out ≡ before
  pub place : next ≡ at

abbrev pub Turned : Rooms → List ℕ → List ℕ → Place → List ℕ → Mem base → Mem base → List ℕ → List ℕ → Turn → Type 0
Turned z p s start front m after before out (Turn.Answered x) = Ends z p s start.from x.from front x.held m after before out start.at x.at
Turned z p s start front m after before out (Turn.More x) = Waits p s front x.held m after before out start.at x.at

-- what is held is sane, and the places are in the piece and in the output
pub record Stands (piece front out : ℕ) (x : Place) : Type 0 where
  pub sane : Sane front x.held
  pub within : x.from ≤ piece
  pub put : x.at ≤ out

-- after a record the work stands further in the piece; where there is none, at its end
abbrev pub Placed : ℕ → ℕ → ℕ → Place → Turn → Type 0
Placed piece front out start (Turn.Answered x) = (Stands piece front out x) × (start.from < x.from)
Placed piece front out start (Turn.More x) = (Stands piece front out x) × (x.from ≡ piece)

-- ---- a record of which only the front was kept

cut_front : (p front : List ℕ) (h : Held) → Holds p front h → take h.count p ≡ take (length front) p
cut_front p front h e = by (ltb (length p) (length front)) refl
  where
    by : (b : Bool) → ltb (length p) (length front) ≡ b → take h.count p ≡ take (length front) p
    by true q =
        take_all h.count p (omega (arith, ltb-true (length p) (length front) q, e.counted))
        ∙ sym (take_all (length front) p (omega (arith, ltb-true (length p) (length front) q)))
    by false q = let f : h.count ≡ length front = omega (arith, ltb-false (length p) (length front) q, e.counted) in ap (λ (k : ℕ). take k p) f

module _ (z : Rooms) (m after : Mem base) (before out : List ℕ) (at next : ℕ) where
  -- the front means what the record means, where it is longer than any call
  front_answers : (q given : List ℕ) (n : ℕ) → longest < n → given ≡ take n q
      → Laid before out at next (performed z (meaning given) m).line → after ≡ (performed z (meaning given) m).after → Answered z (q ∷ []) m after before out at next
  front_answers q given n h e x y =
      let f : meaning given ≡ meaning q = ap meaning e ∙ cut_means_the_same n q h in
      record {
        lines = laid_as x (ap (λ (l : Line). (performed z l m).line) f ∙ sym (replayed_one z q m));
        memory = y ∙ ap (λ (l : Line). (performed z l m).after) f ∙ sym (memory_after_one z q m);
      }

  pub record_answers : (p s front given : List ℕ) (from count past : ℕ) (h : Held) → suc longest < length front → given ≡ take count front → Ended p s from front count past → Holds [] front h
      → Laid before out at next (performed z (meaning given) m).line → after ≡ (performed z (meaning given) m).after → Ends z p s from past front h m after before out at next
  record_answers p s front given from count past h l g e w x y =
      record {
        k = e.k;
        end = e.end;
        past_end = e.past;
        answered = front_answers (take e.k (p ++ s)) given (length front - 1) (omega arith) (g ∙ e.given) x y;
        holds = w;
      }

  -- what has come at the end of the text is the last record
  pub rest_answers : (p front given : List ℕ) (h : Held) → suc longest < length front → 0 < h.count → given ≡ take h.count front → Holds p front h
      → Laid before out at next (performed z (meaning given) m).line → after ≡ (performed z (meaning given) m).after → Answered z (records p) m after before out at next
  rest_answers [] front given h l c g e x y = absurd (omega (arith, e.counted))
  rest_answers (a ∷ p) front given h l c g e x y =
      let q : (a ∷ p) ∷ [] ≡ records (a ∷ p) = sym (no_end_one_record a p e.no_end) in
      rw q at (front_answers (a ∷ p) given (length front) (omega arith) (g ∙ e.kept ∙ cut_front (a ∷ p) front h e) x y)

-- or there is none, where nothing has come
pub no_rest : (z : Rooms) (p front : List ℕ) (h : Held) (m : Mem base) (before : List ℕ) → 0 < length front → h.count ≡ 0 → Holds p front h → Answered z (records p) m m before before 0 0
unfolding records replayed memory_after
no_rest z [] front h m before l c e = record { lines = laid_none before 0; memory = refl }
no_rest z (a ∷ p) front h m before l c e = absurd (omega (arith, e.counted))

-- ---- what the scanner answered, as the code told it

pub told_record : (n : Next) (room from size count at : ℕ) → n ≡ Next.Record count at → Within room from size n → (count ≤ room) × ((from < at) × (at ≤ size))
told_record n room from size count at e w = rw e at w

pub told_ended : (n : Next) (p s front : List ℕ) (from count at : ℕ) → n ≡ Next.Record count at → Handed p s from front n → Ended p s from front count at
told_ended n p s front from count at e w = rw e at w

pub told_more : (n : Next) (room from size : ℕ) (h : Held) → n ≡ Next.More h → Within room from size n → Sane room h
told_more n room from size h e w = rw e at w

pub told_holds : (n : Next) (p s front : List ℕ) (from : ℕ) (h : Held) → n ≡ Next.More h → Handed p s from front n → Holds (p ++ s) front h
told_holds n p s front from h e w = rw e at w

-- a buffer keeps its length
pub sane_as : (a b : ℕ) (h : Held) → a ≡ b → Sane a h → Sane b h
sane_as a b h e w = rw e at w
