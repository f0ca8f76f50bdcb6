-- What a read of one row comes to, for what the rules say; and the rules' read from what was found.
use Rattle.std.specs.Prelude.{ℕ, ◌<◌, min, List, [], ◌∷◌, ◌≡◌, length, get_or, leb}
use Rattle.std.proofs.Math.Bool.{true, false, cond}
use Rattle.std.proofs.Math.Option.{Option, none, some}
use Rattle.std.proofs.Math.Path.{refl}
use Rattle.std.proofs.Common.{sym, ◌∙◌, arith, leb-false}
use Rattle.rules.proofs.Theory.Cases.{by_bool}
use Rattle.kinds.specs.declared.Version.{Version}
use Rattle.words.specs.Sizes.{base, READS}
use Rattle.rules.specs.Numbers.{chain_too_long, read_set_full, damaged}
use Rattle.words.specs.Slots.{Write, Rec, rec, Slot, slot_of}
use Rattle.rules.specs.Chain.{Look, found, nothing, too_long, harmed, look}
use Rattle.rules.specs.Outcome.{is_cell}
use Rattle.rules.specs.Read as R
use Rattle.rules.specs.Read.{blocked, sees, own, recorded, sight_of, own_sight, read_row}
use Rattle.rules.proofs.Theory.SlotLaws.{length_threes}
use Rattle.std.specs.Prelude.{Result, Ok, Err}
use Rattle.kinds.specs.declared.refusals.Refusal.{Refusal}
use Rattle.kinds.specs.Results.{number, about}
use Rattle.arena.specs.declared.Broken.{Broken}
use Rattle.reads.specs.declared.Found.{Found}
use Rattle.reads.specs.declared.Sight.{Sight}
use Rattle.reads.specs.Found.{found_of}

abbrev pub told : ℕ → Result Sight Refusal → R.Sight
told row (Ok (Sight.Known c)) = sees c.0 []
told row (Ok (Sight.Fresh c x)) = sees c.0 (rec row c.0 x.0 ∷ [])
told row (Err e) = blocked (number e) (about e)

-- a version found at cell c: known, or recorded where there is room
unfoldable pub record_of : (ℕ → Version) → List Rec → ℕ → ℕ → R.Sight
record_of f recs row c = cond (recorded c recs) (sees c []) (cond (leb base.reads (length recs)) (blocked read_set_full row) (sees c (rec row c (f c).xmin.0 ∷ [])))

abbrev pub sight_found : (ℕ → Version) → List Rec → ℕ → Result Found Broken → R.Sight
sight_found f recs row (Ok (Found.Own c)) = sees c.0 []
sight_found f recs row (Ok (Found.Version c)) = record_of f recs row c.0
sight_found f recs row (Ok Found.Nothing) = sees 0 []
sight_found f recs row (Err Broken.TooLong) = blocked chain_too_long row
sight_found f recs row (Err Broken.Harmed) = blocked damaged 0

module _ (n : ℕ) (f : ℕ → Version) (head : ℕ) (t : Slot) (recs : List Rec) (row : ℕ) where
  along_look : (k : Look) → sight_of base n f head t recs row k ≡ sight_found f recs row (found_of n none k)
  unfolding sight_of found_of record_of
  along_look (found c) = refl
  along_look nothing = refl
  along_look too_long = refl
  along_look harmed = refl

  by_own : (o : Option Write) → own_sight base n f head t recs row o ≡ sight_found f recs row (found_of n o (look n t f base.walk head))
  unfolding own_sight found_of
  by_own none = along_look (look n t f base.walk head)
  by_own (some w) = by (is_cell n w.new) refl
    where
      by : (b : _) → is_cell n w.new ≡ b → cond (is_cell n w.new) (sees w.new []) (blocked damaged 0) ≡ sight_found f recs row (found_of n (some w) (look n t f base.walk head))
      by true e = rw e
      by false e = rw e

  -- the rules' read of a row, from what is found
  pub read_row_is : read_row base n f head t recs row ≡ sight_found f recs row (found_of n (own t.writes row) (look n t f base.walk head))
  unfolding read_row
  read_row_is = by_own (own t.writes row)

-- the records that stand: as many as the count says, up to the limit
pub records_count : (t : List ℕ) → length (slot_of base t).recs ≡ min (get_or t (READS base) 0) base.reads
unfolding slot_of
records_count t = length_threes rec t _ _

-- where a record is to be added, there is room for it
found_room : (f : ℕ → Version) (recs : List Rec) (row c : ℕ) (q : Rec) (l : List Rec) (k : Result Found Broken) → sight_found f recs row k ≡ sees c (q ∷ l) → length recs < base.reads
unfolding record_of
found_room f recs row c q l (Ok (Found.Own d)) e = cc
found_room f recs row c q l (Ok Found.Nothing) e = cc
found_room f recs row c q l (Err Broken.TooLong) e = cc
found_room f recs row c q l (Err Broken.Harmed) e = cc
found_room f recs row c q l (Ok (Found.Version d)) e = by_bool (recorded d.0 recs)
    (λ a. let g = rw a at e in cc)
    (λ a. by_bool (leb base.reads (length recs))
    (λ b. let g = rw (a, b) at e in cc)
    (λ b. leb-false base.reads (length recs) b))

pub fresh_room : (n : ℕ) (f : ℕ → Version) (head : ℕ) (t : List ℕ) (row c : ℕ) (q : Rec) (l : List Rec)
    → sees c (q ∷ l) ≡ read_row base n f head (slot_of base t) (slot_of base t).recs row → get_or t (READS base) 0 < base.reads
fresh_room n f head t row c q l e =
    let k = found_of n (own (slot_of base t).writes row) (look n (slot_of base t) f base.walk head) in
    let r = found_room f (slot_of base t).recs row c q l k (sym (e ∙ read_row_is n f head (slot_of base t) (slot_of base t).recs row)) in
    omega (arith, records_count t)
