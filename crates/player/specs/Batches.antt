-- Many records: what a batch of them promises, and that batches go on from each other.
use Rattle.std.specs.Prelude.{ℕ, suc, ◌+◌, ◌-◌, ◌<◌, ◌≤◌, ◌≡◌, length, take, drop}
use mathlib.Core.List.{List, [], ◌∷◌, ◌++◌, append-nil, append_assoc}
use Rattle.std.proofs.Math.Path.{sym, ap}
use Rattle.std.proofs.Common.{◌∙◌, arith}
use Rattle.std.proofs.Math.Seq.{take-append-add}
use Rattle.digits.specs.Numbers.{Laid}
use Rattle.answers.specs.Laws.{laid_as, laid_none, laid_then}
use Rattle.words.specs.Sizes.{base}
use Rattle.rules.specs.Memory.{Mem}
use Rattle.pieces.specs.declared.Held.{Held}
use Rattle.pieces.specs.Parts.{Parts, parts, behind}
use Rattle.pieces.proofs.Parts.{no_end_no_part, parts_go_on, up_to_the_end}
use Rattle.pieces.specs.Held.{Holds}
use Rattle.pieces.specs.Laws.{between}
use Rattle.pieces.proofs.Laws.{between_none, between_joins, between_all}
use Rattle.perform.specs.Perform.{Rooms, replayed, memory_after}
use Rattle.perform.specs.Laws.{replayed_both, memory_after_both}
use Rattle.player.specs.declared.Place.{Place}
use Rattle.player.specs.declared.Turn.{Turn}
use Rattle.player.specs.Sizes.{longest_answer}
use Rattle.player.specs.Turns.{Ends, Waits, Turned, Stands, Placed}

-- p had come since the last end, and then s: the memory is that of the records that ended, and what stands behind the last end is held
pub record Taken (z : Rooms) (p s front : List ℕ) (h : Held) (m after : Mem base) : Type 0 where
  pub memory : after ≡ memory_after z (parts (p ++ s)).closed m
  pub holds : Holds (parts (p ++ s)).rest front h

-- what a batch promises: so it took s, and the answers of the records that ended stand in the output, in order, from a place on
pub record Batched (z : Rooms) (p s front : List ℕ) (h : Held) (m after : Mem base) (before out : List ℕ) (at next : ℕ) : Type 0 where
  pub taken : Taken z p s front h m after
  pub lines : Laid before out at next (replayed z (parts (p ++ s)).closed m)

-- a batch stands further in the piece than it started, unless it started at its end; and before the piece's end it stops only where the
-- longest answer has no room
pub record Moved (piece front out : ℕ) (start x : Place) : Type 0 where
  pub stands : Stands piece front out x
  pub forward : start.from ≤ x.from
  pub further : start.from < piece → start.from < x.from
  pub full : x.from < piece → out < x.at + longest_answer

-- ---- one after the other

module _ (z : Rooms) where
  -- nothing was taken
  pub taken_none : (p front : List ℕ) (h : Held) (m : Mem base) → Holds p front h → Taken z p [] front h m m
  unfolding memory_after
  taken_none p front h m x =
      let e : parts (p ++ []) ≡ record { closed = []; rest = p } = ap parts (append-nil p) ∙ no_end_no_part p x.no_end in
      record { memory = rw e; holds = rw e x }

  pub taken_then : {p u v front other : List ℕ} {h i : Held} {m k after : Mem base}
      → Taken z p u front h m k → Taken z (parts (p ++ u)).rest v other i k after → Taken z p (u ++ v) other i m after
  taken_then {p} {u} {v} {front} {other} {h} {i} {m} {k} {after} x y =
      let e : parts (p ++ (u ++ v)) ≡ behind (parts (p ++ u)).closed (parts ((parts (p ++ u)).rest ++ v)) = ap parts (sym (append_assoc p u v)) ∙ parts_go_on v (p ++ u) in
      record {
        memory = y.memory ∙ ap (memory_after z (parts ((parts (p ++ u)).rest ++ v)).closed) x.memory
            ∙ sym (memory_after_both z (parts (p ++ u)).closed (parts ((parts (p ++ u)).rest ++ v)).closed m) ∙ ap (λ (q : Parts). memory_after z q.closed m) (sym e);
        holds = rw e y.holds;
      }

  pub batched_none : (p front : List ℕ) (h : Held) (m : Mem base) (out : List ℕ) (at : ℕ) → Holds p front h → Batched z p [] front h m m out out at at
  unfolding replayed
  batched_none p front h m out at x =
      let e : [] ≡ replayed z (parts (p ++ [])).closed m =
      sym (ap (λ (q : Parts). replayed z q.closed m) (ap parts (append-nil p) ∙ no_end_no_part p x.no_end)) in
      record { taken = taken_none p front h m x; lines = laid_as (laid_none out at) e }

  pub batched_then : {p u v front other : List ℕ} {h i : Held} {m k after : Mem base} {a b c : List ℕ} {at mid next : ℕ}
      → Batched z p u front h m k a b at mid → Batched z (parts (p ++ u)).rest v other i k after b c mid next → Batched z p (u ++ v) other i m after a c at next
  batched_then {p} {u} {v} {front} {other} {h} {i} {m} {k} {after} x y =
      let e : parts (p ++ (u ++ v)) ≡ behind (parts (p ++ u)).closed (parts ((parts (p ++ u)).rest ++ v)) = ap parts (sym (append_assoc p u v)) ∙ parts_go_on v (p ++ u) in
      record {
        taken = taken_then x.taken y.taken;
        lines = laid_as (laid_then x.lines y.lines)
            (ap (λ (n : Mem base). replayed z (parts (p ++ u)).closed m ++ replayed z (parts ((parts (p ++ u)).rest ++ v)).closed n) x.taken.memory
            ∙ sym (replayed_both z (parts (p ++ u)).closed (parts ((parts (p ++ u)).rest ++ v)).closed m) ∙ ap (λ (q : Parts). replayed z q.closed m) (sym e));
      }

  -- ---- one record is a batch, and so is a piece in which none ends

  module _ (p s : List ℕ) (front : List ℕ) (h : Held) (m after : Mem base) (before out : List ℕ) (at next : ℕ) where
    ends_batched : (from past : ℕ) → Ends z p s from past front h m after before out at next → Batched z p (take (past - from) s) front h m after before out at next
    ends_batched from past x =
        let q : length p + (past - from) ≡ suc (suc x.k) = omega (arith, x.past_end) in
        let e : parts (p ++ take (past - from) s) ≡ record { closed = take x.k (p ++ s) ∷ []; rest = [] } =
        ap parts (sym (take-append-add p s (past - from)) ∙ ap (λ (n : ℕ). take n (p ++ s)) q) ∙ up_to_the_end (p ++ s) x.k x.end in
        record {
          taken = record { memory = rw e x.answered.memory; holds = rw e x.holds };
          lines = rw e x.answered.lines;
        }

    waits_batched : Waits p s front h m after before out at next → Batched z p s front h m after before out at next
    unfolding memory_after replayed
    waits_batched x =
        let e : parts (p ++ s) ≡ record { closed = []; rest = p ++ s } = no_end_no_part (p ++ s) x.holds.no_end in
        record {
          taken = record { memory = rw e x.memory; holds = rw e x.holds };
          lines = rw (e, x.output, x.place) (laid_none before at);
        }

-- ---- as the code goes

pub batched_start : (z : Rooms) (p piece : List ℕ) (from : ℕ) (front : List ℕ) (h : Held) (m : Mem base) (out : List ℕ) (at : ℕ) → Holds p front h
    → Batched z p (between piece from from) front h m m out out at at
batched_start z p piece from front h m out at x =
    let e : [] ≡ between piece from from = sym (between_none piece from) in
    rw e at (batched_none z p front h m out at x)

module _ (z : Rooms) (p piece : List ℕ) (start here x : Place) (f g : List ℕ) (m k after : Mem base) (a b c : List ℕ) where
  pub answered_then : (t : Turn) → t ≡ Turn.Answered x → start.from ≤ here.from → here.from < x.from
      → Batched z p (between piece start.from here.from) f here.held m k a b start.at here.at
      → Turned z (parts (p ++ between piece start.from here.from)).rest (drop here.from piece) here g k after b c t
      → Batched z p (between piece start.from x.from) g x.held m after a c start.at x.at
  answered_then t e l n v w =
      let q = between_joins piece start.from here.from x.from l (omega arith) in
      rw q at (batched_then z v (ends_batched z _ _ _ _ _ _ _ _ _ _ _ _ (rw e at w)))

  pub more_then : (t : Turn) → t ≡ Turn.More x → start.from ≤ here.from → here.from ≤ length piece → x.from ≡ length piece
      → Batched z p (between piece start.from here.from) f here.held m k a b start.at here.at
      → Turned z (parts (p ++ between piece start.from here.from)).rest (drop here.from piece) here g k after b c t
      → Batched z p (between piece start.from x.from) g x.held m after a c start.at x.at
  more_then t e l n d v w =
      let q = between_joins piece start.from here.from x.from l (omega arith) in
      let r : drop here.from piece ≡ between piece here.from x.from = sym (between_all piece here.from x.from (omega arith) (omega arith)) in
      rw q at (batched_then z v (rw r at (waits_batched z _ _ _ _ _ _ _ _ _ _ (rw e at w))))

-- ---- a piece, from its start

module _ (z : Rooms) (p piece : List ℕ) where
  pub taken_start : (from : ℕ) (front : List ℕ) (h : Held) (m : Mem base) → from ≡ 0 → Holds p front h → Taken z p (between piece 0 from) front h m m
  taken_start from front h m e x =
      let q : [] ≡ between piece 0 from = sym (ap (between piece 0) e ∙ between_none piece 0) in
      rw q at (taken_none z p front h m x)

  pub batch_then : (here x : Place) (f g : List ℕ) (m k after : Mem base) (b c : List ℕ) → here.from ≤ x.from → Taken z p (between piece 0 here.from) f here.held m k
      → Batched z (parts (p ++ between piece 0 here.from)).rest (between piece here.from x.from) g x.held k after b c here.at x.at
      → Taken z p (between piece 0 x.from) g x.held m after
  batch_then here x f g m k after b c l v w =
      let q = between_joins piece 0 here.from x.from (omega arith) l in
      rw q at (taken_then z v w.taken)

  pub all_taken : (from : ℕ) (front : List ℕ) (h : Held) (m after : Mem base) → length piece ≤ from → Taken z p (between piece 0 from) front h m after → Taken z p piece front h m after
  all_taken from front h m after l v = rw (between_all piece 0 from (omega arith) l) at v

-- ---- places, as the code told them

pub answered_placed : (t : Turn) (piece front out : ℕ) (start x : Place) → t ≡ Turn.Answered x → Placed piece front out start t → (Stands piece front out x) × (start.from < x.from)
answered_placed t piece front out start x e w = rw e at w

pub more_placed : (t : Turn) (piece front out : ℕ) (start x : Place) → t ≡ Turn.More x → Placed piece front out start t → (Stands piece front out x) × (x.from ≡ piece)
more_placed t piece front out start x e w = rw e at w
