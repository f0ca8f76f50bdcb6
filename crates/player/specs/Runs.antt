-- A run of the replay program on a text: batches that go on from each other, and the last record.
use Rattle.std.specs.Prelude.{ℕ, ◌≤◌, List, [], ◌∷◌, ◌++◌, ◌≡◌, refl, length, take, drop}
use Rattle.std.proofs.Common.{append-nil, append_assoc, sym, ap, ◌∙◌, arith}
use Rattle.digits.specs.Numbers.{Laid}
use Rattle.answers.specs.Laws.{laid_length}
use Rattle.words.specs.Sizes.{base}
use Rattle.rules.specs.Memory.{Mem}
use Rattle.pieces.specs.declared.Held.{Held}
use Rattle.pieces.specs.Held.{Holds}
use Rattle.pieces.specs.Laws.{between}
use Rattle.pieces.proofs.Laws.{between_rest}
use Rattle.pieces.specs.Texts.{records, joined}
use Rattle.pieces.specs.Parts.{parts}
use Rattle.pieces.proofs.Parts.{records_go_on, drop_all}
use Rattle.perform.specs.Perform.{Rooms, replayed, memory_after}
use Rattle.perform.specs.Laws.{front_put, replayed_both, memory_after_both}
use Rattle.player.specs.Turns.{Answered}
use Rattle.player.specs.Batches.{Batched}

-- the parts that the batches of a piece take from a place on: each begins where the last one ended, and they come to the piece's end
pub data Takes (piece : List ℕ) : ℕ → List (List ℕ) → Type 0 where
  a_part : {from next : ℕ} {ss : List (List ℕ)} → from ≤ next → Takes piece next ss → Takes piece from (between piece from next ∷ ss)
  no_more : {from : ℕ} → length piece ≤ from → Takes piece from []

-- pieces, and the parts of each
pub data Cut : List (List ℕ) → List (List ℕ) → Type 0 where
  a_piece : {piece : List ℕ} {pieces ss ts : List (List ℕ)} → Takes piece 0 ss → Cut pieces ts → Cut (piece ∷ pieces) (ss ++ ts)
  no_piece : Cut [] []

-- what the contract of `play_batch` promises of a batch that starts at the output's front
abbrev pub BatchPromise : Rooms → List ℕ → Held → List ℕ → List ℕ → Held → Mem base → Mem base → List ℕ → List ℕ → ℕ → Type 0
BatchPromise z front h s front' h' m after before out at = (p : List ℕ) → Holds p front h → Batched z p s front' h' m after before out 0 at

-- what the contract of `answer_rest` promises
abbrev pub RestPromise : Rooms → List ℕ → Held → Mem base → Mem base → List ℕ → List ℕ → ℕ → Type 0
RestPromise z front h m after before out at = (p : List ℕ) → Holds p front h → Answered z (records p) m after before out 0 at

-- a run: what is held before it, the parts of the text that the batches took, the memory before and after, and what stood at the output's
-- front after each batch and after the last record
pub data Run (z : Rooms) : List ℕ → Held → List (List ℕ) → Mem base → Mem base → List (List ℕ) → Type 0 where
  a_batch : {front front' s before out : List ℕ} {h h' : Held} {m k after : Mem base} {at : ℕ} {ss outs : List (List ℕ)}
      → BatchPromise z front h s front' h' m k before out at → at ≤ length out → Run z front' h' ss k after outs → Run z front h (s ∷ ss) m after (take at out ∷ outs)
  the_rest : {front before out : List ℕ} {h : Held} {m after : Mem base} {at : ℕ}
      → RestPromise z front h m after before out at → at ≤ length out → Run z front h [] m after (take at out ∷ [])

-- the output of a text, and the memory after it
pub record Played (z : Rooms) (text : List ℕ) (m after : Mem base) (outs : List (List ℕ)) : Type 0 where
  pub output : joined outs ≡ replayed z (records text) m
  pub memory : after ≡ memory_after z (records text) m

-- ---- the parts of a piece are the piece

part_joins : {piece : List ℕ} {from : ℕ} {ss : List (List ℕ)} → Takes piece from ss → joined ss ≡ drop from piece
part_joins {piece} (a_part {from} {next} {ss} h t) = ap (λ (l : List ℕ). between piece from next ++ l) (part_joins t) ∙ between_rest piece from next h
part_joins {piece} (no_more {from} h) = sym (drop_all piece from h)

joined_both : (ss ts : List (List ℕ)) → joined (ss ++ ts) ≡ joined ss ++ joined ts
joined_both [] ts = refl
joined_both (s ∷ ss) ts = ap (λ (l : List ℕ). s ++ l) (joined_both ss ts) ∙ sym (append_assoc s (joined ss) (joined ts))

cut_joins : {pieces ss : List (List ℕ)} → Cut pieces ss → joined ss ≡ joined pieces
cut_joins (a_piece {piece} {pieces} {ss} {ts} t c) =
    joined_both ss ts ∙ ap (λ (l : List ℕ). l ++ joined ts) (part_joins t) ∙ ap (λ (l : List ℕ). piece ++ l) (cut_joins c)
cut_joins no_piece = refl

-- ---- a run

-- what was put at the front of the output is what is written
pub front_of_lem : {before out w : List ℕ} {at : ℕ} → Laid before out 0 at w → at ≤ length out → take at out ≡ w
front_of_lem {before} {out} {w} {at} x h =
    let f : length w ≤ length before = omega (arith, x.past, laid_length x) in
    rw x.bytes (front_put before w at (omega (arith, x.past)) f)

-- p has come since the last end
played : (z : Rooms) (p : List ℕ) {front : List ℕ} {h : Held} {ss outs : List (List ℕ)} {m after : Mem base}
    → Holds p front h → Run z front h ss m after outs → Played z (p ++ joined ss) m after outs
played z p x (a_batch {front} {front'} {s} {before} {out} {h} {h'} {m} {k} {after} {at} {ss} {outs} b l r) =
    let w = b p x in
    let i = played z (parts (p ++ s)).rest w.taken.holds r in
    let e : records (p ++ (s ++ joined ss)) ≡ (parts (p ++ s)).closed ++ records ((parts (p ++ s)).rest ++ joined ss) =
    ap records (sym (append_assoc p s (joined ss))) ∙ records_go_on (joined ss) (p ++ s) in
    record {
      output = ap (λ (l : List ℕ). l ++ joined outs) (front_of_lem w.lines l)
          ∙ ap (λ (l : List ℕ). replayed z (parts (p ++ s)).closed m ++ l) (i.output ∙ ap (replayed z (records ((parts (p ++ s)).rest ++ joined ss))) w.taken.memory)
          ∙ sym (replayed_both z (parts (p ++ s)).closed (records ((parts (p ++ s)).rest ++ joined ss)) m) ∙ ap (λ (l : List (List ℕ)). replayed z l m) (sym e);
      memory = i.memory ∙ ap (memory_after z (records ((parts (p ++ s)).rest ++ joined ss))) w.taken.memory
          ∙ sym (memory_after_both z (parts (p ++ s)).closed (records ((parts (p ++ s)).rest ++ joined ss)) m) ∙ ap (λ (l : List (List ℕ)). memory_after z l m) (sym e);
    }
played z p x (the_rest {front} {before} {out} {h} {m} {after} {at} b l) =
    let w = b p x in
    let e : p ≡ p ++ [] = sym (append-nil p) in
    record {
      output = append-nil (take at out) ∙ front_of_lem w.lines l ∙ ap (λ (t : List ℕ). replayed z (records t) m) e;
      memory = w.memory ∙ ap (λ (t : List ℕ). memory_after z (records t) m) e;
    }

-- however a text is cut into pieces, and these into batches: the outputs, one after the other, are the answers of the text's records, in
-- order, each once, and the memory is theirs
pub batches_answer_the_whole_text : (z : Rooms) {front : List ℕ} {h : Held} {pieces ss outs : List (List ℕ)} {m after : Mem base}
    → Holds [] front h → Cut pieces ss → Run z front h ss m after outs → Played z (joined pieces) m after outs
batches_answer_the_whole_text z x c r = rw (cut_joins c) at (played z [] x r)
