-- From what a public call answers to what a record does.
use Rattle.std.specs.Prelude.{ℕ, ◌+◌, ◌*◌, ◌<◌, ◌≤◌, ◌≡◌, length, get_or, take, drop, set}
use mathlib.Core.List.{List, [], ◌∷◌, ◌++◌, append-nil, append_assoc}
use Rattle.std.proofs.Math.Option.{none, some}
use Rattle.std.proofs.Math.Path.{refl, sym, ap}
use Rattle.std.proofs.Common.{◌∙◌, add-one, arith, length-take, length-append, take_at, take-suc, take-suc-set}
use Rattle.std.proofs.lemmas.List.Edits.{sets, sets-eq}
use Rattle.std.proofs.Math.Seq.{length-sets, length-take-le}
use Rattle.kinds.specs.ReadAnswer.{ReadAnswer}
use Rattle.kinds.specs.Answer.{Answer}
use Rattle.words.specs.Sizes.{base}
use Rattle.rules.specs.Memory.{Mem}
use Rattle.rules.specs.Lent.{Words, Arrays}
use Rattle.rules.specs.Outcome.{Outcome, out}
use Rattle.rules.specs.Run.{step}
use Rattle.rules.specs.Create.{create_out}
use Rattle.rules.specs.Begin.{begin_out}
use Rattle.rules.specs.Read.{read_out}
use Rattle.rules.specs.Write.{write_out}
use Rattle.rules.specs.Commit.{commit_out}
use Rattle.rules.specs.Abort.{abort_out}
use Rattle.rules.specs.Vacuum.{vacuum_out}
use Rattle.rules.specs.Lookup.{lookup_all_out}
use Rattle.lines.specs.declared.Line.{Line}
use Rattle.lines.specs.Lines.{meaning}
use Rattle.digits.specs.Numbers.{Laid}
use Rattle.answers.specs.Answers.{fields, answer, crlf, room, wOk, wNone, wEmpty, wKey, wRefused}
use Rattle.answers.specs.Laws.{list_fits}
use Rattle.std.specs.Prelude.{Option as Maybe, Some, None, Result}
use Rattle.kinds.specs.Versions.{given}
use Rattle.kinds.specs.declared.Cell.{Cell}
use Rattle.kinds.specs.declared.Begun.{Begun}
use Rattle.kinds.specs.declared.Reading.{Reading}
use Rattle.kinds.specs.declared.Vacuumed.{Vacuumed}
use Rattle.kinds.specs.declared.refusals.Refusal.{Refusal}
use Rattle.kinds.specs.Results.{done, begun, wrote, seen, vacuumed, listed}
use Rattle.perform.specs.declared.Said.{Said}
use Rattle.perform.specs.Perform.{Rooms, read_text, answer_text, count_of, cells_of, said_text, performed, replayed, memory_after}
use Rattle.perform.specs.Counted.{vacuum_counted, lookup_all_counted}

abbrev pub rooms : ℕ → ℕ → Rooms
rooms a b = record { reports = a; results = b }

-- of the lent buffers
abbrev pub rooms_in : Arrays → Words → Rooms
rooms_in reports numbers = rooms (length reports.entry.now) (length numbers.entry.now)

-- the line is what the rules' call says, and so is the memory after it
pub record Acted (z : Rooms) (l : Line) (m after : Mem base) (s : Said) (numbers : List ℕ) : Type 0 where
  pub text : said_text s numbers ≡ (performed z l m).line
  pub memory : after ≡ (performed z l m).after

-- the same of a call that lists nothing, whatever the buffers of lists are
abbrev pub Plain : Line → Mem base → Mem base → Said → Type 0
Plain l m after s = (z : Rooms) (numbers : List ℕ) → Acted z l m after s numbers

-- the line of a write: of a key, or of none
abbrev pub written : ℕ → ℕ → ℕ → Maybe ℕ → Line
written s id row (Some k) = Line.Write s id row k
written s id row None = Line.Delete s id row

-- a call with a list: its answer, the memory after it, and its list at the front of the numbers
pub record Told {B : Type 0} (o : Outcome base Answer B) (l : List ℕ) (a : Answer) (after : Mem base) (numbers : List ℕ) : Type 0 where
  pub answer : a ≡ o.answer
  pub memory : after ≡ o.after
  pub list : take (count_of a) numbers ≡ l

-- ---- the cells of reports, copied

pub cells_none : (rs : List (List ℕ)) (ns : List ℕ) → take 0 ns ≡ cells_of (take 0 rs)
unfolding cells_of
cells_none rs ns = refl

cells_snoc : (l : List (List ℕ)) (r : List ℕ) → cells_of (l ++ (r ∷ [])) ≡ cells_of l ++ (get_or r 0 0 ∷ [])
unfolding cells_of
cells_snoc [] r = refl
cells_snoc (q ∷ l) r = ap (λ (k : List ℕ). get_or q 0 0 ∷ k) (cells_snoc l r)

pub cells_more : (rs : List (List ℕ)) (ns : List ℕ) (i : ℕ) → i < length rs → i < length ns → take i ns ≡ cells_of (take i rs)
    → take (i + 1) (set ns i (get_or (get_or rs i []) 0 0)) ≡ cells_of (take (i + 1) rs)
cells_more rs ns i h g e =
    rw (add-one i, take-suc-set ns i (get_or (get_or rs i []) 0 0) g, take-suc rs i [] h, e) (sym (cells_snoc (take i rs) (get_or rs i [])))

-- what was put at a buffer's front stands there
pub front_put : {A : Type 0} (b l : List A) (n : ℕ) → n ≡ length l → length l ≤ length b → take n (sets b 0 l) ≡ l
front_put b l n e h = rw (sets-eq l b 0 (omega arith)) (take_at l (drop (0 + length l) b) n (sym e))

module _ (m after : Mem base) (a : Answer) where
  -- the cells of a vacuum's reports
  module _ (row request : ℕ) (reports : List (List ℕ)) (e : out a (vacuum_out m row request (length reports)).front after ≡ vacuum_out m row request (length reports)) where
    abbrev swept : Outcome base Answer (List ℕ)
    swept = vacuum_out m row request (length reports)

    answer_is : a ≡ swept.answer
    answer_is = ap (λ (o : Outcome base Answer (List ℕ)). o.answer) e

    count_is : count_of a ≡ length swept.front
    count_is = ap count_of answer_is ∙ (vacuum_counted (length reports) m row request).count

    -- k is the count that the code took from the answer
    pub swept_fits : (filled : List (List ℕ)) (numbers : List ℕ) (k : ℕ) → filled ≡ sets reports 0 swept.front → k ≡ count_of a → length reports ≤ length numbers
        → (k ≤ length filled) × (k ≤ length numbers)
    swept_fits filled numbers k f q h =
        let g : count_of a ≤ length reports = omega (arith, count_is, (vacuum_counted (length reports) m row request).fits) in
        let i : length filled ≡ length reports = ap length f ∙ length-sets reports 0 swept.front in
        (omega arith, omega arith)

    -- the first reports, as many as the code counted
    pub swept_taken : (filled : List (List ℕ)) (k : ℕ) → filled ≡ sets reports 0 swept.front → k ≡ count_of a → length (take k filled) ≡ k
    swept_taken filled k f q =
        let g : length swept.front ≤ length reports = (vacuum_counted (length reports) m row request).fits in
        let i : length filled ≡ length reports = ap length f ∙ length-sets reports 0 swept.front in
        length-take-le k filled (omega (arith, count_is))

    pub swept_told : (filled : List (List ℕ)) (numbers : List ℕ) (k : ℕ) → filled ≡ sets reports 0 swept.front → k ≡ count_of a → take k numbers ≡ cells_of (take k filled)
        → Told swept (cells_of swept.front) a after numbers
    swept_told filled numbers k f q g =
        record {
          answer = answer_is;
          memory = ap (λ (o : Outcome base Answer (List ℕ)). o.after) e;
          list = rw q at g ∙ ap cells_of (ap (take (count_of a)) f ∙ front_put reports swept.front (count_of a) count_is (vacuum_counted (length reports) m row request).fits);
        }

  -- the rows of a find
  pub found_told : (s id key : ℕ) (before numbers : List ℕ) → out a (lookup_all_out m s id key (length before)).front after ≡ lookup_all_out m s id key (length before)
      → numbers ≡ sets before 0 (lookup_all_out m s id key (length before)).front
      → Told (lookup_all_out m s id key (length before)) (lookup_all_out m s id key (length before)).front a after numbers
  found_told s id key before numbers e f =
      let c = lookup_all_counted (length before) m s id key in
      let q : a ≡ (lookup_all_out m s id key (length before)).answer = ap (λ (o : Outcome base Answer ℕ). o.answer) e in
      record {
        answer = q;
        memory = ap (λ (o : Outcome base Answer ℕ). o.after) e;
        list = ap (take (count_of a)) f ∙ front_put before (lookup_all_out m s id key (length before)).front (count_of a) (ap count_of q ∙ c.count) c.fits;
      }

-- a line as the code told it
pub acted_as : {z : Rooms} {l k : Line} {m after : Mem base} {s : Said} {numbers : List ℕ} → l ≡ k → Acted z k m after s numbers → Acted z l m after s numbers
acted_as {z} {l} {k} {m} {after} {s} {numbers} e x = rw e x

pub line_as : (z : Rooms) (m : Mem base) (k l : Line) (s : List ℕ) → s ≡ (performed z k m).line → k ≡ l → s ≡ (performed z l m).line
line_as z m k l s e q = e ∙ ap (λ (l : Line). (performed z l m).line) q

pub after_as : (z : Rooms) (m : Mem base) (k l : Line) (n : Mem base) → n ≡ (performed z k m).after → k ≡ l → n ≡ (performed z l m).after
after_as z m k l n e q = e ∙ ap (λ (l : Line). (performed z l m).after) q

-- the front of a list has room where the list has
pub front_room : (l f : List ℕ) (n at size : ℕ) → f ≡ take n l → at + room (2 + length l) ≤ size → at + room (2 + length f) ≤ size
front_room l f n at size e h = omega (arith, ap length e ∙ length-take n l)

-- ---- how long a line can be

fields_room : (ns : List ℕ) → length (fields ns) ≤ 21 * length ns
fields_room ns =
    let x : Laid [] (sets [] 0 (fields ns)) 0 (length (fields ns)) (fields ns) = record { bytes = refl; past = omega arith } in
    omega (arith, list_fits ns x)

line_room : (w ns : List ℕ) (k : ℕ) → length w ≤ 7 → length ns ≤ k → length (answer w ns) ≤ room k
unfolding answer
line_room w ns k h g = rw (length-append w (fields ns ++ crlf), length-append (fields ns) crlf) (omega (arith, fields_room ns))

read_room : (a : ReadAnswer) (k : ℕ) → 1 ≤ k → length (read_text a) ≤ room k
read_room ReadAnswer.None k h = line_room wNone [] k (omega arith) (omega arith)
read_room ReadAnswer.Empty k h = line_room wEmpty [] k (omega arith) (omega arith)
read_room (ReadAnswer.Key n) k h = line_room wKey (n ∷ []) k (omega arith) h
read_room (ReadAnswer.Refused n x) k h = line_room wRefused (n ∷ []) k (omega arith) h

answer_room : (a : Answer) (l : List ℕ) (k : ℕ) → 2 + length l ≤ k → length (answer_text a l) ≤ room k
answer_room Answer.Done l k h = line_room wOk [] k (omega arith) (omega arith)
answer_room (Answer.Begun slot id) l k h = line_room wOk (slot ∷ id.0 ∷ []) k (omega arith) (omega arith)
answer_room (Answer.Wrote cell) l k h = line_room wOk (cell.0 ∷ []) k (omega arith) (omega arith)
answer_room (Answer.Vacuumed count live) l k h = line_room wOk (count ∷ l) k (omega arith) (omega arith)
answer_room (Answer.Listed count) l k h = line_room wOk l k (omega arith) (omega arith)
answer_room (Answer.Refused n x) l k h = line_room wRefused (n ∷ []) k (omega arith) (omega arith)

listed_room : (a : Answer) (l : List ℕ) → length (answer_text a (take (count_of a) l)) ≤ room (2 + length l)
listed_room a l = answer_room a (take (count_of a) l) (2 + length l) (omega (arith, length-take (count_of a) l))

said_room : (s : Said) (l : List ℕ) → length (said_text s l) ≤ room (2 + length l)
said_room Said.Other l = line_room wRefused (0 ∷ []) (2 + length l) (omega arith) (omega arith)
said_room (Said.Done a) l = answer_room (done a) [] (2 + length l) (omega arith)
said_room (Said.Begun a) l = answer_room (begun a) [] (2 + length l) (omega arith)
said_room (Said.Wrote a) l = answer_room (wrote a) [] (2 + length l) (omega arith)
said_room (Said.Looked a) l = read_room (seen a) (2 + length l) (omega arith)
said_room (Said.Swept a) l = listed_room (vacuumed a) l
said_room (Said.Listed a) l = listed_room (listed a) l

pub said_fits : {a b : List ℕ} {at next : ℕ} (s : Said) (l : List ℕ) → Laid a b at next (said_text s l) → next ≤ at + room (2 + length l)
said_fits s l x = omega (arith, x.past, said_room s l)

-- ---- each line

module _ (z : Rooms) (m after : Mem base) (numbers : List ℕ) where
  -- a call that lists nothing
  pub store_acted : (a : Result (Unit {0}) Refusal) (n r : ℕ) → out (done a) [] after ≡ create_out m n r → Acted z (Line.Store n r) m after (Said.Done a) numbers
  unfolding performed step
  store_acted a n r e = record { text = ap (λ (o : Outcome base Answer ℕ). answer_text o.answer o.front) e; memory = ap (λ (o : Outcome base Answer ℕ). o.after) e }

  pub begin_acted : (a : Result Begun Refusal) → out (begun a) [] after ≡ begin_out m → Acted z Line.Begin m after (Said.Begun a) numbers
  unfolding performed step
  begin_acted a e = record { text = ap (λ (o : Outcome base Answer ℕ). answer_text o.answer o.front) e; memory = ap (λ (o : Outcome base Answer ℕ). o.after) e }

  pub write_acted : (a : Result Cell Refusal) (s id row key : ℕ) → out (wrote a) [] after ≡ write_out m s id row (some key) → Acted z (Line.Write s id row key) m after (Said.Wrote a) numbers
  unfolding performed step
  write_acted a s id row key e = record { text = ap (λ (o : Outcome base Answer ℕ). answer_text o.answer o.front) e; memory = ap (λ (o : Outcome base Answer ℕ). o.after) e }

  pub delete_acted : (a : Result Cell Refusal) (s id row : ℕ) → out (wrote a) [] after ≡ write_out m s id row none → Acted z (Line.Delete s id row) m after (Said.Wrote a) numbers
  unfolding performed step
  delete_acted a s id row e = record { text = ap (λ (o : Outcome base Answer ℕ). answer_text o.answer o.front) e; memory = ap (λ (o : Outcome base Answer ℕ). o.after) e }

  -- either
  pub put_acted : (a : Result Cell Refusal) (s id row : ℕ) (v : Maybe ℕ) → out (wrote a) [] after ≡ write_out m s id row (given v) → Acted z (written s id row v) m after (Said.Wrote a) numbers
  put_acted a s id row (Some k) e = write_acted a s id row k e
  put_acted a s id row None e = delete_acted a s id row e

  pub commit_acted : (a : Result (Unit {0}) Refusal) (s id : ℕ) → out (done a) [] after ≡ commit_out m s id → Acted z (Line.Commit s id) m after (Said.Done a) numbers
  unfolding performed step
  commit_acted a s id e = record { text = ap (λ (o : Outcome base Answer ℕ). answer_text o.answer o.front) e; memory = ap (λ (o : Outcome base Answer ℕ). o.after) e }

  pub abort_acted : (a : Result (Unit {0}) Refusal) (s id : ℕ) → out (done a) [] after ≡ abort_out m s id → Acted z (Line.Abort s id) m after (Said.Done a) numbers
  unfolding performed step
  abort_acted a s id e = record { text = ap (λ (o : Outcome base Answer ℕ). answer_text o.answer o.front) e; memory = ap (λ (o : Outcome base Answer ℕ). o.after) e }

  -- a call with a list
  pub vacuum_acted : (a : Result Vacuumed Refusal) (row request : ℕ) → Told (vacuum_out m row request z.reports) (cells_of (vacuum_out m row request z.reports).front) (vacuumed a) after numbers
      → Acted z (Line.Vacuum row request) m after (Said.Swept a) numbers
  unfolding performed step
  vacuum_acted a row request t = record { text = ap (answer_text (vacuumed a)) t.list ∙ ap (λ (b : Answer). answer_text b (cells_of (vacuum_out m row request z.reports).front)) t.answer; memory = t.memory }

  pub find_acted : (a : Result ℕ Refusal) (s id key : ℕ) → Told (lookup_all_out m s id key z.results) (lookup_all_out m s id key z.results).front (listed a) after numbers
      → Acted z (Line.Find s id key) m after (Said.Listed a) numbers
  unfolding performed step
  find_acted a s id key t = record { text = ap (answer_text (listed a)) t.list ∙ ap (λ (b : Answer). answer_text b (lookup_all_out m s id key z.results).front) t.answer; memory = t.memory }

  pub read_acted : (a : Result Reading Refusal) (s id row : ℕ) → out (seen a) [] after ≡ read_out m s id row → Acted z (Line.Read s id row) m after (Said.Looked a) numbers
  unfolding performed step
  read_acted a s id row e = record { text = ap (λ (o : Outcome base ReadAnswer ℕ). read_text o.answer) e; memory = ap (λ (o : Outcome base ReadAnswer ℕ). o.after) e }

  pub other_acted : after ≡ m → Acted z Line.Other m after Said.Other numbers
  unfolding performed
  other_acted e = record { text = refl; memory = e }

pub swept_as : {z : Rooms} {l : Line} {m after : Mem base} {a b : Result Vacuumed Refusal} {numbers : List ℕ} → a ≡ b → Acted z l m after (Said.Swept b) numbers → Acted z l m after (Said.Swept a) numbers
swept_as {z} {l} {m} {after} {a} {b} {numbers} e x = rw e x

-- ---- records one after the other

module _ (z : Rooms) where
  pub replayed_one : (r : List ℕ) (m : Mem base) → replayed z (r ∷ []) m ≡ (performed z (meaning r) m).line
  unfolding replayed
  replayed_one r m = append-nil (performed z (meaning r) m).line

  pub memory_after_one : (r : List ℕ) (m : Mem base) → memory_after z (r ∷ []) m ≡ (performed z (meaning r) m).after
  unfolding memory_after
  memory_after_one r m = refl

  pub memory_after_both : (rs ss : List (List ℕ)) (m : Mem base) → memory_after z (rs ++ ss) m ≡ memory_after z ss (memory_after z rs m)
  unfolding memory_after
  memory_after_both [] ss m = refl
  memory_after_both (r ∷ rs) ss m = memory_after_both rs ss (performed z (meaning r) m).after

  pub replayed_both : (rs ss : List (List ℕ)) (m : Mem base) → replayed z (rs ++ ss) m ≡ replayed z rs m ++ replayed z ss (memory_after z rs m)
  unfolding replayed memory_after
  replayed_both [] ss m = refl
  replayed_both (r ∷ rs) ss m =
      let x = performed z (meaning r) m in
      ap (λ (l : List ℕ). x.line ++ l) (replayed_both rs ss x.after) ∙ sym (append_assoc x.line (replayed z rs x.after) (replayed z ss (memory_after z rs x.after)))
