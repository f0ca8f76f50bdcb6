-- A run by computation, so that `batches_answer_the_whole_text` speaks of something; and no output serves every text.
use Rattle.std.specs.Prelude.{ℕ, ◌<◌, Bool, true, false, List, [], ◌∷◌, ◌++◌, ◌≡◌, refl, length, take, replicate}
use Rattle.std.proofs.Common.{sym, ap, ◌∙◌, arith, take_all}
use Rattle.words.specs.Sizes.{base}
use Rattle.words.specs.Lists.{has, keep, first, least, greatest}
use Rattle.words.specs.Slots.{opened}
use Rattle.rules.specs.Memory.{Mem}
use Rattle.rules.specs.Snapshot.{occupied, vacant}
use Rattle.rules.specs.Outcome.{guard, fits, store_tests}
use Rattle.rules.specs.Create.{fresh_cells, created, create_out}
use Rattle.rules.specs.Begin.{ids_with, begin_words, begin_out}
use Rattle.rules.specs.Run.{step}
use Rattle.digits.specs.Numbers.{leads, all_digits, value_on, read_on, number_of, spell}
use Rattle.lines.specs.Lines.{split, same, word_of, number, done, call, line_of, meaning}
use Rattle.answers.specs.Answers.{fields, answer}
use Rattle.pieces.specs.declared.Held.{Held}
use Rattle.pieces.specs.Ends.{first_end}
use Rattle.pieces.specs.Held.{ends_cr, Holds}
use Rattle.pieces.specs.Texts.{records}
use Rattle.pieces.specs.Parts.{parts}
use Rattle.perform.specs.Perform.{Rooms, performed, replayed, memory_after}
use Rattle.perform.specs.Laws.{rooms}
use Rattle.player.specs.Zeroed.{zeroed}
use Rattle.player.specs.Runs.{a_part, no_more, Cut, a_piece, no_piece, BatchPromise, RestPromise, Run, a_batch, the_rest, batches_answer_the_whole_text}

-- where the buffer is longer than what is held, that is what has come
held_is : (p front : List ℕ) (h : Held) → Holds p front h → h.count < length front → p ≡ take h.count front
held_is p front h x l = sym (x.kept ∙ take_all h.count p (omega (arith, x.counted)))

-- ---- `store,1,1` on memory in which every word is 0, cut between its CR and its LF; then `begin`, without an end

abbrev store_text : List ℕ
store_text = 115 ∷ 116 ∷ 111 ∷ 114 ∷ 101 ∷ 44 ∷ 49 ∷ 44 ∷ 49 ∷ []

abbrev begin_text : List ℕ
begin_text = 98 ∷ 101 ∷ 103 ∷ 105 ∷ 110 ∷ []

-- `ok`, and `ok,0,1`: the slot and the id
abbrev ok_line : List ℕ
ok_line = 111 ∷ 107 ∷ 13 ∷ 10 ∷ []

abbrev begun_line : List ℕ
begun_line = 111 ∷ 107 ∷ 44 ∷ 48 ∷ 44 ∷ 49 ∷ 13 ∷ 10 ∷ []

abbrev zero_mem : Mem base
zero_mem = zeroed 1 1

-- a report and a number may be listed
abbrev one : Rooms
one = rooms 1 1

abbrev after_store : Mem base
after_store = memory_after one (store_text ∷ []) zero_mem

-- the buffers: 12 bytes for a record, 8 for the output
abbrev held : ℕ → Bool → Held
held n cr = record { count = n; cr = cr }

abbrev empty_front : List ℕ
empty_front = replicate 12 0

abbrev store_front : List ℕ
store_front = store_text ++ (13 ∷ 0 ∷ 0 ∷ [])

abbrev begin_front : List ℕ
begin_front = begin_text ++ (101 ∷ 44 ∷ 49 ∷ 44 ∷ 13 ∷ 0 ∷ 0 ∷ [])

abbrev empty_out : List ℕ
empty_out = replicate 8 0

nothing_ends : BatchPromise one empty_front (held 0 false) (store_text ++ (13 ∷ [])) store_front (held 10 true) zero_mem zero_mem empty_out empty_out 0
unfolding parts first_end ends_cr replayed memory_after
nothing_ends p x =
    rw (held_is p empty_front (held 0 false) x (omega arith))
    (record { taken = record { memory = refl; holds = record { no_end = refl; counted = refl; kept = refl; last = refl } }; lines = record { bytes = refl; past = refl } })

store_ends : BatchPromise one store_front (held 10 true) (10 ∷ begin_text) begin_front (held 5 false) zero_mem after_store empty_out (ok_line ++ (0 ∷ 0 ∷ 0 ∷ 0 ∷ [])) 4
unfolding parts first_end ends_cr replayed performed step meaning line_of call word_of same split number done number_of read_on value_on leads all_digits answer fields spell guard fits store_tests fresh_cells created create_out
store_ends p x =
    rw (held_is p store_front (held 10 true) x (omega arith))
    (record { taken = record { memory = refl; holds = record { no_end = refl; counted = refl; kept = refl; last = refl } }; lines = record { bytes = refl; past = refl } })

begin_is_last : RestPromise one begin_front (held 5 false) after_store (memory_after one (begin_text ∷ []) after_store) empty_out begun_line 8
unfolding records replayed memory_after performed step meaning line_of call word_of same split number done number_of read_on value_on leads all_digits answer fields spell guard fits store_tests fresh_cells created create_out has keep first least greatest occupied vacant opened ids_with begin_words begin_out
begin_is_last p x = rw (held_is p begin_front (held 5 false) x (omega arith)) (record { lines = record { bytes = refl; past = refl }; memory = refl })

-- one piece, in two batches
abbrev one_piece : List ℕ
one_piece = store_text ++ (13 ∷ 10 ∷ begin_text)

pub one_cut : Cut (one_piece ∷ []) ((store_text ++ (13 ∷ [])) ∷ (10 ∷ begin_text) ∷ [])
one_cut = a_piece {piece = one_piece} (a_part {from = 0} {next = 10} (omega arith) (a_part {from = 10} {next = 16} (omega arith) (no_more {from = 16} (omega arith)))) no_piece

pub one_run : Run one empty_front (held 0 false) ((store_text ++ (13 ∷ [])) ∷ (10 ∷ begin_text) ∷ []) zero_mem (memory_after one (begin_text ∷ []) after_store) ([] ∷ ok_line ∷ begun_line ∷ [])
one_run = a_batch nothing_ends (omega arith) (a_batch store_ends (omega arith) (the_rest begin_is_last (omega arith)))

-- ---- no output serves every text: not both the empty one and an empty record

pub no_output_serves_every_text : (z : Rooms) (front : List ℕ) (h : Held) (ss ts outs : List (List ℕ)) (m k n : Mem base) → Holds [] front h
    → Cut [] ss → Run z front h ss m k outs → Cut ((13 ∷ 10 ∷ []) ∷ []) ts → Run z front h ts m n outs → ⊥
unfolding records replayed performed meaning line_of call word_of same split answer fields spell
no_output_serves_every_text z front h ss ts outs m k n x c r d q =
    let e : ◌≡◌ {A = ℕ} 0 11 = ap length (sym (batches_answer_the_whole_text z x c r).output ∙ (batches_answer_the_whole_text z x d q).output) in
    omega arith
