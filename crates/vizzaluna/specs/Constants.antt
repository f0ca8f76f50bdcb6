-- The numbers that a host's header has to repeat, in the header's order.
use Rattle.std.specs.Prelude.{ℕ, List, [], ◌∷◌, length}
use Rattle.words.specs.Sizes.{base, last_id, ROWS, CELLS, CLOCK, FREE, meta_words, ID, LOW, TOP, ACTIVE, WRITES, READS}
use Rattle.rules.specs.Numbers.{bad_size, clock_spent, no_free_slot, bad_slot, not_owner, bad_row, row_locked, write_conflict, read_conflict, chain_too_long, no_room, write_set_full, read_set_full, result_full, damaged}
use Rattle.kinds.specs.Versions.{empty_version, words_of}
use Rattle.rules.specs.Vacuum.{report_of}
use Rattle.told.specs.Numbers.{no_version, no_key, a_key}

-- sizes; the words of an entry of each arena; places in meta; places in a slot; refusals; which of the three a read answers
unfoldable pub constants : List ℕ
constants =
    base.slots
    ∷ base.walk
    ∷ base.writes
    ∷ base.reads
    ∷ base.rows
    ∷ base.cells
    ∷ last_id
    ∷ meta_words
    ∷ length (words_of empty_version 0)
    ∷ base.width
    ∷ length (report_of [] 0)
    ∷ ROWS
    ∷ CELLS
    ∷ CLOCK
    ∷ FREE
    ∷ ID
    ∷ LOW
    ∷ TOP
    ∷ ACTIVE
    ∷ WRITES base
    ∷ READS base
    ∷ bad_size
    ∷ clock_spent
    ∷ no_free_slot
    ∷ bad_slot
    ∷ not_owner
    ∷ bad_row
    ∷ row_locked
    ∷ write_conflict
    ∷ read_conflict
    ∷ chain_too_long
    ∷ no_room
    ∷ write_set_full
    ∷ read_set_full
    ∷ result_full
    ∷ damaged
    ∷ no_version
    ∷ no_key
    ∷ a_key
    ∷ []
