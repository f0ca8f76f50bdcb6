-- A search by what its scan came to: the ways out of the code that reads the marked rows.
use Rattle.std.specs.Prelude.{ℕ, ◌≤◌, List, ◌≡◌, length, take}
use Rattle.std.proofs.Common.{arith}
use Rattle.std.proofs.lemmas.List.Edits.{sets}
use Rattle.kinds.specs.Answer.{Answer, Listed}
use Rattle.kinds.specs.Verdict.{Verdict}
use Rattle.words.specs.Sizes.{base}
use Rattle.kinds.specs.Versions.{version_at}
use Rattle.rules.specs.Memory.{Mem, size_r, size_n, words_at, with_slot}
use Rattle.rules.specs.Theory.SlotLaws.{SlotOk}
use Rattle.gate.specs.FineLaws.{SlotFine}
use Rattle.finds.specs.Listing.{Listing}
use Rattle.finds.specs.Sweep.{note, sweep, sweep_rows, marked_rows}
use Rattle.finds.specs.FindLaws.{Got, find_stopped, find_rows}
use Rattle.lookup.specs.RowLaws.{marked_few}
use Rattle.lookup.specs.LookupRest.{Filled, search_out, end_stopped, end_late, end_listed}

-- u, d and l: the copy of the slot, the list and what the rows came to, at the end of the scan
module _ (m : Mem base) (s id : ℕ) (fine : SlotFine m s id) (wide : length (words_at m s) ≡ base.width) (key room : ℕ) (marks b : List ℕ)
    (long : base.rows ≤ length b) (v : Verdict) (u d : List ℕ) (l : Listing)
    (e : sweep u (note l d) ≡ sweep_rows (version_at m.cells) (size_n m) key room m.rows (marked_rows marks 0 (size_r m)) (sweep (words_at m s) (note (Listing.Rows 0) b))) where
  ok : SlotOk base (words_at m s)
  ok = record { long = omega arith; actives = fine.owner.actives; writes = fine.owner.writes; reads = fine.owner.reads }

  few : length (marked_rows marks 0 (size_r m)) ≤ base.rows
  few = omega (arith, marked_few marks (size_r m), fine.store.fits.few_rows)

  pub search_stopped : (k x : ℕ) (buffer : List ℕ) → l ≡ Listing.Stopped k x → Filled (search_out m s key marks v room) (Answer.Refused k x) m buffer buffer
  search_stopped k x buffer h =
      end_stopped m s v _ k x buffer (find_stopped m (words_at m s) ok key room (marked_rows marks 0 (size_r m)) b few long u d l e k x h)

  module _ (k : ℕ) (h : l ≡ Listing.Rows k) where
    listed : Got m (words_at m s) ok key room (marked_rows marks 0 (size_r m)) b few long u k d
    listed = find_rows m (words_at m s) ok key room (marked_rows marks 0 (size_r m)) b few long u d l e k h

    pub search_late : (j x : ℕ) (buffer : List ℕ) → v ≡ Verdict.Refused j x → Filled (search_out m s key marks v room) (Answer.Refused j x) m buffer buffer
    search_late j x buffer g = end_late m s v _ listed.recs (take k d) listed.is j x buffer g

    -- what is listed fits the caller's buffer
    pub search_fits : (k ≤ base.rows) × ((k ≤ room) × (length (take k d) ≡ k))
    search_fits = (listed.most, (listed.fits, listed.count))

    pub search_listed : (before after : List ℕ) → v ≡ Verdict.Fine → after ≡ sets before 0 (take k d) → Filled (search_out m s key marks v room) (Listed k) (with_slot m s u) before after
    search_listed before after g a = end_listed m s v _ listed.recs (take k d) listed.is k u before after g listed.count listed.saved a
