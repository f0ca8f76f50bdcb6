-- The two calls from the search that they share: which rows its marks stand for, and which test comes last.
use Rattle.std.specs.Prelude.{ℕ, ◌≤◌, ◌≡◌}
use mathlib.Core.List.{List, []}
use Rattle.std.proofs.Math.Path.{sym, ap}
use Rattle.std.proofs.Common.{◌∙◌}
use Rattle.kinds.specs.Verdict.{Verdict}
use Rattle.words.specs.Sizes.{base}
use Rattle.words.specs.Lists.{fold}
use Rattle.rules.specs.Memory.{Mem, size_r, slot_at}
use Rattle.rules.specs.Outcome.{each, refuse}
use Rattle.rules.specs.Verdicts.{verdict}
use Rattle.rules.proofs.Verdicts.{guard_fine, guard_refused}
use Rattle.rules.specs.Lookup.{find, candidate_tests, own_row_tests, own_rows, rows_to_read}
use Rattle.finds.specs.Marks.{marked}
use Rattle.lookup.specs.RowLaws.{zeros, ones, rows_marked, rows_all}
use Rattle.lookup.specs.LookupRest.{end_by, search_out, rows_out, lookup_rest, lookup_all_rest, end_by_lem}

module _ (m : Mem base) (s key room : ℕ) (few : size_r m ≤ base.rows) where
  -- no test comes after all rows
  pub search_all : search_out m s key ones Verdict.Fine room ≡ lookup_all_rest m s key room
  unfolding lookup_all_rest verdict
  search_all =
      ap (λ (rows : List ℕ). end_by m s Verdict.Fine (find m (slot_at m s) key room rows)) (rows_all m few)
      ∙ end_by_lem m s [] (find m (slot_at m s) key room _)

  pub search_rows : (cands marks : List ℕ) (v : Verdict) → v ≡ verdict (each (own_row_tests m) (own_rows (slot_at m s).writes))
      → marks ≡ fold marked (own_rows (slot_at m s).writes) (fold marked cands zeros)
      → search_out m s key marks v room ≡ rows_out m s key cands room
  search_rows cands marks v e h =
      let ws = (slot_at m s).writes in
      let found = find m (slot_at m s) key room (rows_to_read m ws cands) in
      ap (λ (rows : List ℕ). end_by m s v (find m (slot_at m s) key room rows)) (rows_marked m few ws cands marks h)
      ∙ ap (λ (w : Verdict). end_by m s w found) e
      ∙ end_by_lem m s (each (own_row_tests m) (own_rows ws)) found

-- 6 comes before any row is read
module _ (m : Mem base) (s key : ℕ) (cands : List ℕ) (room : ℕ) where
  pub lookup_refused : (k x : ℕ) → verdict (each (candidate_tests m) cands) ≡ Verdict.Refused k x → lookup_rest m s key cands room ≡ refuse m k x
  unfolding lookup_rest
  lookup_refused k x e = guard_refused (refuse m) _ _ k x e

  pub lookup_goes_on : verdict (each (candidate_tests m) cands) ≡ Verdict.Fine → rows_out m s key cands room ≡ lookup_rest m s key cands room
  unfolding lookup_rest
  lookup_goes_on e = sym (guard_fine (refuse m) _ _ e)
