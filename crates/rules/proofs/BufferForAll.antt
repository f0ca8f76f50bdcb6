-- 14 is of the caller's buffer alone: a report buffer with an entry for each lent cell, and a result buffer with one for each lent row, are
-- never too short, on any memory.
use Rattle.std.specs.Prelude.{ℕ, zero, suc, ◌+◌, ◌≤◌, Bool, ◌||◌, List, [], ◌∷◌, ◌++◌, ◌≡◌, refl, ◌≢◌, length}
use Rattle.std.proofs.Common.{ap, inl, inr, length-append}
use native.Mathlib.Omega.{arith}
use Rattle.kinds.specs.Answer.{Answer}
use Rattle.words.specs.Sizes.{Sizes}
use Rattle.words.specs.Lists.{has, keep, from}
use Rattle.words.specs.Slots.{Rec, Write}
use Rattle.rules.specs.Numbers.{result_full}
use Rattle.rules.specs.Memory.{Mem, size_r, slot_at}
use Rattle.rules.specs.Vacuum.{vacuum_out}
use Rattle.rules.specs.Lookup.{own_rows, rows_to_read, lookup_out, lookup_all_out}
use Rattle.rules.specs.Run.{Call, create, begin, read, write, commit, abort, vacuum, lookup, lookup_all, step}
use Rattle.rules.specs.Exactly.{each_of, under, Lacks}
use Rattle.rules.proofs.Exactly.{none_append, lacks_append, lacks_each, lacks_under, refuses_before}
use Rattle.rules.proofs.Terms.{store_fits}
use Rattle.rules.proofs.Members.{picks_length}
use Rattle.rules.proofs.Theory.Cases.{by_bool}
use Rattle.rules.proofs.SharedLines.{slot_lines, slots_lack, row_lines, rows_lack}
use Rattle.rules.proofs.ReadRefuses.{sight_lines_at}
use Rattle.rules.proofs.WriteRefuses.{now_lines}
use Rattle.rules.proofs.CommitRefuses.{record_lines, base_lines, new_lines, valid_lines}
use Rattle.rules.proofs.AbortRefuses.{undo_lines}
use Rattle.rules.specs.EveryRefusal.{RefusedAs}
use Rattle.rules.proofs.EveryRefusal.{table_of, refused_exactly_by_the_table}
use Rattle.rules.proofs.LookupRefuses.{candidate_lines}
use Rattle.rules.proofs.OneOutcome.{Lists}
use Rattle.rules.proofs.VacuumRefusedWhen.{vacuum_refused_14_exactly_when}
use Rattle.rules.proofs.LookupRefusedWhen.{FirstUnplaced, lookup_refused_14_exactly_when, lookup_all_refused_14_exactly_when}
use Rattle.rules.specs.BufferForAll.{PlaceForAll}

-- a chain has no more versions than the store has cells
pub vacuum_with_a_report_for_each_cell_never_answers_14 : {z : Sizes} (m : Mem z) (row request room : ℕ) → length m.cells ≤ room
    → (x : ℕ) → (vacuum_out m row request room).answer ≡ Answer.Refused result_full x → ⊥
vacuum_with_a_report_for_each_cell_never_answers_14 m row request room h x e =
    let q = (vacuum_refused_14_exactly_when m row request room x).0 e in
    let o = q.1.0 in
    omega (arith, o.5, o.3.within, picks_length _ o.1 o.2 o.4, (store_fits m q.0.0).cells)

from_length : (a k : ℕ) → length (from a k) ≡ k
unfolding from
from_length a zero = refl
from_length a (suc k) = ap suc (from_length (suc a) k)

keep_length : (p : ℕ → Bool) (l : List ℕ) → length (keep p l) ≤ length l
unfolding keep
keep_length p [] = omega arith
keep_length p (a ∷ l) = by_bool (p a) (λ e. rw e (omega (arith, keep_length p l))) (λ e. rw e (omega (arith, keep_length p l)))

module _ {z : Sizes} (m : Mem z) (s key room : ℕ) where
  -- each row read is listed once at most
  lists_length : (l : List ℕ) (recs : List Rec) (rows : List ℕ) (recs' : List Rec) (rows' : List ℕ) → Lists m s key room recs rows l recs' rows' → length rows' ≤ length rows + length l
  lists_length [] recs rows recs' rows' q = omega (arith, ap length q.1)
  lists_length (r ∷ l) recs rows recs' rows' (c, new, _, inl q) = omega (arith, length-append rows (r ∷ []), lists_length l (recs ++ new) (rows ++ (r ∷ [])) recs' rows' q.1)
  lists_length (r ∷ l) recs rows recs' rows' (c, new, _, inr q) = omega (arith, lists_length l (recs ++ new) rows recs' rows' q.1)

  no_row_unplaced : (l : List ℕ) → length l ≤ room → FirstUnplaced m s key room l → ⊥
  no_row_unplaced l h q =
      omega (arith, q.filled, lists_length q.before [] [] q.recs q.rows q.read, ap length q.parts, length-append q.before (q.row ∷ q.after))

-- no row is read twice
rows_to_read_length : {z : Sizes} (m : Mem z) (ws : List Write) (cands : List ℕ) → length (rows_to_read m ws cands) ≤ size_r m
unfolding rows_to_read
rows_to_read_length m ws cands = omega (arith, keep_length (λ r. has r cands || has r (own_rows ws)) (from 0 (size_r m)), from_length 0 (size_r m))

pub lookup_with_a_place_for_each_row_never_answers_14 : {z : Sizes} (m : Mem z) (s id key : ℕ) (cands : List ℕ) (room : ℕ) → length m.rows ≤ room
    → (x : ℕ) → (lookup_out m s id key cands room).answer ≡ Answer.Refused result_full x → ⊥
lookup_with_a_place_for_each_row_never_answers_14 m s id key cands room h x e =
    let q = (lookup_refused_14_exactly_when m s id key cands room x).0 e in
    let n = (none_append (slot_lines m s id) (each_of (candidate_lines m) cands)).0 q.0 in
    no_row_unplaced m s key room (rows_to_read m (slot_at m s).writes cands)
    (omega (arith, rows_to_read_length m (slot_at m s).writes cands, (store_fits m n.0.0).heads)) q.1.0

pub lookup_all_with_a_place_for_each_row_never_answers_14 : {z : Sizes} (m : Mem z) (s id key room : ℕ) → length m.rows ≤ room
    → (x : ℕ) → (lookup_all_out m s id key room).answer ≡ Answer.Refused result_full x → ⊥
lookup_all_with_a_place_for_each_row_never_answers_14 m s id key room h x e =
    let q = (lookup_all_refused_14_exactly_when m s id key room x).0 e in
    no_row_unplaced m s key room (from 0 (size_r m)) (omega (arith, from_length 0 (size_r m), (store_fits m q.0.0).heads)) q.1.0

module _ {z : Sizes} (m : Mem z) where
  -- no line of a table has the number
  unlisted : (c : Call) (x : ℕ) → Lacks result_full (table_of c m) → RefusedAs (step c m).reply result_full x → ⊥
  unlisted c x l q = (refuses_before result_full x [] (table_of c m) l).0 ((refused_exactly_by_the_table c m result_full x).0 q)

  pub no_call_with_a_place_for_all_answers_14 : (c : Call) → PlaceForAll m c → (x : ℕ) → RefusedAs (step c m).reply result_full x → ⊥
  unfolding step
  no_call_with_a_place_for_all_answers_14 (vacuum row request room) h x q = vacuum_with_a_report_for_each_cell_never_answers_14 m row request room h x q
  no_call_with_a_place_for_all_answers_14 (lookup s id key cands room) h x q = lookup_with_a_place_for_each_row_never_answers_14 m s id key cands room h x q
  no_call_with_a_place_for_all_answers_14 (lookup_all s id key room) h x q = lookup_all_with_a_place_for_each_row_never_answers_14 m s id key room h x q
  no_call_with_a_place_for_all_answers_14 (create n r) h x q = unlisted (create n r) x (λ e. omega arith, tt) q
  no_call_with_a_place_for_all_answers_14 begin h x q = unlisted begin x (λ e. omega arith, (λ e. omega arith, (λ e. omega arith, tt))) q
  no_call_with_a_place_for_all_answers_14 (read s id row) h x q =
      unlisted (read s id row) x
      (lacks_append result_full (row_lines m s id row) (sight_lines_at m s id row) (rows_lack m s id row result_full (omega arith)) (λ e. omega arith, (λ e. omega arith, (λ e. omega arith, (λ e. omega arith, tt))))) q
  no_call_with_a_place_for_all_answers_14 (write s id row v) h x q =
      unlisted (write s id row v) x
      (lacks_append result_full (row_lines m s id row) (now_lines m s id row) (rows_lack m s id row result_full (omega arith)) (λ e. omega arith, (λ e. omega arith, (λ e. omega arith, (λ e. omega arith, (λ e. omega arith, (λ e. omega arith, (λ e. omega arith, tt)))))))) q
  no_call_with_a_place_for_all_answers_14 (commit s id) h x q =
      let t = slot_at m s in
      unlisted (commit s id) x
      (lacks_append result_full (slot_lines m s id) (under (t.writes ≢ []) (valid_lines m t)) (slots_lack m s id result_full (omega arith))
      (lacks_under result_full (t.writes ≢ []) (valid_lines m t)
      (lacks_append result_full (each_of (record_lines m t) t.recs ++ each_of (base_lines m) t.writes) (each_of (new_lines m) t.writes)
      (lacks_append result_full (each_of (record_lines m t) t.recs) (each_of (base_lines m) t.writes)
      (lacks_each result_full (record_lines m t) (λ r. (λ e. omega arith, (λ e. omega arith, tt))) t.recs)
      (lacks_each result_full (base_lines m) (λ w. (λ e. omega arith, (λ e. omega arith, (λ e. omega arith, (λ e. omega arith, tt))))) t.writes))
      (lacks_each result_full (new_lines m) (λ w. (λ e. omega arith, tt)) t.writes)))) q
  no_call_with_a_place_for_all_answers_14 (abort s id) h x q =
      unlisted (abort s id) x
      (lacks_append result_full (slot_lines m s id) (each_of (undo_lines m) (slot_at m s).writes) (slots_lack m s id result_full (omega arith))
      (lacks_each result_full (undo_lines m) (λ w. (λ e. omega arith, (λ e. omega arith, tt))) (slot_at m s).writes)) q
