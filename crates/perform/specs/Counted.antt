-- The list of an accepted vacuum or lookup has as many members as the answer says, and has room in the buffer.
use Rattle.std.specs.Prelude.{ℕ, suc, ◌≤◌, Bool, cond, ◌≡◌, ltb, length}
use Rattle.std.proofs.Math.Bool.{true, false}
use mathlib.Core.List.{List, [], ◌∷◌, ◌++◌}
use Rattle.std.proofs.Math.Path.{refl, sym}
use Rattle.std.proofs.Common.{ap, length-append}
use native.Mathlib.Omega.{arith}
use Rattle.std.proofs.Math.Dec.{leb}
use borrow.Author.Tests.{ltb-false, leb-false}
use Rattle.kinds.specs.Answer.{Answer}
use Rattle.words.specs.Sizes.{Sizes}
use Rattle.rules.specs.Numbers.{result_full}
use Rattle.words.specs.Lists.{keep, fold, from}
use Rattle.kinds.specs.Versions.{version_at}
use Rattle.words.specs.Slots.{Rec, Slot}
use Rattle.rules.specs.Memory.{Mem, size_n, size_r, head_at, slot_at}
use Rattle.rules.specs.Chain.{After, ends, goes_on, broken, chain}
use Rattle.rules.specs.Snapshot.{horizon}
use Rattle.rules.specs.Outcome.{Outcome, Test, test, guard, refuse, store_tests, slot_tests, row_test}
use Rattle.rules.specs.Read.{Sight, blocked, sees, answer_at, read_at}
use Rattle.rules.specs.Vacuum.{reports, swept, vacuum_now, vacuum_out}
use Rattle.kinds.specs.Versions.{reclaimable}
use Rattle.rules.specs.Lookup.{Found, stopped, got, is_key, list_row, find_row, lookup_end, lookup_all_out}
use Rattle.perform.specs.Perform.{count_of}

pub record Counted {z : Sizes} {B : Type 0} (room : ℕ) (o : Outcome z Answer B) : Type 0 where
  pub count : count_of o.answer ≡ length o.front
  pub fits : length o.front ≤ room

module _ {z : Sizes} {B : Type 0} (room : ℕ) (m : Mem z) where
  counted_refusal : (k x : ℕ) → Counted {z = z} {B = B} room (refuse m k x)
  counted_refusal k x = record { count = refl; fits = omega arith }

  -- a call that its tests may refuse
  counted_guard : (l : List Test) (o : Outcome z Answer B) → Counted room o → Counted room (guard (refuse m) l o)
  unfolding guard
  counted_guard [] o c = c
  counted_guard (t ∷ l) o c = by t.fails (counted_guard l o c)
    where
      by : (b : Bool) → Counted room (guard (refuse m) l o) → Counted room (cond b (refuse m t.number t.value) (guard (refuse m) l o))
      by true d = counted_refusal t.number t.value
      by false d = d

  -- one test, and what holds where it passes
  counted_test : (b : Bool) (k x : ℕ) (o : Outcome z Answer B) → (b ≡ false → Counted room o) → Counted room (guard (refuse m) (test b k x ∷ []) o)
  unfolding guard
  counted_test true k x o c = counted_refusal k x
  counted_test false k x o c = c refl

reports_length : (cs : List (List ℕ)) (l : List ℕ) → length (reports cs l) ≡ length l
unfolding reports
reports_length cs [] = refl
reports_length cs (c ∷ l) = ap suc (reports_length cs l)

module _ {z : Sizes} (room : ℕ) (m : Mem z) where
  swept_counted : (hz h : ℕ) (l : List ℕ) → Counted room (swept m hz room h l)
  unfolding swept
  swept_counted hz h l =
      let d = keep (λ c. reclaimable hz (version_at m.cells c)) l in
      counted_test room m (ltb room (length d)) result_full 0 _
      (λ e. record { count = sym (reports_length m.cells d); fits = rw (reports_length m.cells d) (ltb-false room (length d) e) })

  now_counted : (hz : ℕ) (l : List ℕ) (a : After) → Counted room (vacuum_now m hz room l a)
  unfolding vacuum_now
  now_counted hz [] goes_on = counted_refusal room m _ _
  now_counted hz (h ∷ l) goes_on = counted_refusal room m _ _
  now_counted hz [] broken = counted_refusal room m _ _
  now_counted hz (h ∷ l) broken = counted_refusal room m _ _
  now_counted hz [] ends = record { count = refl; fits = omega arith }
  now_counted hz (h ∷ l) ends = swept_counted hz h l

  pub vacuum_counted : (row request : ℕ) → Counted room (vacuum_out m row request room)
  unfolding vacuum_out
  vacuum_counted row request =
      let l = chain (size_n m) (version_at m.cells) (size_n m) (head_at m row) in
      counted_guard room m (store_tests m ++ row_test m row ∷ []) _ (now_counted (horizon m request) l.cells l.after)

  -- ---- lookups

  -- the rows listed so far have room
  abbrev Roomy : Found → Type 0
  Roomy (stopped k x) = Unit {0}
  Roomy (got recs rows) = length rows ≤ room

  module _ (t : Slot) (key : ℕ) where
    row_roomy : (r : ℕ) (recs : List Rec) (rows : List ℕ) → length rows ≤ room → (s : Sight) → Roomy (list_row m t key room r recs rows s)
    unfolding list_row
    row_roomy r recs rows h (blocked k x) = tt
    row_roomy r recs rows h (sees c new) = by (is_key key (answer_at (version_at m.cells) c)) (leb room (length rows)) refl
      where
        by : (a b : Bool) → leb room (length rows) ≡ b
            → Roomy (cond a (cond b (stopped result_full 0) (got (recs ++ new) (rows ++ (r ∷ [])))) (got (recs ++ new) rows))
        by false b e = h
        by true true e = tt
        by true false e = rw (length-append rows (r ∷ [])) (omega (arith, leb-false room (length rows) e))

    find_roomy : (rows : List ℕ) (f : Found) → Roomy f → Roomy (fold (find_row m t key room) rows f)
    unfolding fold find_row
    find_roomy [] f h = h
    find_roomy (r ∷ rows) (stopped k x) h = find_roomy rows (stopped k x) h
    find_roomy (r ∷ rows) (got recs l) h =
        find_roomy rows (list_row m t key room r recs l (read_at m t (t.recs ++ recs) r)) (row_roomy r recs l h (read_at m t (t.recs ++ recs) r))

  end_counted : (s : ℕ) (late : List Test) (f : Found) → Roomy f → Counted room (lookup_end m s late f)
  unfolding lookup_end
  end_counted s late (stopped k x) h = counted_refusal room m k x
  end_counted s late (got recs rows) h = counted_guard room m late _ (record { count = refl; fits = h })

  pub lookup_all_counted : (s id key : ℕ) → Counted room (lookup_all_out m s id key room)
  unfolding lookup_all_out
  lookup_all_counted s id key =
      counted_guard room m (slot_tests m s id) _ (end_counted s [] _ (find_roomy (slot_at m s) key (from 0 (size_r m)) (got [] []) (omega arith)))
