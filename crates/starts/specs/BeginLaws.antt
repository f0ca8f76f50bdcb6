-- What is left of a begin once the store is tested, and its ways out.
use Rattle.std.specs.Prelude.{ℕ, ◌+◌, ◌≤◌, ◌<◌, List, [], ◌∷◌, ◌≡◌, ◌≢◌, set, take, eqb, leb}
use borrow.Author.Tests.{le-leb, lt-leb, eq-eqb, ne_eqb}
use Rattle.kinds.specs.Answer.{Answer, Begun}
use Rattle.words.specs.Sizes.{base, CLOCK, last_id}
use Rattle.rules.specs.Numbers.{clock_spent, no_free_slot}
use Rattle.kinds.specs.Versions.{tx}
use Rattle.rules.specs.Memory.{Mem, mem, clock}
use Rattle.rules.specs.Snapshot.{vacant}
use Rattle.rules.specs.Outcome.{Outcome, out, test, guard, refuse, store_tests}
use Rattle.rules.proofs.Verdicts.{guard_append}
use Rattle.rules.specs.Begin.{ids_with, begin_words, begun, begin_out}
use Rattle.opens.specs.OpenedAt.{ids_at, opened_at}

abbrev chosen : Mem base → ℕ
chosen m = vacant (take base.slots m.slots)

unfoldable pub begin_rest : Mem base → Outcome base Answer ℕ
begin_rest m =
    guard (refuse m) (test (leb base.slots (chosen m)) no_free_slot 0 ∷ test (eqb (clock m) last_id) clock_spent 0 ∷ [])
    (out (Begun (chosen m) (tx (clock m))) [] (begun m (chosen m)))

module _ (m : Mem base) where
  pub begin_split : begin_out m ≡ guard (refuse m) (store_tests m) (begin_rest m)
  unfolding begin_out begin_rest
  begin_split = guard_append (refuse m) (store_tests m) _ _

  module _ (s : ℕ) (at : s ≡ chosen m) where
    pub begin_full : base.slots ≤ s → refuse m no_free_slot 0 ≡ begin_rest m
    unfolding begin_rest guard
    begin_full h = rw (le-leb base.slots (chosen m) (rw at at h))

    pub begin_spent : s < base.slots → clock m ≡ last_id → refuse m clock_spent 0 ≡ begin_rest m
    unfolding begin_rest guard
    begin_spent h e = rw (lt-leb base.slots (chosen m) (rw at at h), eq-eqb (clock m) last_id e)

    pub begin_done : (meta : List ℕ) (slots : List (List ℕ)) → s < base.slots → clock m ≢ last_id
        → meta ≡ set m.meta CLOCK (clock m + 1) → slots ≡ opened_at m.slots s (clock m)
        → out (Begun s (tx (clock m))) [] (mem meta m.rows m.cells slots) ≡ begin_rest m
    unfolding begin_rest guard begin_words ids_with opened_at ids_at
    begin_done meta slots h n a b = rw (lt-leb base.slots (chosen m) (rw at at h), ne_eqb (clock m) last_id n, a, b, at)
