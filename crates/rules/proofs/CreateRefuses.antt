-- Creation and begin refuse exactly when the paper says.
use Rattle.std.specs.Prelude.{ℕ, List, [], ◌∷◌, ◌++◌, ◌≡◌, take}
use Rattle.std.proofs.Math.Path.{refl}
use Rattle.kinds.specs.Answer.{Done, Begun}
use Rattle.words.specs.Sizes.{Sizes, last_id}
use Rattle.rules.specs.Numbers.{bad_size, clock_spent, no_free_slot}
use Rattle.kinds.specs.Versions.{tx}
use Rattle.rules.specs.Memory.{Mem, clock}
use Rattle.rules.specs.Snapshot.{vacant}
use Rattle.rules.specs.Outcome.{out, store_tests}
use Rattle.rules.specs.Create.{created, create_out}
use Rattle.rules.specs.Begin.{begun, begin_out}
use Rattle.rules.specs.Exactly.{Line, line, Exactly}
use Rattle.rules.proofs.Exactly.{in_answer, is_equal, is_not, says_append, exactly_tested}
use Rattle.rules.specs.Terms.{Fitting, AllOccupied}
use Rattle.rules.proofs.Terms.{is_fitting, is_all_occupied}
use Rattle.rules.proofs.SharedLines.{store_lines, store_says}

module _ {z : Sizes} (m : Mem z) where
  abbrev pub create_lines : ℕ → ℕ → List Line
  create_lines n r =
      -- 1: "creation: R or N out of range, or a lent length too short for them"
      line (Fitting m r n → ⊥) bad_size 0
      ∷ []

  pub create_refuses_exactly : (n r : ℕ) → Exactly in_answer m (create_out m n r) (out Done [] (created m n r)) (create_lines n r)
  unfolding create_out
  create_refuses_exactly n r = exactly_tested m _ (create_lines n r) _ refl (is_not _ (is_fitting m r n), refl, refl, tt)

  -- "begin tests 3 before 2"
  abbrev pub begin_lines : List Line
  begin_lines =
      store_lines m
      -- 3: "begin, 16 occupied"
      ++ line (AllOccupied z.slots m.slots) no_free_slot 0
      -- 2: "begin, clock is 2^64-1"
      ∷ line (clock m ≡ last_id) clock_spent 0
      ∷ []

  pub begin_refuses_exactly : Exactly in_answer m (begin_out m) (let s = vacant (take z.slots m.slots) in out (Begun s (tx (clock m))) [] (begun m s)) begin_lines
  unfolding begin_out
  begin_refuses_exactly =
      exactly_tested m _ begin_lines _ refl
      (says_append (store_tests m) _ (store_lines m) _ (store_says m) (
        is_all_occupied z.slots m.slots,
        refl,
        refl,
        (
          is_equal (clock m) last_id,
          refl,
          refl,
          tt,
        ),
      ))
