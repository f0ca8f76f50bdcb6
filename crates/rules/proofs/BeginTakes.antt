-- Begin: "lowest empty slot, id = clock, clock + 1".
use Rattle.std.specs.Prelude.{ℕ, zero, suc, ◌+◌, ◌<◌, List, [], ◌∷◌, ◌≡◌, refl, ◌≢◌, get_or, take}
use Rattle.std.proofs.Common.{sym, ap, ◌∙◌, arith, get_or-take, get_or-set_same, eq-eqb, ne_eqb, le-leb}
use Rattle.kinds.specs.Answer.{Answer, Begun}
use Rattle.words.specs.Sizes.{Sizes, ID, CLOCK}
use Rattle.rules.proofs.Theory.Cases.{by_eq, by_le}
use Rattle.kinds.specs.Versions.{tx}
use Rattle.rules.specs.Memory.{Mem, clock, words_at}
use Rattle.rules.specs.Snapshot.{vacant}
use Rattle.rules.specs.Outcome.{Outcome, out}
use Rattle.rules.specs.Begin.{begun, begin_out}
use Rattle.rules.specs.Exactly.{NoneOf}
use Rattle.rules.proofs.Terms.{store_fits, is_all_occupied}
use Rattle.rules.proofs.CreateRefuses.{begin_lines, begin_refuses_exactly}

-- the slots before the vacant one are occupied
vacant_before : (l : List (List ℕ)) (j : ℕ) → j < vacant l → get_or (get_or l j []) ID 0 ≢ 0
unfolding vacant
vacant_before [] j h = absurd (omega arith)
vacant_before (t ∷ l) j h = by_eq (get_or t ID 0) 0
    (λ e. absurd (let b : j < 0 = rw (eq-eqb (get_or t ID 0) 0 e) at h in omega arith))
    (λ n. on n j (rw (ne_eqb (get_or t ID 0) 0 n) at h) (vacant_before l))
  where
    on : get_or t ID 0 ≢ 0 → (i : ℕ) → i < suc (vacant l) → ((k : ℕ) → k < vacant l → get_or (get_or l k []) ID 0 ≢ 0) → get_or (get_or (t ∷ l) i []) ID 0 ≢ 0
    on n zero b f = n
    on n (suc i) b f = f i (omega arith)

-- and it is empty itself, or there is none
vacant_is : (l : List (List ℕ)) → get_or (get_or l (vacant l) []) ID 0 ≡ 0
unfolding vacant
vacant_is [] = refl
vacant_is (t ∷ l) = by_eq (get_or t ID 0) 0 (λ e. rw (eq-eqb (get_or t ID 0) 0 e) e) (λ n. rw (ne_eqb (get_or t ID 0) 0 n) (vacant_is l))

module _ {z : Sizes} (m : Mem z) (accepted : NoneOf (begin_lines m)) where
  abbrev taken : ℕ
  taken = vacant (take z.slots m.slots)

  pub begin_leaves_exactly : begin_out m ≡ out (Begun taken (tx (clock m))) [] (begun m taken)
  begin_leaves_exactly = (begin_refuses_exactly m).otherwise accepted

  pub begin_takes_a_slot : taken < z.slots
  begin_takes_a_slot = by_le z.slots taken
      (λ b. absurd (accepted.1.0 ((is_all_occupied z.slots m.slots).yes (le-leb z.slots taken b))))
      (λ b. b)

  -- it was empty
  pub begin_takes_an_empty_slot : get_or (words_at m taken) ID 0 ≡ 0
  begin_takes_an_empty_slot = ap (λ (t : List ℕ). get_or t ID 0) (sym (get_or-take z.slots m.slots taken [] begin_takes_a_slot)) ∙ vacant_is (take z.slots m.slots)

  -- and every lower one is occupied
  pub begin_takes_the_lowest_empty_slot : (j : ℕ) → j < taken → get_or (words_at m j) ID 0 ≢ 0
  begin_takes_the_lowest_empty_slot j b e = vacant_before (take z.slots m.slots) j b (ap (λ (t : List ℕ). get_or t ID 0) (get_or-take z.slots m.slots j [] (omega (arith, begin_takes_a_slot))) ∙ e)

  -- "id = clock, clock + 1"
  pub begin_advances_the_clock : clock (begin_out m).after ≡ clock m + 1
  begin_advances_the_clock =
      let f = store_fits m accepted.0 in
      ap (λ (o : Outcome z Answer ℕ). clock o.after) begin_leaves_exactly ∙ get_or-set_same m.meta CLOCK (clock m + 1) 0 (omega (arith, f.metas))
