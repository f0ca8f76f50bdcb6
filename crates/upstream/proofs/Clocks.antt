-- The clock, in upstream's terms: begin is a `reservation` of the clock itself, looking is an `observation`, and no store that our calls
-- made has a clock past 2^64 - 1.
use Rattle.std.specs.Prelude.{ℕ, ◌≤◌, not, refl}
use mathlib.Core.List.{List, [], ◌∷◌}
use Rattle.std.proofs.Common.{⊎_elim, ap, subst, arith}
use Rattle.std.proofs.Math.Path.{◌≡◌}
use Rattle.std.proofs.lemmas.Bool.{not-false}
use Rattle.kinds.specs.Answer.{Answer, Done}
use Rattle.words.specs.Sizes.{Sizes, Roomy, last_id}
use Rattle.rules.specs.Numbers.{bad_size}
use Rattle.rules.specs.Memory.{Mem, clock}
use Rattle.rules.specs.Outcome.{Outcome, refuse, test, fits}
use Rattle.rules.specs.Create.{create_out}
use Rattle.rules.specs.Begin.{begin_out}
use Rattle.rules.specs.Run.{Call, create, begin, read, write, commit, abort, vacuum, lookup, lookup_all, step, run}
use Rattle.rules.specs.History.{Log}
use Rattle.rules.specs.Reachable.{Reachable}
use Rattle.rules.specs.Exactly.{NoneOf}
use Rattle.rules.proofs.Terms.{is_fitting}
use Rattle.rules.proofs.CreateRefuses.{begin_lines, begin_refuses_exactly}
use Rattle.rules.proofs.CreateFresh.{created_sizes_and_clock}
use Rattle.rules.proofs.BeginTakes.{begin_advances_the_clock}
use Rattle.rules.proofs.Theory.Guard.{guard_case}
use Rattle.rules.proofs.Theory.Clock.{read_clock, write_clock, commit_clock, abort_clock, vacuum_clock, lookup_clock, lookup_all_clock}
use Rattle.upstream.specs.LifecycleTerms.{Observation, Reservation}
use Rattle.upstream.proofs.Lifecycle.{reachable_state_is_well_formed}

module _ {z : Sizes} where
  fresh_clock : (m : Mem z) (n r : ℕ) → clock m ≤ last_id → clock (create_out m n r).after ≤ last_id
  unfolding create_out
  fresh_clock m n r h = guard_case (λ (o : Outcome z Answer ℕ). clock o.after ≤ last_id) (refuse m) (test (not (fits m r n)) bad_size 0 ∷ []) _ (λ k x. h)
      (λ p. omega (arith, (created_sizes_and_clock m n r ((is_fitting m r n).yes (not-false _ p.0))).2))

  begun_clock : (m : Mem z) → clock m ≤ last_id → clock (begin_out m).after ≤ last_id
  begun_clock m h =
      let k = begin_refuses_exactly m in
      ⊎_elim
      (λ n. let ne = n.1.1.0 in omega (arith, begin_advances_the_clock m n))
      (λ q. let e = ap (λ (o : Outcome z Answer ℕ). clock o.after) (k.when q.0 q.1 q.2) in omega arith)
      k.decided

  step_clock : (c : Call) (m : Mem z) → clock m ≤ last_id → clock (step c m).after ≤ last_id
  unfolding step
  step_clock (create n r) m h = fresh_clock m n r h
  step_clock begin m h = begun_clock m h
  step_clock (read s id row) m h = omega (arith, read_clock m s id row)
  step_clock (write s id row v) m h = omega (arith, write_clock m s id row v)
  step_clock (commit s id) m h = omega (arith, commit_clock m s id)
  step_clock (abort s id) m h = omega (arith, abort_clock m s id)
  step_clock (vacuum row request room) m h = omega (arith, vacuum_clock m row request room)
  step_clock (lookup s id key cands room) m h = omega (arith, lookup_clock m s id key cands room)
  step_clock (lookup_all s id key room) m h = omega (arith, lookup_all_clock m s id key room)

  run_clock : (cs : List Call) (m : Mem z) → clock m ≤ last_id → clock (run cs m).1 ≤ last_id
  unfolding run
  run_clock [] m h = h
  run_clock (c ∷ cs) m h = run_clock cs (step c m).after (step_clock c m h)

  start_clock : (m : Mem z) (n r : ℕ) → (create_out m n r).answer ≡ Done → clock (create_out m n r).after ≤ last_id
  unfolding create_out
  start_clock m n r = guard_case (λ (o : Outcome z Answer ℕ). o.answer ≡ Done → clock o.after ≤ last_id) (refuse m) (test (not (fits m r n)) bad_size 0 ∷ []) _
      (λ k x e. let y : ◌≡◌ {A = ℕ} 0 1 = cc in absurd (omega arith))
      (λ p _. omega (arith, (created_sizes_and_clock m n r ((is_fitting m r n).yes (not-false _ p.0))).2))

  pub reachable_clock_is_a_number : (m : Mem z) (l : Log) → Reachable m l → clock m ≤ last_id
  reachable_clock_is_a_number m l rc = subst (λ (x : Mem z). clock x ≤ last_id) rc.memory (run_clock rc.calls (create_out rc.lent rc.n rc.r).after (start_clock rc.lent rc.n rc.r rc.accepted))

  -- `begin_transaction`, `reserve_registration`: an accepted begin reserves the clock itself
  pub begin_transaction_reserves_the_clock : (m : Mem z) (l : Log) → Reachable m l → NoneOf (begin_lines m) → Reservation m (begin_out m).after (clock m)
  begin_transaction_reserves_the_clock m l rc n =
      let ne = n.1.1.0 in
      let le = reachable_clock_is_a_number m l rc in
      record { drawn = omega arith; last = omega arith; next = omega (arith, begin_advances_the_clock m n) }

-- `load_clock`, `snapshot_locked`: the clock is looked at, and nothing changes
pub load_clock_is_an_observation : {z : Sizes} → Roomy z → (m : Mem z) (l : Log) → Reachable m l → Observation m m
load_clock_is_an_observation rm m l rc = record { slots = refl; clock_on = omega arith; runs = (reachable_state_is_well_formed rm m l rc).runs }
