-- Calls after calls: what a run of the first and then the others leaves, replies and logs.
use mathlib.Core.List.{List, ◌++◌, [], ◌∷◌}
use Rattle.std.proofs.Common.{ap, ◌∙◌}
use Rattle.std.specs.Prelude.{◌≡◌}
use Rattle.std.proofs.Math.Path.{refl}
use Rattle.words.specs.Sizes.{Sizes}
use Rattle.rules.specs.Memory.{Mem}
use Rattle.rules.specs.Create.{create_out}
use Rattle.rules.specs.Run.{run, Call, step, Reply}
use Rattle.rules.specs.History.{Log, log_of, logged, made}
use Rattle.rules.specs.Reachable.{Reachable}

module _ {z : Sizes} where
  pub run_append : (cs ds : List Call) (m : Mem z) → ((run (cs ++ ds) m).0 ≡ (run cs m).0 ++ (run ds (run cs m).1).0) × ((run (cs ++ ds) m).1 ≡ (run ds (run cs m).1).1)
  unfolding run
  run_append [] ds m = (refl, refl)
  run_append (c ∷ cs) ds m = let r = run_append cs ds (step c m).after in (ap (λ (x : List Reply). (step c m).reply ∷ x) r.0, r.1)

  pub log_append : (cs ds : List Call) (m : Mem z) (rs : List Reply) (l : Log) → log_of (cs ++ ds) ((run cs m).0 ++ rs) l ≡ log_of ds rs (log_of cs (run cs m).0 l)
  unfolding run log_of
  log_append [] ds m rs l = refl
  log_append (c ∷ cs) ds m rs l = log_append cs ds (step c m).after rs (logged c (step c m).reply l)

  pub reachable_after : (m : Mem z) (l : Log) → Reachable m l → (cs : List Call) → Reachable (run cs m).1 (log_of cs (run cs m).0 l)
  reachable_after m l rc cs =
      let m₀ = (create_out rc.lent rc.n rc.r).after in
      let a = run_append rc.calls cs m₀ in
      let first = made rc.n rc.r ∷ [] in
      record {
        lent = rc.lent;
        n = rc.n;
        r = rc.r;
        calls = rc.calls ++ cs;
        accepted = rc.accepted;
        memory = a.1 ∙ ap (λ (x : Mem z). (run cs x).1) rc.memory;
        log =
            ap (λ (x : List Reply). log_of (rc.calls ++ cs) x first) a.0
            ∙ log_append rc.calls cs m₀ (run cs (run rc.calls m₀).1).0 first
            ∙ ap (λ (x : Mem z). log_of cs (run cs x).0 (log_of rc.calls (run rc.calls m₀).0 first)) rc.memory
            ∙ ap (log_of cs (run cs m).0) rc.log;
      }
