-- While a transaction is open, what the log says it saw at its begin stays: no id is drawn twice.
use Rattle.std.proofs.Math.Bool.{true, false}
use Rattle.std.proofs.Common.{true≢false, sym, ◌∙◌, arith, get_or-set_same}
use mathlib.Core.List.{◌∷◌, List, ◌++◌, []}
use Rattle.std.specs.Prelude.{◌≢◌, ◌≡◌, ℕ, ◌<◌, ◌+◌, eqb}
use Rattle.std.proofs.Math.Option.{Option}
use Rattle.kinds.specs.Answer.{Answer, Wrote, Done, Begun, Vacuumed, Listed}
use Rattle.words.specs.Sizes.{Sizes, CLOCK}
use Rattle.rules.specs.Memory.{Mem, clock}
use Rattle.rules.specs.Outcome.{Outcome, refuse}
use Rattle.rules.specs.Create.{create_out}
use Rattle.rules.specs.Begin.{begin_out}
use Rattle.rules.specs.Write.{write_out}
use Rattle.rules.specs.Commit.{commit_out}
use Rattle.rules.specs.Abort.{abort_out}
use Rattle.rules.specs.Run.{commit, begin, create, step, Call, read, write, abort, vacuum, lookup, lookup_all, run}
use Rattle.rules.specs.History.{Val, Log, rows_in, who_in, view_in, wrote, ended, commits, began, if_wrote, if_done, if_begun, made, restarts, logged, writes_in, GoesOn, log_of}
use Rattle.rules.proofs.Theory.Cases.{by_bool}
use Rattle.rules.specs.Theory.Shape.{Shaped}
use Rattle.rules.proofs.Theory.Guard.{guard_case}
use Rattle.rules.proofs.Theory.Steps.{commits_sizes, commits_view, commits_who, Sound, step_sound}
use Rattle.rules.proofs.Theory.Clock.{read_clock, write_clock, commit_clock, abort_clock, vacuum_clock, lookup_clock, lookup_all_clock}

module _ (s id : ℕ) (nz : id ≢ 0) (saw : ℕ → Option Val) (R : ℕ) where
  -- the id is in the past, and where slot s has it still, its view is `saw`
  pub record Bound {z : Sizes} (m : Mem z) (l : Log) : Type 0 where
    pub past : id < clock m
    pub rows : rows_in l ≡ R
    pub same : who_in l s ≡ id → (r : ℕ) → view_in l s r ≡ saw r

  module _ {z : Sizes} where
    bound_same : (m m' : Mem z) (l : Log) → clock m' ≡ clock m → Bound m l → Bound m' l
    bound_same m m' l e b = record { past = rw e b.past; rows = b.rows; same = b.same }

    bound_wrote : (m m' : Mem z) (l : Log) (a row : ℕ) (v : Val) → clock m' ≡ clock m → Bound m l → Bound m' (wrote a row v ∷ l)
    unfolding who_in view_in rows_in
    bound_wrote m m' l a row v e b = record { past = rw e b.past; rows = b.rows; same = b.same }

    bound_ended : (m m' : Mem z) (l : Log) (a : ℕ) → clock m' ≡ clock m → Bound m l → Bound m' (ended a ∷ l)
    unfolding who_in view_in rows_in
    bound_ended m m' l a e b = record {
      past = rw e b.past;
      rows = b.rows;
      same = by_bool (eqb s a) (λ q. rw q (λ w. absurd (nz (sym w)))) (λ q. rw q b.same);
    }

    bound_commits : (m : Mem z) (l : Log) (ws : List (ℕ × Val)) → Bound m l → Bound m (commits ws ++ l)
    bound_commits m l ws b = record {
      past = b.past;
      rows = (commits_sizes l ws).0 ∙ b.rows;
      same = λ w r. commits_view l ws s r ∙ b.same (sym (commits_who l ws s) ∙ w) r;
    }

    bound_begun : (m m' : Mem z) (l : Log) (a : ℕ) → clock m' ≡ clock m + 1 → Bound m l → Bound m' (began a (clock m) ∷ l)
    unfolding who_in view_in rows_in
    bound_begun m m' l a e b = record {
      past = omega (arith, b.past);
      rows = b.rows;
      same = by_bool (eqb s a) (λ q. rw q (λ w. absurd (omega (arith, b.past)))) (λ q. rw q b.same);
    }

    on_wrote : (m m' : Mem z) (l : Log) (a row : ℕ) (v : Val) (x : Answer) → clock m' ≡ clock m → Bound m l → Bound m' (if_wrote x (wrote a row v ∷ l) l)
    on_wrote m m' l a row v (Wrote c) e b = bound_wrote m m' l a row v e b
    on_wrote m m' l a row v Done e b = bound_same m m' l e b
    on_wrote m m' l a row v (Begun i j) e b = bound_same m m' l e b
    on_wrote m m' l a row v (Vacuumed i j) e b = bound_same m m' l e b
    on_wrote m m' l a row v (Listed i) e b = bound_same m m' l e b
    on_wrote m m' l a row v (Answer.Refused i j) e b = bound_same m m' l e b

    on_ended : (m m' : Mem z) (l k : Log) (a : ℕ) (x : Answer) → clock m' ≡ clock m → Bound m l → Bound m k → Bound m' (if_done x (ended a ∷ k) l)
    on_ended m m' l k a Done e b bk = bound_ended m m' k a e bk
    on_ended m m' l k a (Wrote c) e b bk = bound_same m m' l e b
    on_ended m m' l k a (Begun i j) e b bk = bound_same m m' l e b
    on_ended m m' l k a (Vacuumed i j) e b bk = bound_same m m' l e b
    on_ended m m' l k a (Listed i) e b bk = bound_same m m' l e b
    on_ended m m' l k a (Answer.Refused i j) e b bk = bound_same m m' l e b

    begin_bound : (m : Mem z) (l : Log) → Shaped m → Bound m l → Bound (begin_out m).after (if_begun (begin_out m).answer (λ a i. began a i ∷ l) l)
    unfolding begin_out
    begin_bound m l sh b = guard_case (λ (o : Outcome z Answer ℕ). Bound o.after (if_begun o.answer (λ a i. began a i ∷ l) l)) (refuse m) _ _ (λ k x. b)
        (λ _. bound_begun m _ l _ (get_or-set_same m.meta CLOCK (clock m + 1) 0 (omega (arith, sh.metas))) b)

    create_bound : (m : Mem z) (n r : ℕ) (l : Log) → if_done (create_out m n r).answer true false ≡ false → Bound m l → Bound (create_out m n r).after (if_done (create_out m n r).answer (made n r ∷ []) l)
    unfolding create_out
    create_bound m n r l e b = go e
      where
        go : if_done (create_out m n r).answer true false ≡ false → Bound (create_out m n r).after (if_done (create_out m n r).answer (made n r ∷ []) l)
        go = guard_case (λ (o : Outcome z Answer ℕ). if_done o.answer true false ≡ false → Bound o.after (if_done o.answer (made n r ∷ []) l)) (refuse m) _ _ (λ k x _. b)
            (λ _ q. absurd (true≢false q))

    pub step_bound : (c : Call) (m : Mem z) (l : Log) → Shaped m → restarts c (step c m).reply ≡ false → Bound m l → Bound (step c m).after (logged c (step c m).reply l)
    unfolding step logged restarts
    step_bound (create n r) m l sh e b = create_bound m n r l e b
    step_bound begin m l sh e b = begin_bound m l sh b
    step_bound (read a i row) m l sh e b = bound_same m _ l (read_clock m a i row) b
    step_bound (write a i row v) m l sh e b = on_wrote m _ l a row _ (write_out m a i row v).answer (write_clock m a i row v) b
    step_bound (commit a i) m l sh e b = on_ended m _ l _ a (commit_out m a i).answer (commit_clock m a i) b (bound_commits m l (writes_in l a) b)
    step_bound (abort a i) m l sh e b = on_ended m _ l l a (abort_out m a i).answer (abort_clock m a i) b b
    step_bound (vacuum row request room) m l sh e b = bound_same m _ l (vacuum_clock m row request room) b
    step_bound (lookup a i key cands room) m l sh e b = bound_same m _ l (lookup_clock m a i key cands room) b
    step_bound (lookup_all a i key room) m l sh e b = bound_same m _ l (lookup_all_clock m a i key room) b

    pub run_bound : (cs : List Call) (m : Mem z) (l : Log) → Sound m l → GoesOn cs (run cs m).0 → Bound m l → Bound (run cs m).1 (log_of cs (run cs m).0 l)
    unfolding run log_of
    run_bound [] m l so g b = b
    run_bound (c ∷ cs) m l so g b = run_bound cs (step c m).after (logged c (step c m).reply l) (step_sound c m l so) g.1 (step_bound c m l so.shaped g.0 b)
