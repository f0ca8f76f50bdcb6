-- Every call keeps what holds, with the log for its history: from an accepted creation on, in any sequence, refused calls included.
use Rattle.std.specs.Prelude.{cond, Bool, true, false, not, ◌≡◌, ℕ, suc, eqb}
use mathlib.Core.List.{[], ◌∷◌, List, ◌++◌}
use Rattle.std.proofs.Math.Option.{none, Option}
use Rattle.std.proofs.Math.Path.{refl, sym}
use borrow.Author.Tests.{eqb-true, not-false}
use Rattle.kinds.specs.Answer.{Answer, Begun, Done, Wrote, Vacuumed, Listed}
use Rattle.words.specs.Sizes.{Sizes, Roomy}
use Rattle.rules.specs.Numbers.{bad_size}
use Rattle.words.specs.Lists.{or_else}
use Rattle.rules.specs.Memory.{Mem}
use Rattle.rules.specs.Outcome.{fits, Outcome, refuse, test}
use Rattle.rules.specs.Create.{created, create_out}
use Rattle.rules.specs.Begin.{begin_out}
use Rattle.rules.specs.Write.{write_out}
use Rattle.rules.specs.Commit.{commit_out}
use Rattle.rules.specs.Abort.{abort_out}
use Rattle.rules.specs.Run.{commit, write, begin, abort, create, step, Call, read, vacuum, lookup, lookup_all, run}
use Rattle.rules.specs.History.{Log, last_in, who_in, view_in, own_in, rows_in, cells_in, began, wrote, said, ended, commits, Val, writes_in, made, committed, if_begun, if_wrote, if_done, logged, log_of}
use Rattle.rules.proofs.Theory.Cases.{by_bool}
use Rattle.rules.specs.Theory.View.{view_of, upd}
use Rattle.rules.specs.Theory.Inv.{Hist}
use Rattle.rules.proofs.Theory.CommitView.{rehist}
use Rattle.rules.proofs.Theory.Guard.{guard_case}
use Rattle.rules.specs.Theory.Good.{hist_begin, hist_write, hist_end, hist_commit}
use Rattle.rules.proofs.Theory.Good.{Good}
use Rattle.rules.proofs.Theory.BeginCall.{begin_good}
use Rattle.rules.proofs.Theory.CommitCall.{commit_good}
use Rattle.rules.proofs.Theory.AbortCall.{abort_good}
use Rattle.rules.proofs.Theory.WriteCall.{write_good}
use Rattle.rules.proofs.Theory.ReadCall.{read_good}
use Rattle.rules.proofs.Theory.LookupCall.{lookup_good, lookup_all_good}
use Rattle.rules.proofs.Theory.VacuumCall.{vacuum_good}
use Rattle.rules.specs.Theory.CreateCall.{fresh_hist}
use Rattle.rules.proofs.Theory.CreateCall.{create_good}
use Rattle.rules.specs.Theory.Steps.{hist_of}

abbrev pub Sound : {z : Sizes} → Mem z → Log → Type 0
Sound m l = Good (rows_in l) (cells_in l) m (hist_of l)

-- the history told otherwise
rehist_good : {z : Sizes} (R N : ℕ) (m : Mem z) (h h' : Hist) → ((r : ℕ) → h'.last r ≡ h.last r) → ((i : ℕ) → h'.who i ≡ h.who i) → ((i r : ℕ) → h'.view i r ≡ h.view i r)
    → ((i r : ℕ) → h'.own i r ≡ h.own i r) → Good R N m h → Good R N m h'
rehist_good R N m h h' el ew ev eo gd = record {
  shaped = gd.shaped;
  rows = gd.rows;
  cells = gd.cells;
  ghost = gd.ghost;
  inv = rehist R (suc N) (view_of m) gd.ghost h h' [] el ew (λ i r op. ev i r) (λ i r op. eo i r) gd.inv;
  locks = gd.locks;
}

-- ---- what each event does to what the log says
cond_at : {A : Type 0} (b : Bool) (f g : ℕ → A) (r : ℕ) → cond b f g r ≡ cond b (f r) (g r)
cond_at true f g r = refl
cond_at false f g r = refl

module _ {z : Sizes} (R N : ℕ) (m : Mem z) (l : Log) where
  log_began : (s id : ℕ) → Good R N m (hist_begin (hist_of l) s id) → Good R N m (hist_of (began s id ∷ l))
  unfolding who_in last_in view_in own_in upd
  log_began s id = rehist_good R N m (hist_begin (hist_of l) s id) (hist_of (began s id ∷ l)) (λ r. refl) (λ i. refl)
      (λ i r. sym (cond_at (eqb i s) (last_in l) (view_in l i) r)) (λ i r. sym (cond_at (eqb i s) (λ _. none) (own_in l i) r))

  log_wrote : (s id row : ℕ) (v : Option ℕ) → Good R N m (hist_write (hist_of l) s id row v) → Good R N m (hist_of (wrote s row (said v id) ∷ l))
  unfolding who_in last_in view_in own_in upd
  log_wrote s id row v = rehist_good R N m (hist_write (hist_of l) s id row v) (hist_of (wrote s row (said v id) ∷ l)) (λ r. refl) (λ i. refl) (λ i r. refl)
      (λ i r. by_bool (eqb i s)
      (λ e. rw (e, eqb-true i s e) refl)
      (λ e. rw e refl))

  log_ended : (s : ℕ) → Good R N m (hist_end (hist_of l) s) → Good R N m (hist_of (ended s ∷ l))
  unfolding who_in last_in view_in own_in upd
  log_ended s = rehist_good R N m (hist_end (hist_of l) s) (hist_of (ended s ∷ l)) (λ r. refl) (λ i. refl) (λ i r. refl) (λ i r. refl)

-- ---- a commit's events: of the rest of what the log says they change only the last commits
module _ (k : Log) where
  pub commits_who : (l : List (ℕ × Val)) (i : ℕ) → who_in (commits l ++ k) i ≡ who_in k i
  unfolding who_in commits
  commits_who [] i = refl
  commits_who (w ∷ l) i = commits_who l i

  pub commits_view : (l : List (ℕ × Val)) (i r : ℕ) → view_in (commits l ++ k) i r ≡ view_in k i r
  unfolding view_in commits
  commits_view [] i r = refl
  commits_view (w ∷ l) i r = commits_view l i r

  commits_own : (l : List (ℕ × Val)) (i r : ℕ) → own_in (commits l ++ k) i r ≡ own_in k i r
  unfolding own_in commits
  commits_own [] i r = refl
  commits_own (w ∷ l) i r = commits_own l i r

  pub commits_sizes : (l : List (ℕ × Val)) → (rows_in (commits l ++ k) ≡ rows_in k) × (cells_in (commits l ++ k) ≡ cells_in k)
  unfolding rows_in cells_in commits
  commits_sizes [] = (refl, refl)
  commits_sizes (w ∷ l) = commits_sizes l

  commits_last : (l : Log) (s r : ℕ) → last_in (commits (writes_in l s) ++ k) r ≡ or_else (own_in l s r) (last_in k r)
  unfolding last_in own_in writes_in commits
  commits_last [] s r = refl
  commits_last (made n q ∷ l) s r = commits_last l s r
  commits_last (began a id ∷ l) s r = by_bool (eqb s a) (λ e. rw e refl) (λ e. rw e (commits_last l s r))
  commits_last (wrote a row v ∷ l) s r = by_bool (eqb s a)
      (λ e. rw e (by_bool (eqb r row) (λ q. rw q refl) (λ q. rw q (commits_last l s r))))
      (λ e. rw e (commits_last l s r))
  commits_last (committed row v ∷ l) s r = commits_last l s r
  commits_last (ended a ∷ l) s r = commits_last l s r

log_commit : {z : Sizes} (R N : ℕ) (m : Mem z) (l : Log) (s : ℕ) → Good R N m (hist_commit (hist_of l) s) → Good R N m (hist_of (ended s ∷ (commits (writes_in l s) ++ l)))
unfolding who_in last_in view_in own_in upd
log_commit R N m l s = rehist_good R N m (hist_commit (hist_of l) s) (hist_of (ended s ∷ (commits (writes_in l s) ++ l)))
    (λ r. commits_last l l s r) (λ i. rw (commits_who l (writes_in l s) i) refl) (λ i r. commits_view l (writes_in l s) i r) (λ i r. commits_own l (writes_in l s) i r)

-- ---- every call
module _ {z : Sizes} (m : Mem z) (l : Log) where
  begin_sound : (a : Answer) → Good (rows_in l) (cells_in l) m (if_begun a (hist_begin (hist_of l)) (hist_of l)) → Sound m (if_begun a (λ s id. began s id ∷ l) l)
  unfolding rows_in cells_in
  begin_sound Done g = g
  begin_sound (Begun s i) g = log_began (rows_in l) (cells_in l) m l s i.0 g
  begin_sound (Wrote c) g = g
  begin_sound (Vacuumed n v) g = g
  begin_sound (Listed n) g = g
  begin_sound (Answer.Refused n x) g = g

  write_sound : (s id row : ℕ) (v : Option ℕ) (a : Answer) → Good (rows_in l) (cells_in l) m (if_wrote a (hist_write (hist_of l) s id row v) (hist_of l)) → Sound m (if_wrote a (wrote s row (said v id) ∷ l) l)
  unfolding rows_in cells_in
  write_sound s id row v Done g = g
  write_sound s id row v (Begun a i) g = g
  write_sound s id row v (Wrote c) g = log_wrote (rows_in l) (cells_in l) m l s id row v g
  write_sound s id row v (Vacuumed n x) g = g
  write_sound s id row v (Listed n) g = g
  write_sound s id row v (Answer.Refused n x) g = g

  commit_sound : (s : ℕ) (a : Answer) → Good (rows_in l) (cells_in l) m (if_done a (hist_commit (hist_of l) s) (hist_of l)) → Sound m (if_done a (ended s ∷ (commits (writes_in l s) ++ l)) l)
  unfolding rows_in cells_in
  commit_sound s Done g = rw ((commits_sizes l (writes_in l s)).0, (commits_sizes l (writes_in l s)).1) (log_commit (rows_in l) (cells_in l) m l s g)
  commit_sound s (Begun a i) g = g
  commit_sound s (Wrote c) g = g
  commit_sound s (Vacuumed n x) g = g
  commit_sound s (Listed n) g = g
  commit_sound s (Answer.Refused n x) g = g

  abort_sound : (s : ℕ) (a : Answer) → Good (rows_in l) (cells_in l) m (if_done a (hist_end (hist_of l) s) (hist_of l)) → Sound m (if_done a (ended s ∷ l) l)
  unfolding rows_in cells_in
  abort_sound s Done g = log_ended (rows_in l) (cells_in l) m l s g
  abort_sound s (Begun a i) g = g
  abort_sound s (Wrote c) g = g
  abort_sound s (Vacuumed n x) g = g
  abort_sound s (Listed n) g = g
  abort_sound s (Answer.Refused n x) g = g

-- an accepted creation, on any memory
pub create_starts : {z : Sizes} → Roomy z → (m : Mem z) (n r : ℕ) → fits m r n ≡ true → Sound (created m n r) (made n r ∷ [])
unfolding rows_in cells_in who_in last_in view_in own_in
create_starts rm m n r e =
    rehist_good r n (created m n r) fresh_hist (hist_of (made n r ∷ [])) (λ q. refl) (λ i. refl) (λ i q. refl) (λ i q. refl) (create_good m n r rm e)

create_sound : {z : Sizes} (m : Mem z) (n r : ℕ) (l : Log) → Sound m l → Sound (create_out m n r).after (if_done (create_out m n r).answer (made n r ∷ []) l)
unfolding create_out
create_sound {z} m n r l s = guard_case (λ (o : Outcome z Answer ℕ). Sound o.after (if_done o.answer (made n r ∷ []) l)) (refuse m) (test (not (fits m r n)) bad_size 0 ∷ []) _ (λ k x. s)
    (λ p. create_starts s.shaped.roomy m n r (not-false _ p.0))

pub step_sound : {z : Sizes} (c : Call) (m : Mem z) (l : Log) → Sound m l → Sound (step c m).after (logged c (step c m).reply l)
unfolding step logged
step_sound (create n r) m l s = create_sound m n r l s
step_sound begin m l s = begin_sound (begin_out m).after l (begin_out m).answer (begin_good (rows_in l) (cells_in l) m (hist_of l) s)
step_sound (read a id row) m l s = read_good (rows_in l) (cells_in l) m (hist_of l) s a id row
step_sound (write a id row v) m l s = write_sound (write_out m a id row v).after l a id row v (write_out m a id row v).answer (write_good (rows_in l) (cells_in l) m (hist_of l) s a id row v)
step_sound (commit a id) m l s = commit_sound (commit_out m a id).after l a (commit_out m a id).answer (commit_good (rows_in l) (cells_in l) m (hist_of l) s a id)
step_sound (abort a id) m l s = abort_sound (abort_out m a id).after l a (abort_out m a id).answer (abort_good (rows_in l) (cells_in l) m (hist_of l) s a id)
step_sound (vacuum row request room) m l s = vacuum_good (rows_in l) (cells_in l) m (hist_of l) s row request room
step_sound (lookup a id key cands room) m l s = lookup_good (rows_in l) (cells_in l) m (hist_of l) s a id key cands room
step_sound (lookup_all a id key room) m l s = lookup_all_good (rows_in l) (cells_in l) m (hist_of l) s a id key room

pub run_sound : {z : Sizes} (cs : List Call) (m : Mem z) (l : Log) → Sound m l → Sound (run cs m).1 (log_of cs (run cs m).0 l)
unfolding run log_of
run_sound [] m l s = s
run_sound (c ∷ cs) m l s = run_sound cs (step c m).after (logged c (step c m).reply l) (step_sound c m l s)
