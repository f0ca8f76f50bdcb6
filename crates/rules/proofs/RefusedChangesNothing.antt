-- "Every refusal changes nothing at all": not a cell, a head, a record, the clock or a buffer. One lemma says it of a list of tests;
-- each call is then a line, since a call is its tests and what they guard.
use Rattle.std.specs.Prelude.{ℕ, ◌<◌, ◌≡◌, eqb}
use mathlib.Core.List.{List, [], ◌∷◌}
use Rattle.std.proofs.Math.Option.{Option, none, some}
use Rattle.std.proofs.Math.Path.{refl}
use Rattle.std.proofs.Common.{arith}
use Rattle.kinds.specs.declared.Version.{Version}
use Rattle.kinds.specs.ReadAnswer.{ReadAnswer}
use Rattle.kinds.specs.Answer.{Answer}
use Rattle.words.specs.Sizes.{Sizes}
use Rattle.rules.specs.Numbers.{read_number, number_of}
use Rattle.words.specs.Lists.{nonzero}
use Rattle.rules.proofs.Theory.Cases.{by_bool}
use Rattle.kinds.specs.Versions.{version_at}
use Rattle.words.specs.Slots.{Write}
use Rattle.rules.specs.Memory.{Mem}
use Rattle.rules.specs.Chain.{After, ends, goes_on, broken}
use Rattle.rules.specs.Outcome.{Outcome, out, Test, guard}
use Rattle.rules.specs.Create.{create_out}
use Rattle.rules.specs.Begin.{begin_out}
use Rattle.rules.specs.Read.{answer_at, Sight, blocked, sees, read_end, read_out}
use Rattle.rules.specs.Write.{write_now, write_out}
use Rattle.rules.specs.Commit.{commit_out}
use Rattle.rules.specs.Abort.{abort_out}
use Rattle.rules.specs.Vacuum.{swept, vacuum_now, vacuum_out}
use Rattle.rules.specs.Lookup.{Found, stopped, got, lookup_end, lookup_out, lookup_all_out}
use Rattle.rules.specs.Run.{Call, create, begin, read, write, commit, abort, vacuum, lookup, lookup_all, reply_number, step}
use Rattle.rules.specs.RefusedChangesNothing.{Still, Unwritten}

-- what a cell answers is no refusal
pub answer_plain : (f : ℕ → Version) (c : ℕ) → read_number (answer_at f c) ≡ 0
unfolding answer_at
answer_plain f c = by_bool (eqb c 0) (λ e. rw e) (λ e. by_bool (nonzero (f c).keyed) (λ h. rw (e, h)) (λ h. rw (e, h)))

module _ {z : Sizes} where
  guard_still : {A B : Type 0} (f : A → ℕ) (r : ℕ → ℕ → A) (m : Mem z) (l : List Test) (o : Outcome z A B) → Still f m o → Still f m (guard (λ k x. out (r k x) [] m) l o)
  unfolding guard
  guard_still f r m [] o h = h
  guard_still f r m (t ∷ l) o h = by_bool t.fails (λ e. rw e (record { same = λ p. refl; bare = λ p. refl })) (λ e. rw e (guard_still f r m l o h))

  -- an accepted outcome owes nothing
  accepted : {A B : Type 0} (f : A → ℕ) (m : Mem z) (o : Outcome z A B) → f o.answer ≡ 0 → Still f m o
  accepted f m o e = record { same = λ p. absurd (omega arith); bare = λ p. absurd (omega arith) }

  -- the calls whose tests are all there is to refuse
  guarded : {B : Type 0} (m : Mem z) (l : List Test) (o : Outcome z Answer B) → Still number_of m o → Still number_of m (guard (λ k x. out (Answer.Refused k x) [] m) l o)
  guarded m l o h = guard_still number_of Answer.Refused m l o h

  pub create_still : (m : Mem z) (n r : ℕ) → Still number_of m (create_out m n r)
  unfolding create_out
  create_still m n r = guarded m _ _ (accepted number_of m _ refl)

  pub begin_still : (m : Mem z) → Still number_of m (begin_out m)
  unfolding begin_out
  begin_still m = guarded m _ _ (accepted number_of m _ refl)

  read_end_still : (m : Mem z) (s : ℕ) (g : Sight) → Still read_number m (read_end m s g)
  unfolding read_end
  read_end_still m s (blocked k x) = record { same = λ p. refl; bare = λ p. refl }
  read_end_still m s (sees c l) = accepted read_number m _ (answer_plain (version_at m.cells) c)

  pub read_still : (m : Mem z) (s id row : ℕ) → Still read_number m (read_out m s id row)
  unfolding read_out
  read_still m s id row = guard_still read_number ReadAnswer.Refused m _ _ (read_end_still m s _)

  write_now_still : (m : Mem z) (s id row : ℕ) (v : Option ℕ) (w : Option Write) → Still number_of m (write_now m s id row v w)
  unfolding write_now
  write_now_still m s id row v none = guarded m _ _ (accepted number_of m _ refl)
  write_now_still m s id row v (some w) = guarded m _ _ (accepted number_of m _ refl)

  pub write_still : (m : Mem z) (s id row : ℕ) (v : Option ℕ) → Still number_of m (write_out m s id row v)
  unfolding write_out
  write_still m s id row v = guarded m _ _ (write_now_still m s id row v _)

  pub commit_still : (m : Mem z) (s id : ℕ) → Still number_of m (commit_out m s id)
  unfolding commit_out
  commit_still m s id = guarded m _ _ (accepted number_of m _ refl)

  pub abort_still : (m : Mem z) (s id : ℕ) → Still number_of m (abort_out m s id)
  unfolding abort_out
  abort_still m s id = guarded m _ _ (accepted number_of m _ refl)

  vacuum_now_still : (m : Mem z) (hz room : ℕ) (l : List ℕ) (a : After) → Still number_of m (vacuum_now m hz room l a)
  unfolding vacuum_now swept
  vacuum_now_still m hz room l goes_on = record { same = λ p. refl; bare = λ p. refl }
  vacuum_now_still m hz room l broken = record { same = λ p. refl; bare = λ p. refl }
  vacuum_now_still m hz room [] ends = accepted number_of m _ refl
  vacuum_now_still m hz room (h ∷ l) ends = guarded m _ _ (accepted number_of m _ refl)

  pub vacuum_still : (m : Mem z) (row request room : ℕ) → Still number_of m (vacuum_out m row request room)
  unfolding vacuum_out
  vacuum_still m row request room = guarded m _ _ (vacuum_now_still m _ room _ _)

  lookup_end_still : (m : Mem z) (s : ℕ) (late : List Test) (g : Found) → Still number_of m (lookup_end m s late g)
  unfolding lookup_end
  lookup_end_still m s late (stopped k x) = record { same = λ p. refl; bare = λ p. refl }
  lookup_end_still m s late (got new rows) = guarded m late _ (accepted number_of m _ refl)

  pub lookup_still : (m : Mem z) (s id key : ℕ) (cands : List ℕ) (room : ℕ) → Still number_of m (lookup_out m s id key cands room)
  unfolding lookup_out
  lookup_still m s id key cands room = guarded m _ _ (lookup_end_still m s _ _)

  pub lookup_all_still : (m : Mem z) (s id key room : ℕ) → Still number_of m (lookup_all_out m s id key room)
  unfolding lookup_all_out
  lookup_all_still m s id key room = guarded m _ _ (lookup_end_still m s _ _)

  -- ---- every call
  pub refused_call_changes_nothing : (c : Call) (m : Mem z) → 0 < reply_number (step c m).reply → (step c m).after ≡ m
  unfolding step
  refused_call_changes_nothing (create n r) m p = (create_still m n r).same p
  refused_call_changes_nothing begin m p = (begin_still m).same p
  refused_call_changes_nothing (read s id row) m p = (read_still m s id row).same p
  refused_call_changes_nothing (write s id row v) m p = (write_still m s id row v).same p
  refused_call_changes_nothing (commit s id) m p = (commit_still m s id).same p
  refused_call_changes_nothing (abort s id) m p = (abort_still m s id).same p
  refused_call_changes_nothing (vacuum row request room) m p = (vacuum_still m row request room).same p
  refused_call_changes_nothing (lookup s id key cands room) m p = (lookup_still m s id key cands room).same p
  refused_call_changes_nothing (lookup_all s id key room) m p = (lookup_all_still m s id key room).same p

  pub refused_call_leaves_the_buffer : (c : Call) (m : Mem z) → 0 < reply_number (step c m).reply → Unwritten (step c m).reply
  unfolding step
  refused_call_leaves_the_buffer (create n r) m p = (create_still m n r).bare p
  refused_call_leaves_the_buffer begin m p = (begin_still m).bare p
  refused_call_leaves_the_buffer (read s id row) m p = tt
  refused_call_leaves_the_buffer (write s id row v) m p = (write_still m s id row v).bare p
  refused_call_leaves_the_buffer (commit s id) m p = (commit_still m s id).bare p
  refused_call_leaves_the_buffer (abort s id) m p = (abort_still m s id).bare p
  refused_call_leaves_the_buffer (vacuum row request room) m p = (vacuum_still m row request room).bare p
  refused_call_leaves_the_buffer (lookup s id key cands room) m p = (lookup_still m s id key cands room).bare p
  refused_call_leaves_the_buffer (lookup_all s id key room) m p = (lookup_all_still m s id key room).bare p
