-- The specifications of the nine calls as one, over a call and its reply: every call meets it, and no second reply or memory does.
use Rattle.std.specs.Prelude.{ℕ, List, ◌≡◌, refl}
use Rattle.std.proofs.Common.{sym, ap, ◌∙◌}
use Rattle.kinds.specs.ReadAnswer.{ReadAnswer}
use Rattle.kinds.specs.Answer.{Answer}
use Rattle.words.specs.Sizes.{Sizes}
use Rattle.rules.specs.Memory.{Mem}
use Rattle.rules.specs.Outcome.{Outcome}
use Rattle.rules.specs.Create.{create_out}
use Rattle.rules.specs.Begin.{begin_out}
use Rattle.rules.specs.Read.{read_out}
use Rattle.rules.specs.Write.{write_out}
use Rattle.rules.specs.Commit.{commit_out}
use Rattle.rules.specs.Abort.{abort_out}
use Rattle.rules.specs.Vacuum.{vacuum_out}
use Rattle.rules.specs.Lookup.{lookup_out, lookup_all_out}
use Rattle.rules.specs.Run.{Call, create, begin, read, write, commit, abort, vacuum, lookup, lookup_all, looked, gave, swept, Ran, step}
use Rattle.rules.proofs.OneOutcome.{CreateSpec, create_meets, create_no_second_outcome, BeginSpec, begin_meets, begin_no_second_outcome, ReadSpec, read_meets, read_no_second_outcome, WriteSpec, write_meets, write_no_second_outcome, CommitSpec, commit_meets, commit_no_second_outcome, AbortSpec, abort_meets, abort_no_second_outcome, VacuumSpec, vacuum_meets, vacuum_no_second_outcome, LookupSpec, lookup_meets, lookup_no_second_outcome, LookupAllSpec, lookup_all_meets, lookup_all_no_second_outcome}

module _ {z : Sizes} where
  -- a reply and a memory after, from an outcome
  abbrev from_read : Outcome z ReadAnswer ℕ → Ran z
  from_read o = record { reply = looked o.answer; after = o.after }

  abbrev from_call : Outcome z Answer ℕ → Ran z
  from_call o = record { reply = gave o.answer o.front; after = o.after }

  abbrev from_vacuum : Outcome z Answer (List ℕ) → Ran z
  from_vacuum o = record { reply = swept o.answer o.front; after = o.after }

  -- the reply and the memory are those of an outcome that meets the specification
  abbrev Shows : {A B : Type 0} → (Outcome z A B → Type 0) → (Outcome z A B → Ran z) → Ran z → Type 0
  Shows {A} {B} Spec shown x = (o : Outcome z A B) × Spec o × (x ≡ shown o)

  abbrev pub Meant : Call → Mem z → Ran z → Type 0
  Meant (create n r) m = Shows (CreateSpec m n r) from_call
  Meant begin m = Shows (BeginSpec m) from_call
  Meant (read s id row) m = Shows (ReadSpec m s id row) from_read
  Meant (write s id row v) m = Shows (WriteSpec m s id row v) from_call
  Meant (commit s id) m = Shows (CommitSpec m s id) from_call
  Meant (abort s id) m = Shows (AbortSpec m s id) from_call
  Meant (vacuum row request room) m = Shows (VacuumSpec m row request room) from_vacuum
  Meant (lookup s id key cands room) m = Shows (LookupSpec m s id key cands room) from_call
  Meant (lookup_all s id key room) m = Shows (LookupAllSpec m s id key room) from_call

  pub step_is_meant : (c : Call) (m : Mem z) → Meant c m (step c m)
  unfolding step
  step_is_meant (create n r) m = (create_out m n r, create_meets m n r, refl)
  step_is_meant begin m = (begin_out m, begin_meets m, refl)
  step_is_meant (read s id row) m = (read_out m s id row, read_meets m s id row, refl)
  step_is_meant (write s id row v) m = (write_out m s id row v, write_meets m s id row v, refl)
  step_is_meant (commit s id) m = (commit_out m s id, commit_meets m s id, refl)
  step_is_meant (abort s id) m = (abort_out m s id, abort_meets m s id, refl)
  step_is_meant (vacuum row request room) m = (vacuum_out m row request room, vacuum_meets m row request room, refl)
  step_is_meant (lookup s id key cands room) m = (lookup_out m s id key cands room, lookup_meets m s id key cands room, refl)
  step_is_meant (lookup_all s id key room) m = (lookup_all_out m s id key room, lookup_all_meets m s id key room, refl)

  shown_once : {A B : Type 0} (Spec : Outcome z A B → Type 0) (shown : Outcome z A B → Ran z) → ((o p : Outcome z A B) → Spec o → Spec p → o ≡ p) → (x y : Ran z) → Shows Spec shown x → Shows Spec shown y → x ≡ y
  shown_once Spec shown one x y p q = p.2 ∙ ap shown (one p.0 q.0 p.1 q.1) ∙ sym q.2

  -- "prove that no second outcome fits"
  pub no_second_outcome : (c : Call) (m : Mem z) (x y : Ran z) → Meant c m x → Meant c m y → x ≡ y
  no_second_outcome (create n r) m = shown_once (CreateSpec m n r) from_call (create_no_second_outcome m n r)
  no_second_outcome begin m = shown_once (BeginSpec m) from_call (begin_no_second_outcome m)
  no_second_outcome (read s id row) m = shown_once (ReadSpec m s id row) from_read (read_no_second_outcome m s id row)
  no_second_outcome (write s id row v) m = shown_once (WriteSpec m s id row v) from_call (write_no_second_outcome m s id row v)
  no_second_outcome (commit s id) m = shown_once (CommitSpec m s id) from_call (commit_no_second_outcome m s id)
  no_second_outcome (abort s id) m = shown_once (AbortSpec m s id) from_call (abort_no_second_outcome m s id)
  no_second_outcome (vacuum row request room) m = shown_once (VacuumSpec m row request room) from_vacuum (vacuum_no_second_outcome m row request room)
  no_second_outcome (lookup s id key cands room) m = shown_once (LookupSpec m s id key cands room) from_call (lookup_no_second_outcome m s id key cands room)
  no_second_outcome (lookup_all s id key room) m = shown_once (LookupAllSpec m s id key room) from_call (lookup_all_no_second_outcome m s id key room)
