-- The clock: begin draws its id from it and moves it on; a creation sets it; no other call moves it.
use mathlib.Core.List.{List, [], ◌∷◌}
use Rattle.std.proofs.Math.Option.{Option, none, some}
use Rattle.std.specs.Prelude.{◌≡◌, ℕ}
use Rattle.std.proofs.Math.Path.{refl, ap}
use Rattle.std.proofs.Common.{◌∙◌, arith}
use Rattle.std.proofs.Math.ListN.{get_or}
use Rattle.std.proofs.Math.Seq.{get_or-set_other}
use Rattle.words.specs.Sizes.{Sizes, FREE, CLOCK}
use Rattle.words.specs.Lists.{fold, keep}
use Rattle.kinds.specs.Versions.{version_at}
use Rattle.words.specs.Slots.{Write}
use Rattle.rules.specs.Memory.{Mem, clock, slot_at}
use Rattle.rules.specs.Chain.{After, goes_on, broken, ends}
use Rattle.rules.specs.Outcome.{Outcome, refuse_read, refuse, Test}
use Rattle.rules.specs.Read.{Sight, read_end, blocked, sees, read_out}
use Rattle.rules.specs.Write.{write_now, prepared, write_out}
use Rattle.rules.specs.Commit.{publish, publish_all, commit_out}
use Rattle.rules.specs.Abort.{give_back, abort_out, news}
use Rattle.rules.specs.Vacuum.{vacuum_now, swept, vacuum_out}
use Rattle.kinds.specs.Versions.{reclaimable}
use Rattle.rules.specs.Lookup.{Found, lookup_end, stopped, got, lookup_out, lookup_all_out}
use Rattle.rules.proofs.Theory.Guard.{guard_case}

module _ {z : Sizes} where
  publish_meta : (id : ℕ) (ws : List Write) (m : Mem z) → (publish_all id ws m).meta ≡ m.meta
  unfolding fold publish
  publish_meta id [] m = refl
  publish_meta id (w ∷ l) m = publish_meta id l (publish id w m)

  give_clock : (l : List ℕ) (m : Mem z) → clock (fold give_back l m) ≡ clock m
  unfolding fold give_back
  give_clock [] m = refl
  give_clock (c ∷ l) m = give_clock l (give_back c m) ∙ get_or-set_other m.meta FREE CLOCK c 0 (omega arith)

  abbrev Still : {A B : Type 0} → Mem z → Outcome z A B → Type 0
  Still m o = clock o.after ≡ clock m

  read_end_lem : (m : Mem z) (s : ℕ) (g : Sight) → Still m (read_end m s g)
  unfolding read_end
  read_end_lem m s (blocked k x) = refl
  read_end_lem m s (sees c l) = refl

  pub read_clock : (m : Mem z) (s id row : ℕ) → Still m (read_out m s id row)
  unfolding read_out
  read_clock m s id row = guard_case (Still m) (refuse_read m) _ _ (λ k x. refl) (λ _. read_end_lem m s _)

  write_now_lem : (m : Mem z) (s id row : ℕ) (v : Option ℕ) (w : Option Write) → Still m (write_now m s id row v w)
  unfolding write_now prepared
  write_now_lem m s id row v none = guard_case (Still m) (refuse m) _ _ (λ k x. refl) (λ _. get_or-set_other m.meta FREE CLOCK _ 0 (omega arith))
  write_now_lem m s id row v (some w) = guard_case (Still m) (refuse m) _ _ (λ k x. refl) (λ _. refl)

  pub write_clock : (m : Mem z) (s id row : ℕ) (v : Option ℕ) → Still m (write_out m s id row v)
  unfolding write_out
  write_clock m s id row v = guard_case (Still m) (refuse m) _ _ (λ k x. refl) (λ _. write_now_lem m s id row v _)

  pub commit_clock : (m : Mem z) (s id : ℕ) → Still m (commit_out m s id)
  unfolding commit_out
  commit_clock m s id = guard_case (Still m) (refuse m) _ _ (λ k x. refl) (λ _. ap (λ (w : List ℕ). get_or w CLOCK 0) (publish_meta id (slot_at m s).writes m))

  pub abort_clock : (m : Mem z) (s id : ℕ) → Still m (abort_out m s id)
  unfolding abort_out
  abort_clock m s id = guard_case (Still m) (refuse m) _ _ (λ k x. refl) (λ _. give_clock (news (slot_at m s).writes) _)

  vacuum_now_lem : (m : Mem z) (hz room : ℕ) (l : List ℕ) (a : After) → Still m (vacuum_now m hz room l a)
  unfolding vacuum_now swept
  vacuum_now_lem m hz room l goes_on = refl
  vacuum_now_lem m hz room l broken = refl
  vacuum_now_lem m hz room [] ends = refl
  vacuum_now_lem m hz room (c ∷ l) ends = guard_case (Still m) (refuse m) _ _ (λ k x. refl) (λ _. give_clock (keep (λ d. reclaimable hz (version_at m.cells d)) l) _)

  pub vacuum_clock : (m : Mem z) (row request room : ℕ) → Still m (vacuum_out m row request room)
  unfolding vacuum_out
  vacuum_clock m row request room = guard_case (Still m) (refuse m) _ _ (λ k x. refl) (λ _. vacuum_now_lem m _ room _ _)

  lookup_end_lem : (m : Mem z) (s : ℕ) (late : List Test) (f : Found) → Still m (lookup_end m s late f)
  unfolding lookup_end
  lookup_end_lem m s late (stopped k x) = refl
  lookup_end_lem m s late (got recs rows) = guard_case (Still m) (refuse m) late _ (λ k x. refl) (λ _. refl)

  pub lookup_clock : (m : Mem z) (s id key : ℕ) (cands : List ℕ) (room : ℕ) → Still m (lookup_out m s id key cands room)
  unfolding lookup_out
  lookup_clock m s id key cands room = guard_case (Still m) (refuse m) _ _ (λ k x. refl) (λ _. lookup_end_lem m s _ _)

  pub lookup_all_clock : (m : Mem z) (s id key room : ℕ) → Still m (lookup_all_out m s id key room)
  unfolding lookup_all_out
  lookup_all_clock m s id key room = guard_case (Still m) (refuse m) _ _ (λ k x. refl) (λ _. lookup_end_lem m s _ _)
