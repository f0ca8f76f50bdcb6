-- The records of an open transaction stay: a call adds to them, or ends the transaction, or is another's.
use Rattle.std.proofs.Math.Bool.{false, true}
use Rattle.std.proofs.Common.{true≢false, inl, inr, subst, ap, ◌∙◌, arith, length-append, get_or-set_other, get_or-set_same}
use mathlib.Core.List.{List, ◌++◌, [], ◌∷◌, append-nil}
use Rattle.std.specs.Prelude.{◌≢◌, ◌≡◌, ◌+◌, ℕ, ◌<◌, ◌≤◌, length, take}
use Rattle.std.proofs.Math.Option.{Option, some, none}
use Rattle.std.proofs.Math.Path.{sym, refl}
use Rattle.std.proofs.Math.ListN.{get_or, set}
use borrow.Author.Tests.{leb-false, eq-eqb, ne_eqb}
use Rattle.kinds.specs.Answer.{Answer, Done, Begun, Wrote, Vacuumed, Listed}
use Rattle.kinds.specs.ReadAnswer.{ReadAnswer}
use Rattle.words.specs.Sizes.{Sizes, READS, WRITES}
use Rattle.words.specs.Lists.{keep}
use Rattle.kinds.specs.Versions.{version_at}
use Rattle.words.specs.Slots.{Rec, slot_of, Slot, add_recs, write, Write, emptied}
use Rattle.rules.specs.Memory.{Mem, with_slot, words_at, size_r, head_at, free, slot_at, clock}
use Rattle.rules.specs.Chain.{After, goes_on, broken, ends}
use Rattle.rules.specs.Snapshot.{vacant}
use Rattle.rules.specs.Outcome.{each, Outcome, refuse_read, refuse, slot_tests, Test, row_test}
use Rattle.rules.specs.Create.{create_out}
use Rattle.rules.specs.Begin.{begin_out}
use Rattle.rules.specs.Read.{Sight, read_end, blocked, sees, read_out}
use Rattle.rules.specs.Write.{write_now, head_tests, prepared, write_out}
use Rattle.rules.specs.Commit.{commit_out}
use Rattle.rules.specs.Abort.{abort_out, news}
use Rattle.rules.specs.Vacuum.{swept, vacuum_now, vacuum_out}
use Rattle.kinds.specs.Versions.{reclaimable}
use Rattle.rules.specs.Lookup.{Found, lookup_end, stopped, got, lookup_out, candidate_tests, lookup_all_out}
use Rattle.rules.specs.Run.{read, vacuum, lookup, lookup_all, commit, abort, begin, create, step, Call, run}
use Rattle.rules.specs.History.{ended, Log, who_in, began, if_done, if_begun, restarts, logged, rows_in, cells_in, wrote, Val, if_wrote, made, writes_in, view_in, GoesOn, log_of}
use Rattle.rules.specs.Reachable.{In}
use Rattle.rules.proofs.Theory.Cases.{by_eq}
use Rattle.rules.proofs.Theory.SlotLaws.{slot_recs, slot_write}
use Rattle.rules.specs.Theory.View.{view_of}
use Rattle.rules.specs.Theory.Effects.{slot_v}
use Rattle.rules.specs.Theory.Inv.{Hist}
use Rattle.rules.specs.Theory.Recording.{Rightly, Noted}
use Rattle.rules.proofs.Theory.Guard.{guard_case, passed_split}
use Rattle.rules.proofs.Theory.Same.{slots_give_all, slots_publish_all}
use Rattle.rules.specs.Theory.Good.{Owner}
use Rattle.rules.proofs.Theory.Good.{Good, owner}
use Rattle.rules.proofs.Theory.ReadCall.{recs_count, noted_at}
use Rattle.rules.proofs.Theory.LookupCall.{Fine, found_fine, rows_below, all_rows_below}
use Rattle.rules.specs.Theory.Steps.{hist_of}
use Rattle.rules.proofs.Theory.Steps.{Sound, commits_who, step_sound}
use Rattle.rules.proofs.Theory.Continuing.{step_bound}
use Rattle.rules.specs.Run as Run

in_front : {A : Type 0} (q : A) (a b : List A) → In q a → In q (a ++ b)
in_front q [] b i = absurd i
in_front q (x ∷ a) b (inl e) = inl e
in_front q (x ∷ a) b (inr i) = inr (in_front q a b i)

module _ (z : Sizes) (s : ℕ) where
  abbrev recs_of : List (List ℕ) → ℕ → List Rec
  recs_of ss a = (slot_of z (get_or ss a [])).recs

  abbrev Stay : List (List ℕ) → List (List ℕ) → Type 0
  Stay ss ss' = (q : Rec) → In q (recs_of ss s) → In q (recs_of ss' s)

  abbrev pub Keeps : Mem z → Mem z → Type 0
  Keeps m m' = Stay m.slots m'.slots

  -- another slot is stored
  keeps_other : (ss : List (List ℕ)) (a : ℕ) (t : List ℕ) (ss' : List (List ℕ)) → ss' ≡ set ss a t → s ≢ a → Stay ss ss'
  keeps_other ss a t ss' e ne q i = subst (λ (u : List ℕ). In q (slot_of z u).recs) (sym (ap (λ (x : List (List ℕ)). get_or x s []) e ∙ get_or-set_other ss a s t [] ne)) i

  keeps_slots : (ss ss' : List (List ℕ)) → ss' ≡ ss → Stay ss ss'
  keeps_slots ss ss' e q i = subst (λ (x : List (List ℕ)). In q (recs_of x s)) (sym e) i

  -- slot a is stored with its records at the front
  keeps_front : (ss : List (List ℕ)) (a : ℕ) (t : List ℕ) (new : List Rec) → a < length ss → (slot_of z t).recs ≡ recs_of ss a ++ new → Stay ss (set ss a t)
  keeps_front ss a t new lt r q i = by_eq s a
      (λ y.
      let w : recs_of (set ss a t) s ≡ recs_of ss a ++ new = ap (recs_of (set ss a t)) y ∙ ap (λ (u : List ℕ). (slot_of z u).recs) (get_or-set_same ss a t [] lt) ∙ r in
      subst (In q) (sym w) (in_front q (recs_of ss a) new (subst (λ (x : ℕ). In q (recs_of ss x)) y i)))
      (λ ne. keeps_other ss a t (set ss a t) refl ne q i)

  module _ (R N : ℕ) (m : Mem z) (h : Hist) (gd : Good R N m h) where
    in_slots : (a : ℕ) → a < z.slots → a < length m.slots
    in_slots a lt = omega (arith, gd.shaped.slots.count)

    added_keeps : (a id : ℕ) (o : Owner m a id) (l : List Rec) → Rightly z (view_of m) gd.ghost a ((slot_v (view_of m) a).recs ++ l) → Keeps m (with_slot m a (add_recs z l (words_at m a)))
    added_keeps a id o l r =
        let le : get_or (words_at m a) (READS z) 0 + length l ≤ z.reads = rw (length-append (slot_v (view_of m) a).recs l, recs_count R N m h gd a id o) at r.few in
        keeps_front m.slots a _ l (in_slots a o.slot) (ap (λ (t : Slot). t.recs) (slot_recs l (words_at m a) (gd.shaped.slots.each a o.slot) le).0)

    end_keeps : (a id : ℕ) (o : Owner m a id) (g : Sight) → Noted z (view_of m) gd.ghost a (slot_v (view_of m) a).recs g → Keeps m (read_end m a g).after
    unfolding read_end
    end_keeps a id o (blocked k x) r = λ q i. i
    end_keeps a id o (sees c l) r = added_keeps a id o l r

    read_keeps : (a id row : ℕ) → Keeps m (read_out m a id row).after
    unfolding read_out
    read_keeps a id row = guard_case (λ (x : Outcome z ReadAnswer ℕ). Keeps m x.after) (refuse_read m) (slot_tests m a id ++ row_test m row ∷ []) _ (λ k x q i. i)
        (λ p.
        let y = passed_split (slot_tests m a id) (row_test m row ∷ []) p in
        let o = owner m a id y.0 in
        end_keeps a id o _ (noted_at R N m h gd a id o row (leb-false (size_r m) row y.1.0)))

    write_now_keeps : (a id row : ℕ) (v : Option ℕ) (o : Owner m a id) (w : Option Write) → Keeps m (write_now m a id row v w).after
    unfolding write_now head_tests prepared
    write_now_keeps a id row v o (some w) = guard_case (λ (x : Outcome z Answer ℕ). Keeps m x.after) (refuse m) _ _ (λ k x q i. i) (λ _ q i. i)
    write_now_keeps a id row v o none = guard_case (λ (x : Outcome z Answer ℕ). Keeps m x.after) (refuse m) _ _ (λ k x q i. i)
        (λ p.
        let few : get_or (words_at m a) (WRITES z) 0 < z.writes = leb-false _ _ p.1.1.1.0 in
        keeps_front m.slots a _ [] (in_slots a o.slot) (ap (λ (t : Slot). t.recs) (slot_write (words_at m a) (gd.shaped.slots.each a o.slot) (write row (head_at m row) (free m)) few) ∙ sym (append-nil (slot_at m a).recs)))

    write_keeps : (a id row : ℕ) (v : Option ℕ) → Keeps m (write_out m a id row v).after
    unfolding write_out
    write_keeps a id row v = guard_case (λ (x : Outcome z Answer ℕ). Keeps m x.after) (refuse m) (slot_tests m a id ++ row_test m row ∷ []) _ (λ k x q i. i)
        (λ p. write_now_keeps a id row v (owner m a id (passed_split (slot_tests m a id) (row_test m row ∷ []) p).0) _)

    swept_keeps : (hz room : ℕ) (l : List ℕ) (x : After) → Keeps m (vacuum_now m hz room l x).after
    unfolding vacuum_now swept
    swept_keeps hz room l goes_on = λ q i. i
    swept_keeps hz room l broken = λ q i. i
    swept_keeps hz room [] ends = λ q i. i
    swept_keeps hz room (c ∷ l) ends = guard_case (λ (x : Outcome z Answer (List ℕ)). Keeps m x.after) (refuse m) _ _ (λ k x q i. i)
        (λ _. keeps_slots m.slots _ (slots_give_all (keep (λ d. reclaimable hz (version_at m.cells d)) l) _))

    vacuum_keeps : (row request room : ℕ) → Keeps m (vacuum_out m row request room).after
    unfolding vacuum_out
    vacuum_keeps row request room = guard_case (λ (x : Outcome z Answer (List ℕ)). Keeps m x.after) (refuse m) _ _ (λ k x q i. i) (λ _. swept_keeps _ room _ _)

    lookup_end_keeps : (a id : ℕ) (o : Owner m a id) (key room : ℕ) (late : List Test) (f : Found) → Fine R N m h gd a id o key room f → Keeps m (lookup_end m a late f).after
    unfolding lookup_end
    lookup_end_keeps a id o key room late (stopped k x) r = λ q i. i
    lookup_end_keeps a id o key room late (got l rows) r = guard_case (λ (x : Outcome z Answer ℕ). Keeps m x.after) (refuse m) late _ (λ k x q i. i) (λ _. added_keeps a id o l r)

    lookup_keeps : (a id key : ℕ) (cands : List ℕ) (room : ℕ) → Keeps m (lookup_out m a id key cands room).after
    unfolding lookup_out
    lookup_keeps a id key cands room = guard_case (λ (x : Outcome z Answer ℕ). Keeps m x.after) (refuse m) (slot_tests m a id ++ each (candidate_tests m) cands) _ (λ k x q i. i)
        (λ p.
        let o = owner m a id (passed_split (slot_tests m a id) (each (candidate_tests m) cands) p).0 in
        lookup_end_keeps a id o key room _ _ (found_fine R N m h gd a id o key room _ (rows_below R N m h gd (slot_at m a).writes cands)))

    lookup_all_keeps : (a id key room : ℕ) → Keeps m (lookup_all_out m a id key room).after
    unfolding lookup_all_out
    lookup_all_keeps a id key room = guard_case (λ (x : Outcome z Answer ℕ). Keeps m x.after) (refuse m) (slot_tests m a id) _ (λ k x q i. i)
        (λ p. let o = owner m a id p in lookup_end_keeps a id o key room [] _ (found_fine R N m h gd a id o key room _ (all_rows_below R N m h gd)))

  -- ---- whole calls: the transaction of slot s has this id after the call
  module _ (id : ℕ) (nz : id ≢ 0) where
    -- an end, or a begin, of slot s would show in the log
    who_ended : (l k : Log) (a : ℕ) → who_in (ended a ∷ k) s ≡ id → s ≢ a
    unfolding who_in
    who_ended l k a e y = nz (sym e ∙ rw (eq-eqb s a y) refl)

    who_began : (l : Log) (a i : ℕ) → i ≢ id → who_in (began a i ∷ l) s ≡ id → s ≢ a
    unfolding who_in
    who_began l a i ne e y = ne (sym (rw (eq-eqb s a y) refl) ∙ e)

    commit_keeps : (m : Mem z) (l k : Log) (a i : ℕ) → who_in (if_done (commit_out m a i).answer (ended a ∷ k) l) s ≡ id → Keeps m (commit_out m a i).after
    unfolding commit_out
    commit_keeps m l k a i = guard_case (λ (o : Outcome z Answer ℕ). who_in (if_done o.answer (ended a ∷ k) l) s ≡ id → Keeps m o.after) (refuse m) _ _ (λ n x _ q j. j)
        (λ _ e. keeps_other m.slots a (emptied z) _ (ap (λ (x : List (List ℕ)). set x a (emptied z)) (slots_publish_all i (slot_at m a).writes m)) (who_ended l k a e))

    abort_keeps : (m : Mem z) (l k : Log) (a i : ℕ) → who_in (if_done (abort_out m a i).answer (ended a ∷ k) l) s ≡ id → Keeps m (abort_out m a i).after
    unfolding abort_out
    abort_keeps m l k a i = guard_case (λ (o : Outcome z Answer ℕ). who_in (if_done o.answer (ended a ∷ k) l) s ≡ id → Keeps m o.after) (refuse m) _ _ (λ n x _ q j. j)
        (λ _ e. keeps_other m.slots a (emptied z) _ (ap (λ (x : List (List ℕ)). set x a (emptied z)) (slots_give_all (news (slot_at m a).writes) _)) (who_ended l k a e))

    begin_keeps : (m : Mem z) (l : Log) → id < clock m → who_in (if_begun (begin_out m).answer (λ a i. began a i ∷ l) l) s ≡ id → Keeps m (begin_out m).after
    unfolding begin_out
    begin_keeps m l lt = guard_case (λ (o : Outcome z Answer ℕ). who_in (if_begun o.answer (λ a i. began a i ∷ l) l) s ≡ id → Keeps m o.after) (refuse m) _ _ (λ n x _ q j. j)
        (λ _ e. keeps_other m.slots _ _ _ refl (who_began l _ (clock m) (omega arith) e))

    create_keeps : (m : Mem z) (n r : ℕ) → if_done (create_out m n r).answer true false ≡ false → Keeps m (create_out m n r).after
    unfolding create_out
    create_keeps m n r = guard_case (λ (o : Outcome z Answer ℕ). if_done o.answer true false ≡ false → Keeps m o.after) (refuse m) _ _ (λ k x _ q j. j) (λ _ e. absurd (true≢false e))

    pub step_keeps : (c : Call) (m : Mem z) (l : Log) → Sound m l → id < clock m → restarts c (step c m).reply ≡ false → who_in (logged c (step c m).reply l) s ≡ id → Keeps m (step c m).after
    unfolding step logged restarts
    step_keeps (create n r) m l so lt e w = create_keeps m n r e
    step_keeps begin m l so lt e w = begin_keeps m l lt w
    step_keeps (read a i row) m l so lt e w = read_keeps (rows_in l) (cells_in l) m (hist_of l) so a i row
    step_keeps (Run.write a i row v) m l so lt e w = write_keeps (rows_in l) (cells_in l) m (hist_of l) so a i row v
    step_keeps (commit a i) m l so lt e w = commit_keeps m l _ a i w
    step_keeps (abort a i) m l so lt e w = abort_keeps m l l a i w
    step_keeps (vacuum row request room) m l so lt e w = vacuum_keeps (rows_in l) (cells_in l) m (hist_of l) so row request room
    step_keeps (lookup a i key cands room) m l so lt e w = lookup_keeps (rows_in l) (cells_in l) m (hist_of l) so a i key cands room
    step_keeps (lookup_all a i key room) m l so lt e w = lookup_all_keeps (rows_in l) (cells_in l) m (hist_of l) so a i key room

    -- who has the id after a call had it before
    back_ended : (l k : Log) (a : ℕ) (x : Answer) → (who_in k s ≡ id → who_in l s ≡ id) → who_in (if_done x (ended a ∷ k) l) s ≡ id → who_in l s ≡ id
    unfolding who_in
    back_ended l k a Done f e = f (sym (rw (ne_eqb s a (who_ended l k a e)) refl) ∙ e)
    back_ended l k a (Begun i j) f e = e
    back_ended l k a (Wrote c) f e = e
    back_ended l k a (Vacuumed i j) f e = e
    back_ended l k a (Listed i) f e = e
    back_ended l k a (Answer.Refused i j) f e = e

    back_wrote : (l : Log) (a row : ℕ) (v : Val) (x : Answer) → who_in (if_wrote x (wrote a row v ∷ l) l) s ≡ id → who_in l s ≡ id
    unfolding who_in
    back_wrote l a row v Done e = e
    back_wrote l a row v (Begun i j) e = e
    back_wrote l a row v (Wrote c) e = e
    back_wrote l a row v (Vacuumed i j) e = e
    back_wrote l a row v (Listed i) e = e
    back_wrote l a row v (Answer.Refused i j) e = e

    back_began : (l : Log) (a i : ℕ) → i ≢ id → who_in (began a i ∷ l) s ≡ id → who_in l s ≡ id
    unfolding who_in
    back_began l a i ne e = rw (ne_eqb s a (who_began l a i ne e)) at e

    back_begin : (m : Mem z) (l : Log) → id < clock m → who_in (if_begun (begin_out m).answer (λ a i. began a i ∷ l) l) s ≡ id → who_in l s ≡ id
    unfolding begin_out
    back_begin m l lt = guard_case (λ (o : Outcome z Answer ℕ). who_in (if_begun o.answer (λ a i. began a i ∷ l) l) s ≡ id → who_in l s ≡ id) (refuse m) _ _ (λ n x e. e)
        (λ _ e. back_began l (vacant (take z.slots m.slots)) (clock m) (omega arith) e)

    back_create : (m : Mem z) (n r : ℕ) (l : Log) → if_done (create_out m n r).answer true false ≡ false → who_in (if_done (create_out m n r).answer (made n r ∷ []) l) s ≡ id → who_in l s ≡ id
    unfolding create_out
    back_create m n r l = guard_case (λ (o : Outcome z Answer ℕ). if_done o.answer true false ≡ false → who_in (if_done o.answer (made n r ∷ []) l) s ≡ id → who_in l s ≡ id) (refuse m) _ _ (λ k x _ e. e) (λ _ e. absurd (true≢false e))

    step_back : (c : Call) (m : Mem z) (l : Log) → id < clock m → restarts c (step c m).reply ≡ false → who_in (logged c (step c m).reply l) s ≡ id → who_in l s ≡ id
    unfolding step logged restarts
    step_back (create n r) m l lt e w = back_create m n r l e w
    step_back begin m l lt e w = back_begin m l lt w
    step_back (read a i row) m l lt e w = w
    step_back (Run.write a i row v) m l lt e w = back_wrote l a row _ (write_out m a i row v).answer w
    step_back (commit a i) m l lt e w = back_ended l _ a (commit_out m a i).answer (λ y. sym (commits_who l (writes_in l a) s) ∙ y) w
    step_back (abort a i) m l lt e w = back_ended l l a (abort_out m a i).answer (λ y. y) w
    step_back (vacuum row request room) m l lt e w = w
    step_back (lookup a i key cands room) m l lt e w = w
    step_back (lookup_all a i key room) m l lt e w = w

    -- the id is in the past after each call
    step_past : (c : Call) (m : Mem z) (l : Log) → Sound m l → id < clock m → restarts c (step c m).reply ≡ false → id < clock (step c m).after
    step_past c m l so lt e = (step_bound s id nz (view_in l s) (rows_in l) c m l so.shaped e (record { past = lt; rows = refl; same = λ _ r. refl })).past

    run_back : (cs : List Call) (m : Mem z) (l : Log) → Sound m l → id < clock m → GoesOn cs (run cs m).0 → who_in (log_of cs (run cs m).0 l) s ≡ id → who_in l s ≡ id
    unfolding run log_of
    run_back [] m l so lt g w = w
    run_back (c ∷ cs) m l so lt g w = step_back c m l lt g.0 (run_back cs (step c m).after (logged c (step c m).reply l) (step_sound c m l so) (step_past c m l so lt g.0) g.1 w)

    pub run_keeps : (cs : List Call) (m : Mem z) (l : Log) → Sound m l → id < clock m → GoesOn cs (run cs m).0 → who_in (log_of cs (run cs m).0 l) s ≡ id → Keeps m (run cs m).1
    unfolding run log_of
    run_keeps [] m l so lt g w = λ q i. i
    run_keeps (c ∷ cs) m l so lt g w =
        let m₁ = (step c m).after in
        let l₁ = logged c (step c m).reply l in
        let so₁ = step_sound c m l so in
        let lt₁ = step_past c m l so lt g.0 in
        let a = step_keeps c m l so lt g.0 (run_back cs m₁ l₁ so₁ lt₁ g.1 w) in
        let b = run_keeps cs m₁ l₁ so₁ lt₁ g.1 w in
        λ q i. b q (a q i)
