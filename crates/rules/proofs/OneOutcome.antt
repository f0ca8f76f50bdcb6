-- No second outcome fits. A call's specification is its table of refusals and what an accepted call leaves, said of any outcome; two
-- outcomes that meet it for the same arguments and memory are equal: the answer, what stands in the buffer, every lent entry.
use Rattle.std.specs.Prelude.{ℕ, ◌≡◌, refl, ◌⊎◌, length, take}
use Rattle.std.proofs.Math.Bool.{true, false}
use mathlib.Core.List.{List, [], ◌∷◌, ◌++◌}
use Rattle.std.proofs.Math.Option.{Option, none, some}
use Rattle.std.proofs.Common.{sym, ◌∙◌, inl, inr}
use Rattle.std.proofs.Math.Path.{subst}
use Rattle.std.proofs.Math.Logic.{⊎_elim}
use native.Mathlib.Omega.{arith}
use Rattle.std.proofs.Math.Dec.{ltb, leb}
use Rattle.kinds.specs.ReadAnswer.{ReadAnswer, None}
use Rattle.kinds.specs.Answer.{Answer, Done, Begun, Wrote, Vacuumed, Listed}
use Rattle.words.specs.Sizes.{Sizes}
use Rattle.words.specs.Lists.{fold, from}
use Rattle.rules.proofs.Theory.Cases.{by_bool}
use Rattle.kinds.specs.Versions.{tx, at, value_of, version_at}
use Rattle.words.specs.Slots.{Write, Rec, add_recs, emptied}
use Rattle.rules.specs.Memory.{Mem, size_r, size_n, clock, free, head_at, words_at, slot_at, with_cells, with_slot}
use Rattle.rules.specs.Chain.{After, ends, goes_on, broken, chained}
use Rattle.rules.specs.Snapshot.{vacant, horizon}
use Rattle.rules.specs.Outcome.{Outcome, out, guard}
use Rattle.rules.specs.Create.{created, create_out}
use Rattle.rules.specs.Begin.{begun, begin_out}
use Rattle.rules.specs.Read.{own, answer_at, Sight, blocked, sees, read_at, read_end, read_out}
use Rattle.rules.specs.Write.{prepared, replaced, write_out}
use Rattle.rules.specs.Commit.{publish_all, commit_out}
use Rattle.rules.specs.Abort.{give_back, abort_out}
use Rattle.rules.specs.Vacuum.{relink, reports, swept, vacuum_now, vacuum_out}
use Rattle.rules.specs.Lookup.{Found, got, is_key, own_rows, list_row, find_row, find, lookup_end, rows_to_read, lookup_out, lookup_all_out}
use Rattle.rules.specs.Exactly.{Line, NoneOf, Told, Exactly, each_of}
use Rattle.rules.proofs.Exactly.{in_answer, in_read, is_less, is_most, is_not, none_append, none_refuses, holds_true, fails_false}
use Rattle.rules.specs.Terms.{LastEntry, NoEntry, OwnIs}
use Rattle.rules.proofs.Terms.{own_is, is_own}
use Rattle.rules.proofs.Along.{ChainIs, chain_is, is_chain}
use Rattle.rules.proofs.SharedLines.{store_lines, slot_lines, row_lines, row_line}
use Rattle.rules.proofs.CreateRefuses.{create_lines, create_refuses_exactly, begin_lines, begin_refuses_exactly}
use Rattle.rules.proofs.ReadRefuses.{Reads, SightIs, sight_is, reads_is, sight_lines_at, read_lines, read_refuses_exactly}
use Rattle.rules.proofs.WriteRefuses.{write_lines, written, write_refuses_exactly}
use Rattle.rules.proofs.CommitRefuses.{commit_lines, commit_refuses_exactly}
use Rattle.rules.proofs.AbortRefuses.{abort_lines, aborted, abort_refuses_exactly}
use Rattle.rules.specs.VacuumRefuses.{Reclaimable, Picks}
use Rattle.rules.proofs.VacuumRefuses.{is_reclaimable, keep_picks, picks_keep, WholeChain, DeadOf, walk_lines, vacuum_lines, row_chain, vacuumed, vacuum_refuses_exactly}
use Rattle.rules.specs.LookupRefuses.{HoldsKey}
use Rattle.rules.proofs.LookupRefuses.{is_key_lem, recs_after, rows_after, full_line, sight_lines_of, find_lines, candidate_lines, own_row_lines, lookup_lines, lookup_refuses_exactly, lookup_all_lines, lookup_all_refuses_exactly}
use Rattle.rules.specs.OneOutcome.{Meets}

module _ {z : Sizes} {A B : Type 0} (T : Told A) (m : Mem z) (table : List Line) (Accepted : Outcome z A B → Type 0) (call done : Outcome z A B) (exact : Exactly T m call done table) where
  meets_is : ((o : Outcome z A B) → NoneOf table → Accepted o → o ≡ done) → (o : Outcome z A B) → Meets T m table Accepted o → o ≡ call
  meets_is f o h = ⊎_elim (λ n. f o n (h.accepted n) ∙ sym (exact.otherwise n)) (λ q. h.refused q.0 q.1 q.2 ∙ sym (exact.when q.0 q.1 q.2)) exact.decided

  meets : (NoneOf table → Accepted done) → Meets T m table Accepted call
  meets f = record { refused = exact.when; accepted = λ n. subst Accepted (sym (exact.otherwise n)) (f n) }

  -- two outcomes that meet it
  second : ((o : Outcome z A B) → NoneOf table → Accepted o → o ≡ done) → (o p : Outcome z A B) → Meets T m table Accepted o → Meets T m table Accepted p → o ≡ p
  second f o p h g = meets_is f o h ∙ sym (meets_is f p g)

module _ {z : Sizes} (m : Mem z) where
  -- ---- creation: "Fresh: clock 1, heads 0, slots empty, cells free"
  abbrev pub CreateSpec : ℕ → ℕ → Outcome z Answer ℕ → Type 0
  CreateSpec n r = Meets in_answer m (create_lines m n r) (λ o. o ≡ out Done [] (created m n r))

  pub create_meets : (n r : ℕ) → CreateSpec n r (create_out m n r)
  create_meets n r = meets in_answer m _ _ _ _ (create_refuses_exactly m n r) (λ n. refl)

  pub create_no_second_outcome : (n r : ℕ) (o p : Outcome z Answer ℕ) → CreateSpec n r o → CreateSpec n r p → o ≡ p
  create_no_second_outcome n r = second in_answer m _ _ _ _ (create_refuses_exactly m n r) (λ o n e. e)

  -- ---- begin: "lowest empty slot, id = clock, clock + 1, then the snapshot"
  abbrev pub BeginSpec : Outcome z Answer ℕ → Type 0
  BeginSpec = Meets in_answer m (begin_lines m) (λ o. let s = vacant (take z.slots m.slots) in o ≡ out (Begun s (tx (clock m))) [] (begun m s))

  pub begin_meets : BeginSpec (begin_out m)
  begin_meets = meets in_answer m _ _ _ _ (begin_refuses_exactly m) (λ n. refl)

  pub begin_no_second_outcome : (o p : Outcome z Answer ℕ) → BeginSpec o → BeginSpec p → o ≡ p
  begin_no_second_outcome = second in_answer m _ _ _ _ (begin_refuses_exactly m) (λ o n e. e)

  -- ---- read: what is found, and the records added
  module _ (s id row : ℕ) where
    abbrev ReadsAt : ℕ → List Rec → Type 0
    ReadsAt = Reads z (size_n m) (version_at m.cells) (head_at m row) (slot_at m s) (slot_at m s).recs row

    abbrev pub ReadSpec : Outcome z ReadAnswer ℕ → Type 0
    ReadSpec = Meets in_read m (read_lines m s id row) (λ o. (c : ℕ) (l : List Rec) → ReadsAt c l → o ≡ out (answer_at (version_at m.cells) c) [] (with_slot m s (add_recs z l (words_at m s))))

    none_of_sight : NoneOf (read_lines m s id row) → NoneOf (sight_lines_at m s id row)
    none_of_sight n = ((none_append (row_lines m s id row) (sight_lines_at m s id row)).0 n).1

    read_is : (c : ℕ) (l : List Rec) → ReadsAt c l → NoneOf (read_lines m s id row) → read_end m s (read_at m (slot_at m s) (slot_at m s).recs row) ≡ out (answer_at (version_at m.cells) c) [] (with_slot m s (add_recs z l (words_at m s)))
    unfolding read_end
    read_is c l r n = rw (reads_is z (size_n m) (version_at m.cells) (head_at m row) (slot_at m s) (slot_at m s).recs row c l r (none_of_sight n))

    pub read_meets : ReadSpec (read_out m s id row)
    read_meets = meets in_read m _ _ _ _ (read_refuses_exactly m s id row) (λ n c l r. read_is c l r n)

    -- an accepted read finds something, or that there is nothing
    pub read_finds : NoneOf (read_lines m s id row) → (c : ℕ) × (l : List Rec) × ReadsAt c l
    read_finds n = on (read_at m (slot_at m s) (slot_at m s).recs row) (sight_is z (size_n m) (version_at m.cells) (head_at m row) (slot_at m s) (slot_at m s).recs row)
      where
        on : (g : Sight) → SightIs z (size_n m) (version_at m.cells) (head_at m row) (slot_at m s) (slot_at m s).recs row g → (c : ℕ) × (l : List Rec) × ReadsAt c l
        on (blocked k x) i = absurd (none_refuses (sight_lines_at m s id row) k x (none_of_sight n) i)
        on (sees c l) i = (c, l, i.1)

    pub read_no_second_outcome : (o p : Outcome z ReadAnswer ℕ) → ReadSpec o → ReadSpec p → o ≡ p
    read_no_second_outcome =
        second in_read m _ _ _ _ (read_refuses_exactly m s id row)
        (λ o n a.
        let r = read_finds n in
        a r.0 r.1 r.2 ∙ sym (read_is r.0 r.1 r.2 n))

  -- ---- write: "an own entry for the row has its value replaced and keeps its cell. Otherwise .. an entry is added"
  module _ (s id row : ℕ) (v : Option ℕ) where
    pub record WriteAccepted (o : Outcome z Answer ℕ) : Type 0 where
      pub replaces : (w : Write) → LastEntry (slot_at m s).writes row w → o ≡ out (Wrote (at w.new)) [] (replaced m w.new v)
      pub adds : NoEntry (slot_at m s).writes row → o ≡ out (Wrote (at (free m))) [] (prepared m s id row v)

    abbrev pub WriteSpec : Outcome z Answer ℕ → Type 0
    WriteSpec = Meets in_answer m (write_lines m s id row) WriteAccepted

    pub write_meets : WriteSpec (write_out m s id row v)
    write_meets =
        meets in_answer m _ _ _ _ (write_refuses_exactly m s id row v)
        (λ n. record { replaces = λ w i. rw (is_own (slot_at m s).writes row (some w) i); adds = λ i. rw (is_own (slot_at m s).writes row none i) })

    pub write_no_second_outcome : (o p : Outcome z Answer ℕ) → WriteSpec o → WriteSpec p → o ≡ p
    write_no_second_outcome = second in_answer m _ _ _ _ (write_refuses_exactly m s id row v) (λ o n a. on o a (own (slot_at m s).writes row) (own_is (slot_at m s).writes row))
      where
        on : (o : Outcome z Answer ℕ) → WriteAccepted o → (w : Option Write) → OwnIs (slot_at m s).writes row w → o ≡ written m s id row v w
        on o a (some w) i = a.replaces w i
        on o a none i = a.adds i

  -- ---- commit and abort
  abbrev pub CommitSpec : ℕ → ℕ → Outcome z Answer ℕ → Type 0
  CommitSpec s id = Meets in_answer m (commit_lines m s id) (λ o. o ≡ out Done [] (with_slot (publish_all id (slot_at m s).writes m) s (emptied z)))

  pub commit_meets : (s id : ℕ) → CommitSpec s id (commit_out m s id)
  commit_meets s id = meets in_answer m _ _ _ _ (commit_refuses_exactly m s id) (λ n. refl)

  pub commit_no_second_outcome : (s id : ℕ) (o p : Outcome z Answer ℕ) → CommitSpec s id o → CommitSpec s id p → o ≡ p
  commit_no_second_outcome s id = second in_answer m _ _ _ _ (commit_refuses_exactly m s id) (λ o n e. e)

  abbrev pub AbortSpec : ℕ → ℕ → Outcome z Answer ℕ → Type 0
  AbortSpec s id = Meets in_answer m (abort_lines m s id) (λ o. o ≡ aborted m s id)

  pub abort_meets : (s id : ℕ) → AbortSpec s id (abort_out m s id)
  abort_meets s id = meets in_answer m _ _ _ _ (abort_refuses_exactly m s id) (λ n. refl)

  pub abort_no_second_outcome : (s id : ℕ) (o p : Outcome z Answer ℕ) → AbortSpec s id o → AbortSpec s id p → o ≡ p
  abort_no_second_outcome s id = second in_answer m _ _ _ _ (abort_refuses_exactly m s id) (λ o n e. e)

  -- ---- vacuum: the chain's list, the reclaimable of it, what is left
  module _ (row request room : ℕ) where
    abbrev Dead : List ℕ → List ℕ → Type 0
    Dead l d = DeadOf m (horizon m request) l d

    abbrev pub KeptOf : List ℕ → List ℕ → Type 0
    KeptOf l k = Picks (λ c. Reclaimable (horizon m request) (version_at m.cells c) → ⊥) l k

    -- "They are unlinked, reported (cell, value) and given back in chain order. The answer is their count and the live head's value"
    abbrev pub swept_to : ℕ → List ℕ → List ℕ → Outcome z Answer (List ℕ)
    swept_to h d k = out (Vacuumed (length d) (value_of (version_at m.cells h))) (reports m.cells d) (fold give_back d (with_cells m (relink (h ∷ k) m.cells)))

    pub record VacuumAccepted (o : Outcome z Answer (List ℕ)) : Type 0 where
      -- "or 0 and no value where the head is 0"
      pub nothing : head_at m row ≡ 0 → o ≡ out (Vacuumed 0 None) [] m
      pub sweeps : (h : ℕ) (l d k : List ℕ) → WholeChain m row (h ∷ l) → Dead l d → KeptOf l k → o ≡ swept_to h d k

    abbrev pub VacuumSpec : Outcome z Answer (List ℕ) → Type 0
    VacuumSpec = Meets in_answer m (vacuum_lines m row request room) VacuumAccepted

    walked : NoneOf (vacuum_lines m row request room) → NoneOf (walk_lines m row (horizon m request) room)
    walked n = ((none_append (store_lines m ++ row_line m row ∷ []) (walk_lines m row (horizon m request) room)).0 n).1

    chain_of : (l : List ℕ) → WholeChain m row l → row_chain m row ≡ chained l ends
    chain_of l w = is_chain (size_n m) (version_at m.cells) (size_n m) (head_at m row) l ends (w.way, w.within)

    vacuum_empty : head_at m row ≡ 0 → vacuumed m row request room ≡ out (Vacuumed 0 None) [] m
    unfolding vacuum_now
    vacuum_empty e = rw (chain_of [] (record { way = record { along = e; cells = tt }; within = omega arith }))

    vacuum_sweeps : NoneOf (vacuum_lines m row request room) → (h : ℕ) (l d k : List ℕ) → WholeChain m row (h ∷ l) → Dead l d → KeptOf l k → vacuumed m row request room ≡ swept_to h d k
    unfolding vacuum_now swept guard
    vacuum_sweeps n h l d k w p q =
        let few : ltb room (length d) ≡ false = fails_false (ltb room (length d)) (is_less room (length d)) (λ b. (walked n).1.0 (h, l, d, w, p, b)) in
        rw (
          chain_of (h ∷ l) w,
          picks_keep _ _ (λ c. is_reclaimable (horizon m request) (version_at m.cells c)) l d p,
          picks_keep _ _ (λ c. is_not _ (is_reclaimable (horizon m request) (version_at m.cells c))) l k q,
          few,
        )

    pub vacuum_meets : VacuumSpec (vacuum_out m row request room)
    vacuum_meets = meets in_answer m _ _ _ _ (vacuum_refuses_exactly m row request room) (λ n. record { nothing = vacuum_empty; sweeps = vacuum_sweeps n })

    -- an accepted vacuum has walked a chain that ends
    pub vacuum_walks : NoneOf (vacuum_lines m row request room) → (l : List ℕ) × WholeChain m row l
    vacuum_walks n = on (row_chain m row).cells (row_chain m row).after (chain_is (size_n m) (version_at m.cells) (size_n m) (head_at m row))
      where
        on : (l : List ℕ) (a : After) → ChainIs (size_n m) (version_at m.cells) (size_n m) (head_at m row) l a → (l : List ℕ) × WholeChain m row l
        on l ends i = (l, record { way = i.0; within = i.1 })
        on l goes_on i = absurd ((walked n).0 (inl (l, i.0, i.1, i.2, i.3)))
        on l broken i = absurd ((walked n).0 (inr (l, i.0, i.1, i.2, i.3)))

    pub vacuum_no_second_outcome : (o p : Outcome z Answer (List ℕ)) → VacuumSpec o → VacuumSpec p → o ≡ p
    vacuum_no_second_outcome = second in_answer m _ _ _ _ (vacuum_refuses_exactly m row request room) (λ o n a. on o n a (vacuum_walks n).0 (vacuum_walks n).1)
      where
        on : (o : Outcome z Answer (List ℕ)) → NoneOf (vacuum_lines m row request room) → VacuumAccepted o → (l : List ℕ) → WholeChain m row l → o ≡ vacuumed m row request room
        on o n a [] w = a.nothing w.way.along ∙ sym (vacuum_empty w.way.along)
        on o n a (h ∷ l) w =
            let p = keep_picks _ _ (λ c. is_reclaimable (horizon m request) (version_at m.cells c)) l in
            let q = keep_picks _ _ (λ c. is_not _ (is_reclaimable (horizon m request) (version_at m.cells c))) l in
            a.sweeps h l _ _ w p q ∙ sym (vacuum_sweeps n h l _ _ w p q)

  -- ---- lookup: each row read in its turn, the records of the rows before it standing already
  module _ (s key room : ℕ) where
    abbrev pub RowReads : ℕ → List Rec → ℕ → List Rec → Type 0
    RowReads r recs = Reads z (size_n m) (version_at m.cells) (head_at m r) (slot_at m s) ((slot_at m s).recs ++ recs) r

    -- reading the rows of l one after the other, from `recs` and `rows` on, comes to these records and these rows listed
    abbrev pub Lists : List Rec → List ℕ → List ℕ → List Rec → List ℕ → Type 0
    Lists recs rows [] recs' rows' = (recs' ≡ recs) × (rows' ≡ rows)
    Lists recs rows (r ∷ l) recs' rows' =
        (c : ℕ) × (new : List Rec) × RowReads r recs c new
        × ((HoldsKey (version_at m.cells) c key × Lists (recs ++ new) (rows ++ (r ∷ [])) l recs' rows') ⊎ ((HoldsKey (version_at m.cells) c key → ⊥) × Lists (recs ++ new) rows l recs' rows'))

    abbrev pub lines_of : List Rec → List ℕ → List ℕ → List Line
    lines_of = find_lines m (slot_at m s) key room

    abbrev pub sight_at : ℕ → List Rec → Sight
    sight_at r recs = read_at m (slot_at m s) ((slot_at m s).recs ++ recs) r

    -- the lines of the rows after r
    abbrev pub rest_lines : ℕ → List Rec → List ℕ → List ℕ → Sight → List Line
    rest_lines r recs rows l g = lines_of (recs_after m (slot_at m s) key room recs g) (rows_after m (slot_at m s) key room r rows g) l

    abbrev fold_of : List ℕ → Found → Found
    fold_of l g = fold (find_row m (slot_at m s) key room) l g

    lists_is : (l : List ℕ) (recs : List Rec) (rows : List ℕ) (recs' : List Rec) (rows' : List ℕ) → NoneOf (lines_of recs rows l) → Lists recs rows l recs' rows' → fold_of l (got recs rows) ≡ got recs' rows'
    unfolding fold find_row list_row
    lists_is [] recs rows recs' rows' n e = rw (e.0, e.1)
    lists_is (r ∷ l) recs rows recs' rows' n e =
        let p = (none_append (sight_lines_of m (slot_at m s) key room r recs) (full_line m (slot_at m s) key room r recs rows ∷ rest_lines r recs rows l (sight_at r recs))).0 n in
        let g : sight_at r recs ≡ sees e.0 e.1 = reads_is z (size_n m) (version_at m.cells) (head_at m r) (slot_at m s) ((slot_at m s).recs ++ recs) r e.0 e.1 e.2 p.0 in
        let q = subst (λ (y : Sight). NoneOf (rest_lines r recs rows l y)) g p.1.1 in
        ⊎_elim
        (λ h.
        let b : is_key key (answer_at (version_at m.cells) e.0) ≡ true = holds_true _ (is_key_lem (version_at m.cells) e.0 key) h.0 in
        let f : leb room (length rows) ≡ false = fails_false _ (is_most room (length rows)) (λ y. p.1.0 ((e.0, e.1, e.2, h.0), y)) in
        rw (g, b, f) (lists_is l (recs ++ e.1) (rows ++ (r ∷ [])) recs' rows' (rw b at q) h.1))
        (λ h.
        let b : is_key key (answer_at (version_at m.cells) e.0) ≡ false = fails_false _ (is_key_lem (version_at m.cells) e.0 key) h.0 in
        rw (g, b) (lists_is l (recs ++ e.1) rows recs' rows' (rw b at q) h.1))
        e.3

    -- where no line applies there is something to come to
    pub listed : (l : List ℕ) (recs : List Rec) (rows : List ℕ) → NoneOf (lines_of recs rows l) → (recs' : List Rec) × (rows' : List ℕ) × Lists recs rows l recs' rows'
    listed [] recs rows n = (recs, rows, (refl, refl))
    listed (r ∷ l) recs rows n = on (sight_at r recs) (sight_is z (size_n m) (version_at m.cells) (head_at m r) (slot_at m s) ((slot_at m s).recs ++ recs) r) p.0 p.1.1 (listed l)
      where
        p : NoneOf (sight_lines_of m (slot_at m s) key room r recs) × NoneOf (full_line m (slot_at m s) key room r recs rows ∷ rest_lines r recs rows l (sight_at r recs))
        p = (none_append (sight_lines_of m (slot_at m s) key room r recs) (full_line m (slot_at m s) key room r recs rows ∷ rest_lines r recs rows l (sight_at r recs))).0 n

        on : (g : Sight) → SightIs z (size_n m) (version_at m.cells) (head_at m r) (slot_at m s) ((slot_at m s).recs ++ recs) r g → NoneOf (sight_lines_of m (slot_at m s) key room r recs) → NoneOf (rest_lines r recs rows l g)
            → ((recs : List Rec) (rows : List ℕ) → NoneOf (lines_of recs rows l) → (recs' : List Rec) × (rows' : List ℕ) × Lists recs rows l recs' rows')
            → (recs' : List Rec) × (rows' : List ℕ) × Lists recs rows (r ∷ l) recs' rows'
        on (blocked k x) i a b next = absurd (none_refuses (sight_lines_of m (slot_at m s) key room r recs) k x a i)
        on (sees c new) i a b next =
            by_bool (is_key key (answer_at (version_at m.cells) c))
            (λ d. let q = next (recs ++ new) (rows ++ (r ∷ [])) (rw d at b) in (q.0, q.1, (c, new, i.1, inl ((is_key_lem (version_at m.cells) c key).yes d, q.2))))
            (λ d. let q = next (recs ++ new) rows (rw d at b) in (q.0, q.1, (c, new, i.1, inr ((is_key_lem (version_at m.cells) c key).no d, q.2))))

    -- what an accepted lookup over these rows leaves: the records added, the rows in the front of the buffer, their number as the answer
    abbrev pub LookupAccepted : List ℕ → Outcome z Answer ℕ → Type 0
    LookupAccepted l o = (recs : List Rec) (rows : List ℕ) → Lists [] [] l recs rows → o ≡ out (Listed (length rows)) rows (with_slot m s (add_recs z recs (words_at m s)))

    end_is : (l : List ℕ) → NoneOf (lines_of [] [] l) → LookupAccepted l (lookup_end m s [] (find m (slot_at m s) key room l))
    unfolding lookup_end guard
    end_is l n recs rows e = rw (lists_is l [] [] recs rows n e)

    end_one : (l : List ℕ) → NoneOf (lines_of [] [] l) → (o : Outcome z Answer ℕ) → LookupAccepted l o → o ≡ lookup_end m s [] (find m (slot_at m s) key room l)
    end_one l n o a =
        let q = listed l [] [] n in
        a q.0 q.1 q.2 ∙ sym (end_is l n q.0 q.1 q.2)

  module _ (s id key : ℕ) (cands : List ℕ) (room : ℕ) where
    abbrev rows_of : List ℕ
    rows_of = rows_to_read m (slot_at m s).writes cands

    abbrev pub LookupSpec : Outcome z Answer ℕ → Type 0
    LookupSpec = Meets in_answer m (lookup_lines m s id key cands room) (LookupAccepted s key room rows_of)

    pub of_rows : NoneOf (lookup_lines m s id key cands room) → NoneOf (lines_of s key room [] [] rows_of)
    of_rows n =
        let late = each_of (own_row_lines m) (own_rows (slot_at m s).writes) in
        ((none_append (lines_of s key room [] [] rows_of) late).0 ((none_append (slot_lines m s id ++ each_of (candidate_lines m) cands) (lines_of s key room [] [] rows_of ++ late)).0 n).1).0

    pub lookup_meets : LookupSpec (lookup_out m s id key cands room)
    lookup_meets = meets in_answer m _ _ _ _ (lookup_refuses_exactly m s id key cands room) (λ n. end_is s key room rows_of (of_rows n))

    pub lookup_no_second_outcome : (o p : Outcome z Answer ℕ) → LookupSpec o → LookupSpec p → o ≡ p
    lookup_no_second_outcome = second in_answer m _ _ _ _ (lookup_refuses_exactly m s id key cands room) (λ o n a. end_one s key room rows_of (of_rows n) o a)

  module _ (s id key room : ℕ) where
    abbrev pub LookupAllSpec : Outcome z Answer ℕ → Type 0
    LookupAllSpec = Meets in_answer m (lookup_all_lines m s id key room) (LookupAccepted s key room (from 0 (size_r m)))

    pub of_all_rows : NoneOf (lookup_all_lines m s id key room) → NoneOf (lines_of s key room [] [] (from 0 (size_r m)))
    of_all_rows n = ((none_append (lines_of s key room [] [] (from 0 (size_r m))) []).0 ((none_append (slot_lines m s id) (lines_of s key room [] [] (from 0 (size_r m)) ++ [])).0 n).1).0

    pub lookup_all_meets : LookupAllSpec (lookup_all_out m s id key room)
    lookup_all_meets = meets in_answer m _ _ _ _ (lookup_all_refuses_exactly m s id key room) (λ n. end_is s key room (from 0 (size_r m)) (of_all_rows n))

    pub lookup_all_no_second_outcome : (o p : Outcome z Answer ℕ) → LookupAllSpec o → LookupAllSpec p → o ≡ p
    lookup_all_no_second_outcome = second in_answer m _ _ _ _ (lookup_all_refuses_exactly m s id key room) (λ o n a. end_one s key room (from 0 (size_r m)) (of_all_rows n) o a)
