-- A lookup refuses exactly when the paper says: "lookup stops at the first trouble in row order, 14 last within a row".
use Rattle.std.specs.Prelude.{ℕ, ◌≤◌, ◌<◌, true, false, cond, ◌≡◌, length, leb}
use mathlib.Core.List.{List, [], ◌∷◌, ◌++◌}
use Rattle.std.proofs.Math.Path.{refl, sym, subst}
use Rattle.std.proofs.Common.{◌∙◌, inr, arith, eq-eqb, ne_eqb}
use Rattle.std.proofs.Math.Logic.{inl}
use Rattle.kinds.specs.declared.Version.{Version}
use Rattle.words.specs.Sizes.{Sizes}
use Rattle.rules.specs.Numbers.{result_full, damaged}
use Rattle.words.specs.Lists.{fold, from}
use Rattle.rules.proofs.Theory.Cases.{by_bool, by_eq, no_both}
use Rattle.kinds.specs.Versions.{version_at}
use Rattle.words.specs.Slots.{Rec, Slot}
use Rattle.rules.specs.Memory.{Mem, size_r, size_n, head_at, slot_at}
use Rattle.rules.specs.Outcome.{Test, guard, each, slot_tests}
use Rattle.rules.specs.Read.{answer_at, Sight, blocked, sees, read_at}
use Rattle.rules.specs.Lookup.{Found, stopped, got, is_key, own_rows, list_row, find_row, find, lookup_end, candidate_tests, own_row_tests, rows_to_read, lookup_out, lookup_all_out}
use Rattle.rules.specs.Exactly.{Line, line, each_of, Lacks, NoneOf, Refuses, Says, Reflects, Exactly}
use Rattle.rules.proofs.Exactly.{in_answer, is_most, says_append, says_each, exactly_tested, exactly_guarded, exactly_blocked, exactly_past, refuses_append, none_append}
use Rattle.rules.proofs.SharedLines.{slot_lines, slot_says, row_line}
use Rattle.rules.proofs.ReadRefuses.{sight_lines, Reads, SightIs, sight_is, reads_is}
use Rattle.rules.specs.LookupRefuses.{HoldsKey}

pub is_key_lem : (f : ℕ → Version) (c key : ℕ) → Reflects (is_key key (answer_at f c)) (HoldsKey f c key)
unfolding is_key answer_at
is_key_lem f c key = by_eq c 0
    (λ e. rw (eq-eqb c 0 e) (record { yes = λ b. absurd (no_both false b refl); no = λ b q. q.version e }))
    (λ n. rw (ne_eqb c 0 n)
    (by_eq (f c).keyed 0
    (λ e. rw (eq-eqb (f c).keyed 0 e) (record { yes = λ b. absurd (no_both false b refl); no = λ b q. q.keyed e }))
    (λ k. rw (ne_eqb (f c).keyed 0 k)
    (by_eq key (f c).key
    (λ e. rw (eq-eqb key (f c).key e) (record { yes = λ b. record { version = n; keyed = k; same = e }; no = λ b. absurd (no_both true refl b) }))
    (λ e. rw (ne_eqb key (f c).key e) (record { yes = λ b. absurd (no_both false b refl); no = λ b q. e q.same }))))))

module _ {z : Sizes} (m : Mem z) (t : Slot) (key room : ℕ) where
  abbrev versions : ℕ → Version
  versions = version_at m.cells

  -- what a row's read adds to the records and to the rows listed, where it is not refused
  abbrev pub recs_after : List Rec → Sight → List Rec
  recs_after recs (blocked k x) = recs
  recs_after recs (sees c new) = recs ++ new

  abbrev pub rows_after : ℕ → List ℕ → Sight → List ℕ
  rows_after r rows (blocked k x) = rows
  rows_after r rows (sees c new) = cond (is_key key (answer_at versions c)) (rows ++ (r ∷ [])) rows

  -- the lines of a row's read, the records of the rows before it standing already
  abbrev pub sight_lines_of : ℕ → List Rec → List Line
  sight_lines_of r recs = sight_lines z (size_n m) versions (head_at m r) t (t.recs ++ recs) r

  -- the row has the key
  abbrev pub RowHolds : ℕ → List Rec → Type 0
  RowHolds r recs = (c : ℕ) × (new : List Rec) × Reads z (size_n m) versions (head_at m r) t (t.recs ++ recs) r c new × HoldsKey versions c key

  -- 14: "list longer than its buffer", "last within a row"
  abbrev pub full_line : ℕ → List Rec → List ℕ → Line
  full_line r recs rows = line (RowHolds r recs × (room ≤ length rows)) result_full 0

  -- the lines of these rows, in order; `recs` and `rows` are what the rows before have added
  abbrev pub find_lines : List Rec → List ℕ → List ℕ → List Line
  find_lines recs rows [] = []
  find_lines recs rows (r ∷ l) =
      sight_lines_of r recs
      ++ full_line r recs rows
      ∷ find_lines (recs_after recs (read_at m t (t.recs ++ recs) r)) (rows_after r rows (read_at m t (t.recs ++ recs) r)) l

  -- a row's trouble is 10 or more
  pub find_lacks : (k : ℕ) → k < 10 → (l : List ℕ) (recs : List Rec) (rows : List ℕ) → Lacks k (find_lines recs rows l)
  find_lacks k b [] recs rows = tt
  find_lacks k b (r ∷ l) recs rows = (λ e. omega (arith, e), (λ e. omega (arith, e), (λ e. omega (arith, e), (λ e. omega (arith, e), (λ e. omega (arith, e), find_lacks k b l _ _)))))

  fold_stopped : (l : List ℕ) (k x : ℕ) → fold (find_row m t key room) l (stopped k x) ≡ stopped k x
  unfolding fold find_row
  fold_stopped [] k x = refl
  fold_stopped (r ∷ l) k x = fold_stopped l k x

  module _ (s : ℕ) (late : List Test) (lateLines : List Line) (say : Says late lateLines) where
    -- the rest of the rows, from what has been found so far
    abbrev Rest : List ℕ → List Line → Found → Type 0
    Rest l lines g = Exactly in_answer m (lookup_end m s late (fold (find_row m t key room) l g)) (lookup_end m s [] (fold (find_row m t key room) l g)) (lines ++ lateLines)

    rest_stopped : (l : List ℕ) (lines : List Line) (k x : ℕ) → Refuses lines k x → Rest l lines (stopped k x)
    unfolding lookup_end
    rest_stopped l lines k x r = rw (fold_stopped l k x) (exactly_blocked in_answer m k x (lines ++ lateLines) _ ((refuses_append k x lines lateLines).1 (inl r)))

    row_exactly : (r : ℕ) (recs : List Rec) (rows l : List ℕ) (g : Sight) → read_at m t (t.recs ++ recs) r ≡ g → ((recs' : List Rec) (rows' : List ℕ) → Rest l (find_lines recs' rows' l) (got recs' rows')) → Rest l (sight_lines_of r recs ++ full_line r recs rows ∷ find_lines (recs_after recs g) (rows_after r rows g) l) (list_row m t key room r recs rows g)
    unfolding list_row
    row_exactly r recs rows l (blocked k x) e next =
        let i : Refuses (sight_lines_of r recs) k x = subst (SightIs z (size_n m) versions (head_at m r) t (t.recs ++ recs) r) e (sight_is z (size_n m) versions (head_at m r) t (t.recs ++ recs) r) in
        rest_stopped l (sight_lines_of r recs ++ full_line r recs rows ∷ find_lines recs rows l) k x ((refuses_append k x (sight_lines_of r recs) (full_line r recs rows ∷ find_lines recs rows l)).1 (inl i))
    row_exactly r recs rows l (sees c new) e next =
        let i : NoneOf (sight_lines_of r recs) × Reads z (size_n m) versions (head_at m r) t (t.recs ++ recs) r c new = subst (SightIs z (size_n m) versions (head_at m r) t (t.recs ++ recs) r) e (sight_is z (size_n m) versions (head_at m r) t (t.recs ++ recs) r) in
        by_bool (is_key key (answer_at versions c))
        (λ b. by_bool (leb room (length rows))
        (λ d. rw (b, d)
        (rest_stopped l (sight_lines_of r recs ++ full_line r recs rows ∷ find_lines (recs ++ new) (rows ++ (r ∷ [])) l) result_full 0
        ((refuses_append result_full 0 (sight_lines_of r recs) (full_line r recs rows ∷ find_lines (recs ++ new) (rows ++ (r ∷ [])) l)).1
        (inr (i.0, inl (((c, new, i.1, (is_key_lem versions c key).yes b), (is_most room (length rows)).yes d), refl, refl))))))
        (λ d. rw (b, d)
        (exactly_past in_answer m (sight_lines_of r recs ++ full_line r recs rows ∷ []) _ _ _
        ((none_append (sight_lines_of r recs) (full_line r recs rows ∷ [])).1 (i.0, (λ q. (is_most room (length rows)).no d q.1, tt)))
        (next (recs ++ new) (rows ++ (r ∷ []))))))
        (λ b. rw b
        (exactly_past in_answer m (sight_lines_of r recs ++ full_line r recs rows ∷ []) _ _ _
        ((none_append (sight_lines_of r recs) (full_line r recs rows ∷ [])).1 (
          i.0,
          (
            λ q.
                let g : sees q.0.0 q.0.1 ≡ sees c new = sym (reads_is z (size_n m) versions (head_at m r) t (t.recs ++ recs) r q.0.0 q.0.1 q.0.2 i.0) ∙ e in
                let h : q.0.0 ≡ c = cc in
                (is_key_lem versions c key).no b (subst (λ (y : ℕ). HoldsKey versions y key) h q.0.3),
            tt,
          ),
        ))
        (next (recs ++ new) rows)))

    pub find_exactly : (l : List ℕ) (recs : List Rec) (rows : List ℕ) → Rest l (find_lines recs rows l) (got recs rows)
    unfolding fold find_row lookup_end guard
    find_exactly [] recs rows = exactly_tested m late lateLines _ refl say
    find_exactly (r ∷ l) recs rows = row_exactly r recs rows l (read_at m t (t.recs ++ recs) r) refl (find_exactly l)

module _ {z : Sizes} (m : Mem z) where
  -- 6: "row or candidate at R or above", the "first such"
  abbrev pub candidate_lines : ℕ → List Line
  candidate_lines r = row_line m r ∷ []

  candidate_says : (r : ℕ) → Says (candidate_tests m r) (candidate_lines r)
  candidate_says r = (is_most (size_r m) r, refl, refl, tt)

  abbrev pub own_row_lines : ℕ → List Line
  own_row_lines r =
      -- 15: "a saved row at R or above": it would be read after all rows below R
      line (size_r m ≤ r) damaged 0
      ∷ []

  own_row_says : (r : ℕ) → Says (own_row_tests m r) (own_row_lines r)
  own_row_says r = (is_most (size_r m) r, refl, refl, tt)

  -- "candidates (any order, repeats allowed) and own written rows are read in ascending order, each once"
  abbrev pub lookup_lines : ℕ → ℕ → ℕ → List ℕ → ℕ → List Line
  lookup_lines s id key cands room =
      slot_lines m s id
      ++ each_of candidate_lines cands
      ++ (find_lines m (slot_at m s) key room [] [] (rows_to_read m (slot_at m s).writes cands) ++ each_of own_row_lines (own_rows (slot_at m s).writes))

  pub lookup_refuses_exactly : (s id key : ℕ) (cands : List ℕ) (room : ℕ) →
      Exactly in_answer m (lookup_out m s id key cands room) (lookup_end m s [] (find m (slot_at m s) key room (rows_to_read m (slot_at m s).writes cands))) (lookup_lines s id key cands room)
  unfolding lookup_out
  lookup_refuses_exactly s id key cands room =
      exactly_guarded in_answer m (slot_tests m s id ++ each (candidate_tests m) cands) (slot_lines m s id ++ each_of candidate_lines cands) _ _ _
      (says_append (slot_tests m s id) (each (candidate_tests m) cands) (slot_lines m s id) (each_of candidate_lines cands) (slot_says m s id) (says_each (candidate_tests m) candidate_lines candidate_says cands))
      (find_exactly m (slot_at m s) key room s (each (own_row_tests m) (own_rows (slot_at m s).writes)) (each_of own_row_lines (own_rows (slot_at m s).writes))
      (says_each (own_row_tests m) own_row_lines own_row_says (own_rows (slot_at m s).writes)) (rows_to_read m (slot_at m s).writes cands) [] [])

  -- "A second call serves all rows"
  abbrev pub lookup_all_lines : ℕ → ℕ → ℕ → ℕ → List Line
  lookup_all_lines s id key room = slot_lines m s id ++ (find_lines m (slot_at m s) key room [] [] (from 0 (size_r m)) ++ [])

  pub lookup_all_refuses_exactly : (s id key room : ℕ) →
      Exactly in_answer m (lookup_all_out m s id key room) (lookup_end m s [] (find m (slot_at m s) key room (from 0 (size_r m)))) (lookup_all_lines s id key room)
  unfolding lookup_all_out
  lookup_all_refuses_exactly s id key room = exactly_guarded in_answer m (slot_tests m s id) (slot_lines m s id) _ _ _ (slot_says m s id) (find_exactly m (slot_at m s) key room s [] [] tt (from 0 (size_r m)) [] [])
