-- A read refuses exactly when the paper says. "a read tests 10 before following each pointer, then 13".
use Rattle.std.specs.Prelude.{ℕ, ◌≤◌, List, [], ◌∷◌, ◌++◌, ◌≡◌, ◌≢◌, length, eqb, leb}
use Rattle.std.proofs.Math.Option.{Option, none, some}
use Rattle.std.proofs.Math.Path.{refl, subst}
use Rattle.std.proofs.Common.{sym, ap, ◌∙◌, arith}
use Rattle.std.proofs.Math.Logic.{inl, inr}
use Rattle.kinds.specs.declared.Version.{Version}
use Rattle.kinds.specs.ReadAnswer.{ReadAnswer, None, Empty, Key}
use Rattle.words.specs.Sizes.{Sizes}
use Rattle.rules.specs.Numbers.{chain_too_long, read_set_full, damaged}
use Rattle.words.specs.Lists.{nonzero}
use Rattle.rules.proofs.Theory.Cases.{by_bool}
use Rattle.kinds.specs.Versions.{version_at}
use Rattle.words.specs.Slots.{Write, Rec, rec, Slot}
use Rattle.rules.specs.Memory.{Mem, size_n, head_at, slot_at}
use Rattle.rules.specs.Chain.{Look, found, nothing, too_long, harmed, look}
use Rattle.rules.specs.Outcome.{slot_tests, row_test, is_cell}
use Rattle.rules.specs.Read.{own, answer_at, Sight, blocked, sees, recorded, sight_of, own_sight, read_row, read_at, read_end, read_out}
use Rattle.rules.specs.Exactly.{Line, line, Refuses, NoneOf, Exactly}
use Rattle.rules.proofs.Exactly.{in_read, is_most, holds_true, fails_false, exactly_guarded, exactly_blocked, exactly_accepted}
use Rattle.rules.specs.Terms.{CellOf, LastEntry, NoEntry, OwnIs, Recorded}
use Rattle.rules.proofs.Terms.{is_cell_lem, own_is, is_own, is_recorded}
use Rattle.rules.proofs.Along.{FirstSeen, NoneSeen, TooLong, Harmed, LookIs, look_is, is_look}
use Rattle.rules.proofs.SharedLines.{row_lines, row_says}
use Rattle.rules.specs.ReadRefuses.{look_number}

apart : (a b : Look) → look_number a ≢ look_number b → a ≡ b → ⊥
apart a b n e = n (ap look_number e)

same_cell : (c d : ℕ) → found c ≡ found d → c ≡ d
same_cell c d e = cc

-- what a cell answers is no refusal
pub plain : (f : ℕ → Version) (c k x : ℕ) → answer_at f c ≡ ReadAnswer.Refused k x → ⊥
unfolding answer_at
plain f c k x e = by_bool (eqb c 0)
    (λ a. let h : None ≡ ReadAnswer.Refused k x = rw a at e in let q : ◌≡◌ {A = ℕ} 0 1 = cc in omega arith)
    (λ a. by_bool (nonzero (f c).keyed)
    (λ b. let h : Key (f c).key ≡ ReadAnswer.Refused k x = rw (a, b) at e in let q : ◌≡◌ {A = ℕ} 0 1 = cc in omega arith)
    (λ b. let h : Empty ≡ ReadAnswer.Refused k x = rw (a, b) at e in let q : ◌≡◌ {A = ℕ} 0 1 = cc in omega arith))

-- the sizes; the versions and the head of the row; the reader, and the records that stand already
module _ (z : Sizes) (n : ℕ) (f : ℕ → Version) (head : ℕ) (t : Slot) (recs : List Rec) (row : ℕ) where
  -- what one row's read refuses with
  abbrev pub sight_lines : List Line
  sight_lines =
      -- 15: "cell 0 as the new cell of an entry", or above N, for the "own write of the row if any"
      line ((w : Write) × LastEntry t.writes row w × (CellOf n w.new → ⊥)) damaged 0
      -- 10: "a read would look at a 65th version"
      ∷ line (NoEntry t.writes row × TooLong n f t z.walk head) chain_too_long row
      -- 15: "a cell or link above N"
      ∷ line (NoEntry t.writes row × Harmed n f t z.walk head) damaged 0
      -- 13: "129th record": "a version found is recorded unless its cell is recorded already"
      ∷ line (NoEntry t.writes row × ((c : ℕ) × FirstSeen n f t z.walk head c × (Recorded c recs → ⊥) × (z.reads ≤ length recs))) read_set_full row
      ∷ []

  -- what an accepted read of the row finds (cell 0: no version), and the records it adds
  pub data Reads : ℕ → List Rec → Type 0 where
    -- "own write of the row if any, unrecorded"
    own_write : (w : Write) → LastEntry t.writes row w → Reads w.new []
    -- "A read that finds none records nothing"
    no_version : NoEntry t.writes row → NoneSeen n f t z.walk head → Reads 0 []
    -- "else the first visible version from the head", "recorded unless its cell is recorded already"
    again : (c : ℕ) → NoEntry t.writes row → FirstSeen n f t z.walk head c → Recorded c recs → Reads c []
    newly : (c : ℕ) → NoEntry t.writes row → FirstSeen n f t z.walk head c → (Recorded c recs → ⊥) → Reads c (rec row c (f c).xmin.0 ∷ [])

  abbrev pub SightIs : Sight → Type 0
  SightIs (blocked k x) = Refuses sight_lines k x
  SightIs (sees c l) = NoneOf sight_lines × Reads c l

  -- two things that the own write or the look cannot both be
  own_differs : (o : Option Write) (p : Option Write) → own t.writes row ≡ o → OwnIs t.writes row p → o ≡ p
  own_differs o p e i = sym e ∙ is_own t.writes row p i

  look_differs : (a b : Look) → look n t f z.walk head ≡ a → LookIs n f t z.walk head b → a ≡ b
  look_differs a b e i = sym e ∙ is_look n f t z.walk head b i

  none_or_some : (w : Write) → own t.writes row ≡ some w → NoEntry t.writes row → ⊥
  none_or_some w e i =
      let g : some w ≡ none = own_differs (some w) none e i in
      let q : ◌≡◌ {A = ℕ} 0 1 = cc in
      omega arith

  some_or_none : (w : Write) → own t.writes row ≡ none → LastEntry t.writes row w → ⊥
  some_or_none w e i =
      let g : none ≡ some w = own_differs none (some w) e i in
      let q : ◌≡◌ {A = ℕ} 0 1 = cc in
      omega arith

  -- where the row has no own write the look decides
  look_sight_is : own t.writes row ≡ none → NoEntry t.writes row → (a : Look) → look n t f z.walk head ≡ a → SightIs (sight_of z n f head t recs row a)
  unfolding sight_of
  look_sight_is e i nothing g =
      let v : NoneSeen n f t z.walk head = subst (LookIs n f t z.walk head) g (look_is n f t z.walk head) in (
        (
          λ q. some_or_none q.0 e q.1,
          (
            λ q. apart nothing too_long (λ e. omega arith) (look_differs nothing too_long g q.1),
            (
              λ q. apart nothing harmed (λ e. omega arith) (look_differs nothing harmed g q.1),
              (λ q. apart nothing (found q.1.0) (λ e. omega arith) (look_differs nothing (found q.1.0) g q.1.1), tt),
            ),
          ),
        ),
        no_version i v,
      )
  look_sight_is e i too_long g =
      let v : TooLong n f t z.walk head = subst (LookIs n f t z.walk head) g (look_is n f t z.walk head) in
      inr (λ q. some_or_none q.0 e q.1, inl ((i, v), refl, refl))
  look_sight_is e i harmed g =
      let v : Harmed n f t z.walk head = subst (LookIs n f t z.walk head) g (look_is n f t z.walk head) in
      inr (
        λ q. some_or_none q.0 e q.1,
        inr (λ q. apart harmed too_long (λ e. omega arith) (look_differs harmed too_long g q.1), inl ((i, v), refl, refl)),
      )
  look_sight_is e i (found c) g =
      let v : FirstSeen n f t z.walk head c = subst (LookIs n f t z.walk head) g (look_is n f t z.walk head) in
      let far : NoEntry t.writes row × TooLong n f t z.walk head → ⊥ = λ q. apart (found c) too_long (λ e. omega arith) (look_differs (found c) too_long g q.1) in
      let ill : NoEntry t.writes row × Harmed n f t z.walk head → ⊥ = λ q. apart (found c) harmed (λ e. omega arith) (look_differs (found c) harmed g q.1) in
      by_bool (recorded c recs)
      (λ b. rw b (
        (
          λ q. some_or_none q.0 e q.1,
          (
            far,
            (
              ill,
              (λ q. q.1.2 (subst (λ (d : ℕ). Recorded d recs) (same_cell c q.1.0 (look_differs (found c) (found q.1.0) g q.1.1)) ((is_recorded c recs).yes b)), tt),
            ),
          ),
        ),
        again c i v ((is_recorded c recs).yes b),
      ))
      (λ b. by_bool (leb z.reads (length recs))
      (λ d. rw (b, d) (inr (λ q. some_or_none q.0 e q.1, inr (far, inr (ill, inl ((i, (c, v, (is_recorded c recs).no b, (is_most z.reads (length recs)).yes d)), refl, refl))))))
      (λ d. rw (b, d) (
        (λ q. some_or_none q.0 e q.1, (far, (ill, (λ q. (is_most z.reads (length recs)).no d q.1.3, tt)))),
        newly c i v ((is_recorded c recs).no b),
      )))

  own_sight_is : (o : Option Write) → own t.writes row ≡ o → SightIs (own_sight z n f head t recs row o)
  unfolding own_sight sight_of
  own_sight_is (some w) e =
      let i : LastEntry t.writes row w = subst (OwnIs t.writes row) e (own_is t.writes row) in
      by_bool (is_cell n w.new)
      (λ b. rw b (
        (
          λ q.
              let g : some w ≡ some q.0 = own_differs (some w) (some q.0) e q.1 in
              let h : w ≡ q.0 = cc in
              q.2 (subst (λ (y : Write). CellOf n y.new) h ((is_cell_lem n w.new).yes b)),
          (λ q. none_or_some w e q.0, (λ q. none_or_some w e q.0, (λ q. none_or_some w e q.0, tt))),
        ),
        own_write w i,
      ))
      (λ b. rw b (inl ((w, i, (is_cell_lem n w.new).no b), refl, refl)))
  own_sight_is none e =
      let i : NoEntry t.writes row = subst (OwnIs t.writes row) e (own_is t.writes row) in
      look_sight_is e i (look n t f z.walk head) refl

  pub sight_is : SightIs (read_row z n f head t recs row)
  unfolding read_row
  sight_is = own_sight_is (own t.writes row) refl

  -- where no line applies, what is said to be read is what is read
  pub reads_is : (c : ℕ) (l : List Rec) → Reads c l → NoneOf sight_lines → read_row z n f head t recs row ≡ sees c l
  unfolding read_row own_sight sight_of
  reads_is c l (own_write w i) u = rw (is_own t.writes row (some w) i) (by_bool (is_cell n w.new) (λ b. rw b) (λ b. absurd (u.0 (w, i, (is_cell_lem n w.new).no b))))
  reads_is c l (no_version i v) u = rw (is_own t.writes row none i, is_look n f t z.walk head nothing v)
  reads_is c l (again d i v r) u = rw (is_own t.writes row none i, is_look n f t z.walk head (found d) v, holds_true (recorded d recs) (is_recorded d recs) r)
  reads_is c l (newly d i v r) u =
      rw (is_own t.writes row none i, is_look n f t z.walk head (found d) v, fails_false (recorded d recs) (is_recorded d recs) r)
      (by_bool (leb z.reads (length recs)) (λ b. absurd (u.1.1.1.0 (i, (d, v, r, (is_most z.reads (length recs)).yes b)))) (λ b. rw b))

module _ {z : Sizes} (m : Mem z) (s id row : ℕ) where
  abbrev pub sight_lines_at : List Line
  sight_lines_at = sight_lines z (size_n m) (version_at m.cells) (head_at m row) (slot_at m s) (slot_at m s).recs row

  -- the read's table
  abbrev pub read_lines : List Line
  read_lines = row_lines m s id row ++ sight_lines_at

  end_exactly : (g : Sight) → SightIs z (size_n m) (version_at m.cells) (head_at m row) (slot_at m s) (slot_at m s).recs row g → Exactly in_read m (read_end m s g) (read_end m s g) sight_lines_at
  unfolding read_end
  end_exactly (blocked k x) i = exactly_blocked in_read m k x sight_lines_at _ i
  end_exactly (sees c l) i = exactly_accepted in_read m _ sight_lines_at (λ k x e. plain (version_at m.cells) c k x e) i.0

  pub read_refuses_exactly : Exactly in_read m (read_out m s id row) (read_end m s (read_at m (slot_at m s) (slot_at m s).recs row)) read_lines
  unfolding read_out
  read_refuses_exactly = exactly_guarded in_read m (slot_tests m s id ++ row_test m row ∷ []) (row_lines m s id row) sight_lines_at _ _ (row_says m s id row) (end_exactly _ (sight_is z (size_n m) (version_at m.cells) (head_at m row) (slot_at m s) (slot_at m s).recs row))
