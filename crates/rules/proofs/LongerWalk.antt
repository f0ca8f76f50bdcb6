-- "Walk limit 64: a 65th version is never looked at": of two limits, the longer changes no answer that the shorter gave. Only a refusal
-- 10 of the shorter may turn into something else.
use Rattle.std.specs.Prelude.{ℕ, ◌≤◌, ◌≢◌, ◌⊎◌}
use mathlib.Core.List.{List, [], ◌∷◌, ◌++◌}
use Rattle.std.proofs.Math.Option.{Option, none, some}
use Rattle.std.proofs.Math.Path.{◌≡◌, refl, sym}
use Rattle.std.proofs.Common.{◌∙◌}
use Rattle.std.proofs.Math.Logic.{inl, inr}
use native.Mathlib.Omega.{arith}
use Rattle.kinds.specs.declared.Version.{Version}
use Rattle.kinds.specs.ReadAnswer.{ReadAnswer}
use Rattle.words.specs.Sizes.{Sizes}
use Rattle.rules.specs.Numbers.{chain_too_long, read_set_full, damaged}
use Rattle.rules.proofs.Theory.Cases.{by_bool}
use Rattle.kinds.specs.Versions.{version_at}
use Rattle.words.specs.Slots.{Write, Rec, Slot, slot_of}
use Rattle.rules.specs.Memory.{Mem, size_n, head_at, slot_at}
use Rattle.rules.specs.Chain.{Look, found, nothing, too_long, harmed, look}
use Rattle.rules.specs.Outcome.{Outcome, Test, guard, refuse_read, fits, store_tests, slot_tests, row_test}
use Rattle.rules.specs.Read.{own, answer_at, Sight, blocked, sees, sight_of, own_sight, read_row, read_end, read_out}
use Rattle.rules.proofs.Along.{LookIs, look_is, is_look}
use Rattle.rules.proofs.ReadRefuses.{SightIs, sight_is}
use Rattle.rules.specs.LongerWalk.{walking, lent, Same}

module _ (n : ℕ) (t : Slot) (f : ℕ → Version) (h k l : ℕ) (longer : k ≤ l) where
  longer_is : (a : Look) → a ≢ too_long → LookIs n f t k h a → LookIs n f t l h a
  longer_is (found c) e i = record { passed = i.passed; way = i.way; within = omega (arith, i.within); unseen = i.unseen; cell = i.cell; seen = i.seen }
  longer_is nothing e i = record { passed = i.passed; way = i.way; within = omega (arith, i.within); unseen = i.unseen }
  longer_is too_long e i = absurd (e refl)
  longer_is harmed e i = record { passed = i.passed; further = i.further; way = i.way; within = omega (arith, i.within); above = i.above; unseen = i.unseen }

  -- what the shorter walk found, the end of the chain and damage too, the longer finds
  pub longer_look : look n t f k h ≢ too_long → look n t f l h ≡ look n t f k h
  longer_look e = is_look n f t l h (look n t f k h) (longer_is (look n t f k h) e (look_is n f t k h))

module _ (z : Sizes) (n : ℕ) (f : ℕ → Version) (head : ℕ) (t : Slot) (recs : List Rec) (row k l : ℕ) (longer : k ≤ l) where
  -- the row read under each limit
  abbrev under : ℕ → Sight
  under j = read_row (walking z j) n f head t recs row

  alike : (a : Look) → look n t f k head ≡ a → (sight_of (walking z l) n f head t recs row (look n t f l head) ≡ sight_of (walking z k) n f head t recs row a) ⊎ (sight_of (walking z k) n f head t recs row a ≡ blocked chain_too_long row)
  unfolding sight_of
  alike (found c) e = inl (rw (longer_look n t f head k l longer (λ h. let q : found c ≡ too_long = sym e ∙ h in let w : ◌≡◌ {A = ℕ} 0 1 = cc in omega arith), e))
  alike nothing e = inl (rw (longer_look n t f head k l longer (λ h. let q : nothing ≡ too_long = sym e ∙ h in let w : ◌≡◌ {A = ℕ} 0 1 = cc in omega arith), e))
  alike harmed e = inl (rw (longer_look n t f head k l longer (λ h. let q : harmed ≡ too_long = sym e ∙ h in let w : ◌≡◌ {A = ℕ} 0 1 = cc in omega arith), e))
  alike too_long e = inr refl

  own_alike : (o : Option Write) → (own_sight (walking z l) n f head t recs row o ≡ own_sight (walking z k) n f head t recs row o) ⊎ (own_sight (walking z k) n f head t recs row o ≡ blocked chain_too_long row)
  unfolding own_sight
  own_alike (some w) = inl refl
  own_alike none = alike (look n t f k head) refl

  pub longer_sight : (under l ≡ under k) ⊎ (under k ≡ blocked chain_too_long row)
  unfolding read_row
  longer_sight = own_alike (own t.writes row)

module _ {z : Sizes} (m : Mem z) (s id row k l : ℕ) (longer : k ≤ l) where
  alike_still : (x : ReadAnswer) (ts : List Test) (o : Outcome (walking z l) ReadAnswer ℕ) (p : Outcome (walking z k) ReadAnswer ℕ) → (Same o p) ⊎ (p.answer ≡ x) →
      ((guard (refuse_read (lent k m)) ts p).answer ≢ x) → Same (guard (refuse_read (lent l m)) ts o) (guard (refuse_read (lent k m)) ts p)
  unfolding guard
  alike_still x [] o p (inl h) e = h
  alike_still x [] o p (inr h) e = absurd (e h)
  alike_still x (t ∷ ts) o p h e = by_bool t.fails
      (λ b. rw b (record { answer = refl; meta = refl; rows = refl; cells = refl; slots = refl }))
      (λ b. rw b (alike_still x ts o p h (rw b at e)))

  end_alike : (g g' : Sight) → (g ≡ g') ⊎ (g' ≡ blocked chain_too_long row) → (Same (read_end (lent l m) s g) (read_end (lent k m) s g')) ⊎ ((read_end (lent k m) s g').answer ≡ ReadAnswer.Refused chain_too_long row)
  unfolding read_end
  end_alike g g' (inr e) = inr (rw e)
  end_alike g g' (inl e) = inl (rw e (on g'))
    where
      on : (y : Sight) → Same (read_end (lent l m) s y) (read_end (lent k m) s y)
      on (blocked a b) = record { answer = refl; meta = refl; rows = refl; cells = refl; slots = refl }
      on (sees c d) = record { answer = refl; meta = refl; rows = refl; cells = refl; slots = refl }

  -- for one read of one memory: unless the shorter refused with 10, the longer answers and leaves the same
  pub longer_walk_changes_no_answer : (read_out (lent k m) s id row).answer ≢ ReadAnswer.Refused chain_too_long row → Same (read_out (lent l m) s id row) (read_out (lent k m) s id row)
  unfolding read_out slot_tests store_tests fits slot_of
  longer_walk_changes_no_answer e =
      alike_still (ReadAnswer.Refused chain_too_long row) (slot_tests (lent k m) s id ++ row_test (lent k m) row ∷ []) _ _
      (end_alike _ _ (longer_sight z (size_n m) (version_at m.cells) (head_at m row) (slot_at m s) (slot_at m s).recs row k l longer)) e

  -- no test has this number
  abbrev NotOf : ℕ → List Test → Type 0
  NotOf k [] = Unit {0}
  NotOf k (t ∷ ts) = (t.number ≢ k) × NotOf k ts

  lets : (ts : List Test) (o : Outcome (walking z l) ReadAnswer ℕ) (p : Outcome (walking z k) ReadAnswer ℕ) → NotOf chain_too_long ts → (guard (refuse_read (lent k m)) ts p).answer ≡ ReadAnswer.Refused chain_too_long row → guard (refuse_read (lent l m)) ts o ≡ o
  unfolding guard
  lets [] o p n e = refl
  lets (t ∷ ts) o p n e = by_bool t.fails
      (λ b.
      let g : ReadAnswer.Refused t.number t.value ≡ ReadAnswer.Refused chain_too_long row = rw b at e in
      let h : t.number ≡ chain_too_long = cc in
      absurd (n.0 h))
      (λ b. rw b (lets ts o p n.1 (rw b at e)))

  -- what a row's read comes to: an answer, or one of the three refusals
  abbrev pub Turned : ReadAnswer → Type 0
  Turned a = ((c : ℕ) × (a ≡ answer_at (version_at m.cells) c)) ⊎ ((a ≡ ReadAnswer.Refused chain_too_long row) ⊎ ((a ≡ ReadAnswer.Refused read_set_full row) ⊎ (a ≡ ReadAnswer.Refused damaged 0)))

  turned : (j : ℕ) (g : Sight) → SightIs (walking z j) (size_n m) (version_at m.cells) (head_at m row) (slot_at m s) (slot_at m s).recs row g → Turned (read_end (lent j m) s g).answer
  unfolding read_end
  turned j (sees c d) i = inl (c, refl)
  turned j (blocked a b) (inl q) = inr (inr (inr (rw (q.1, q.2))))
  turned j (blocked a b) (inr (_, inl q)) = inr (inl (rw (q.1, q.2)))
  turned j (blocked a b) (inr (_, inr (_, inl q))) = inr (inr (inr (rw (q.1, q.2))))
  turned j (blocked a b) (inr (_, inr (_, inr (_, inl q)))) = inr (inr (inl (rw (q.1, q.2))))
  turned j (blocked a b) (inr (_, inr (_, inr (_, inr q)))) = absurd q.1

  -- a 10 of the shorter stays, or turns into an answer, 13 or 15, and nothing else
  pub longer_walk_turns_10_into : (read_out (lent k m) s id row).answer ≡ ReadAnswer.Refused chain_too_long row → Turned (read_out (lent l m) s id row).answer
  unfolding read_out slot_tests store_tests fits slot_of
  longer_walk_turns_10_into e =
      rw (lets (slot_tests (lent k m) s id ++ row_test (lent k m) row ∷ []) (read_end (lent l m) s (under z (size_n m) (version_at m.cells) (head_at m row) (slot_at m s) (slot_at m s).recs row k l longer l)) _ (λ q. omega arith, (λ q. omega arith, (λ q. omega arith, (λ q. omega arith, (λ q. omega arith, tt))))) e)
      (turned l _ (sight_is (walking z l) (size_n m) (version_at m.cells) (head_at m row) (slot_at m s) (slot_at m s).recs row))
