-- What a commit's tests come to as a whole, and what a fine judgement gives the changes: every number of the write set that they use is one
-- of a row or a cell that is there.
use Rattle.std.specs.Prelude.{ℕ, ◌+◌, ◌==◌, ◌<◌, ◌≤◌, min, true, false, List, [], ◌∷◌, ◌++◌, ◌≡◌, refl, ◌≢◌, length, get_or}
use Rattle.std.proofs.Math.Path.{ap}
use Rattle.std.proofs.Common.{◌∙◌, arith}
use Rattle.std.proofs.lemmas.Bool.Decides.{nat_tests}
use Rattle.kinds.specs.Verdict.{Verdict, Fine}
use Rattle.words.specs.Sizes.{Sizes, base, WRITES}
use Rattle.words.specs.Slots.{Slot, Write, write, threes, slot_of}
use Rattle.words.specs.WordLaws.{threes_step, threes_done}
use Rattle.lists.specs.Triples.{entry, entries}
use Rattle.rules.specs.Memory.{Mem, mem, size_r, size_n}
use Rattle.rules.specs.Outcome.{each}
use Rattle.rules.specs.Verdicts.{verdict, and_then}
use Rattle.rules.proofs.Verdicts.{verdict_append}
use Rattle.rules.specs.Commit.{record_tests, base_tests, new_tests, commit_tests}
use Rattle.rules.specs.Theory.Bridge.{AllIn}
use Rattle.rules.proofs.Theory.CommitCall.{commit_facts}
use Rattle.rules.proofs.TestLaws.{fine_passed}
use Rattle.validate.specs.Arenas.{lent}
use Rattle.validate.specs.CommitLaws.{judged}

some_left : (w : List ℕ) (l : List (List ℕ)) → (length (w ∷ l) == 0) ≡ true → ⊥
some_left w l e = grind (arith, nat_tests)

module _ {z : Sizes} (m : Mem z) (t : Slot) where
  commit_some : (w : Write) (l : List Write) → verdict (commit_tests m t (w ∷ l)) ≡ judged m t (w ∷ l)
  unfolding commit_tests
  commit_some w l =
      verdict_append (each (record_tests m t) t.recs ++ each (base_tests m) (w ∷ l)) (each (new_tests m) (w ∷ l))
      ∙ ap (λ (v : Verdict). and_then v (verdict (each (new_tests m) (w ∷ l)))) (verdict_append (each (record_tests m t) t.recs) (each (base_tests m) (w ∷ l)))

  -- by the triples that lie in the slot
  pub judge_none : (ts : List (List ℕ)) (ws : List Write) → entries ts ≡ ws → (length ts == 0) ≡ true → verdict (commit_tests m t ws) ≡ Fine
  unfolding commit_tests verdict
  judge_none [] ws e h = rw (← e)
  judge_none (x ∷ l) ws e h = absurd (some_left x l h)

  pub judge_some : (ts : List (List ℕ)) (ws : List Write) → entries ts ≡ ws → (length ts == 0) ≡ false → verdict (commit_tests m t ws) ≡ judged m t ws
  judge_some [] ws e h = cc
  judge_some (x ∷ l) ws e h = rw (← e) (commit_some (entry x) (entries l))

  -- by the slot's count of writes
  commit_threes : (u : List ℕ) (a k : ℕ) → 0 < k → verdict (commit_tests m t (threes write u a k)) ≡ judged m t (threes write u a k)
  commit_threes u a k h = rw (threes_step write u a k h) (commit_some _ _)

  pub judge_none_at : (u : List ℕ) → get_or u (WRITES base) 0 ≡ 0 → verdict (commit_tests m t (slot_of base u).writes) ≡ Fine
  unfolding slot_of commit_tests verdict
  judge_none_at u e = rw (threes_done write u (WRITES base + 1) (min (get_or u (WRITES base) 0) base.writes) (omega arith))

  pub judge_some_at : (u : List ℕ) → get_or u (WRITES base) 0 ≢ 0 → verdict (commit_tests m t (slot_of base u).writes) ≡ judged m t (slot_of base u).writes
  unfolding slot_of
  judge_some_at u e = commit_threes u (WRITES base + 1) (min (get_or u (WRITES base) 0) base.writes) (omega arith)

-- the tests look at no slot but their own: a whole memory is judged as its three arenas are
pub commit_whole : (a r : List ℕ) (c s : List (List ℕ)) (t : Slot) (ws : List Write) → commit_tests {z = base} (mem a r c s) t ws ≡ commit_tests (lent a r c) t ws
unfolding commit_tests
commit_whole a r c s t [] = refl
commit_whole a r c s t (w ∷ l) = refl

-- k is any memory that is long enough for the store: the changes are called with two of its arenas only
module _ {z y : Sizes} (m : Mem z) (k : Mem y) (r : size_r m ≤ length k.rows) (n : size_n m ≤ length k.cells) where
  pub fine_writes : (t : Slot) (ws : List Write) → verdict (commit_tests m t ws) ≡ Fine → AllIn k ws
  fine_writes t ws h = (commit_facts m k r n t ws (fine_passed _ h)).1
