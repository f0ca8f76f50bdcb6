-- Abort: what a fine judgement gives the changes. Giving back looks at the saved words and the cells alone, so what is promised of those two
-- arenas holds of a whole memory.
use Rattle.std.specs.Prelude.{ℕ, ◌+◌, ◌-◌, ◌<◌, ◌≤◌, List, [], ◌∷◌, ◌≡◌, refl, length, get_or}
use Rattle.std.proofs.Common.{sym, ap, ◌∙◌}
use Rattle.kinds.specs.Verdict.{Fine}
use Rattle.words.specs.Sizes.{Sizes, base}
use Rattle.words.specs.Lists.{fold}
use Rattle.words.specs.Slots.{Write, write, threes}
use Rattle.words.specs.WordLaws.{threes_step, threes_done}
use Rattle.rules.specs.Memory.{Mem, mem, size_n}
use Rattle.rules.specs.Outcome.{each}
use Rattle.rules.specs.Verdicts.{verdict}
use Rattle.rules.specs.Abort.{news, give_back, abort_tests}
use Rattle.rules.specs.Theory.Bridge.{BasesIn, AllCells}
use Rattle.rules.specs.Theory.CellLaws.{HasCell}
use Rattle.rules.proofs.Theory.AbortCall.{abort_entries_in}
use Rattle.rules.proofs.TestLaws.{fine_passed}

-- the two arenas that an abort looks at
abbrev pub lent : List ℕ → List (List ℕ) → Mem base
lent meta cells = mem meta [] cells []

-- ---- a whole memory

give_parts : (l : List ℕ) (a r : List ℕ) (c s : List (List ℕ))
    → ◌≡◌ {A = Mem base} (fold give_back l (mem a r c s)) (mem (fold give_back l (lent a c)).meta r (fold give_back l (lent a c)).cells s)
unfolding fold give_back
give_parts [] a r c s = refl
give_parts (x ∷ l) a r c s = give_parts l (give_back x (lent a c)).meta r (give_back x (lent a c)).cells s

pub give_whole : (l : List ℕ) (a a' r : List ℕ) (c c' s : List (List ℕ))
    → lent a' c' ≡ fold give_back l (lent a c) → ◌≡◌ {A = Mem base} (mem a' r c' s) (fold give_back l (mem a r c s))
give_whole l a a' r c c' s e = ap (λ (k : Mem base). mem k.meta r k.cells s) e ∙ sym (give_parts l a r c s)

-- ---- one cell after the other

pub give_none : (m : Mem base) → fold give_back [] m ≡ m
unfolding fold
give_none m = refl

pub give_step : (c : ℕ) (l : List ℕ) (m : Mem base) → fold give_back (c ∷ l) m ≡ fold give_back l (give_back c m)
unfolding fold
give_step c l m = refl

-- ---- the same of a slot's entries, as they lie from word a on

module _ (t : List ℕ) (a k : ℕ) (m : Mem base) where
  pub give_none_at : k ≤ 0 → fold give_back (news (threes write t a k)) m ≡ m
  unfolding fold
  give_none_at h = rw (threes_done write t a k h)

  pub give_step_at : 0 < k → fold give_back (news (threes write t a k)) m ≡ fold give_back (news (threes write t (a + 3) (k - 1))) (give_back (get_or t (a + 2) 0) m)
  unfolding fold
  give_step_at h = rw (threes_step write t a k h)

-- what is there stays there where the length does
pub still_cell : (cs ds : List (List ℕ)) (c : ℕ) → length ds ≡ length cs → HasCell cs c → HasCell ds c
still_cell cs ds c e h = record { low = h.low; high = rw e h.high }

-- ---- a fine judgement

-- cs are any cells that are enough for the store: those before the unlocking, and those after it
module _ {z : Sizes} (m : Mem z) (cs : List (List ℕ)) (n : size_n m ≤ length cs) where
  pub fine_bases : (ws : List Write) → verdict (each (abort_tests m) ws) ≡ Fine → BasesIn cs ws
  fine_bases ws h = (abort_entries_in m cs n ws (fine_passed _ h)).0

  pub fine_news : (ws : List Write) → verdict (each (abort_tests m) ws) ≡ Fine → AllCells cs (news ws)
  fine_news ws h = (abort_entries_in m cs n ws (fine_passed _ h)).1
