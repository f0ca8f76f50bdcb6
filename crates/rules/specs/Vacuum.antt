-- Vacuum of a row: the chain as a list, a filter, what is left.
use Rattle.std.specs.Prelude.{ℕ, not, List, [], ◌∷◌, ◌++◌, length, ltb}
use Rattle.kinds.specs.ReadAnswer.{None}
use Rattle.kinds.specs.Answer.{Answer, Vacuumed}
use Rattle.words.specs.Sizes.{Sizes}
use Rattle.rules.specs.Numbers.{result_full, damaged}
use Rattle.words.specs.Lists.{keep, fold}
use Rattle.kinds.specs.Versions.{with_next, value_of, version_at, put_version, reclaimable}
use Rattle.rules.specs.Memory.{Mem, size_n, head_at, with_cells}
use Rattle.rules.specs.Chain.{After, ends, goes_on, broken, chain}
use Rattle.rules.specs.Snapshot.{horizon}
use Rattle.rules.specs.Outcome.{Outcome, out, test, guard, refuse, store_tests, row_test}
use Rattle.rules.specs.Abort.{give_back}

-- the cells of a list linked one to the next, the last to 0
unfoldable pub relink : List ℕ → List (List ℕ) → List (List ℕ)
relink [] cs = cs
relink (c ∷ []) cs = put_version cs c (with_next (version_at cs c) 0)
relink (c ∷ d ∷ l) cs = relink (d ∷ l) (put_version cs c (with_next (version_at cs c) d))

-- "reported (cell, value)": the cell, whether there is a key, the key
abbrev pub report_of : List (List ℕ) → ℕ → List ℕ
report_of cs c = c ∷ (version_at cs c).keyed ∷ (version_at cs c).key ∷ []

unfoldable pub reports : List (List ℕ) → List ℕ → List (List ℕ)
reports cs [] = []
reports cs (c ∷ l) = report_of cs c ∷ reports cs l

module _ {z : Sizes} where
  -- the chain's head and the cells after it. "They are unlinked, reported and given back in chain order." 14: "list longer than its buffer"
  unfoldable pub swept : Mem z → ℕ → ℕ → ℕ → List ℕ → Outcome z Answer (List ℕ)
  swept m hz room h l =
      let cs = m.cells in
      let dead = keep (λ c. reclaimable hz (version_at cs c)) l in
      let kept = keep (λ c. not (reclaimable hz (version_at cs c))) l in
      guard (refuse m) (test (ltb room (length dead)) result_full 0 ∷ [])
      (out (Vacuumed (length dead) (value_of (version_at cs h))) (reports cs dead) (fold give_back dead (with_cells m (relink (h ∷ kept) cs))))

  -- "The answer is their count and the live head's value, or 0 and no value where the head is 0." 15: a link above N, or "a vacuum walk past N versions"
  unfoldable pub vacuum_now : Mem z → ℕ → ℕ → List ℕ → After → Outcome z Answer (List ℕ)
  vacuum_now m hz room l goes_on = refuse m damaged 0
  vacuum_now m hz room l broken = refuse m damaged 0
  vacuum_now m hz room [] ends = out (Vacuumed 0 None) [] m
  vacuum_now m hz room (h ∷ l) ends = swept m hz room h l

  unfoldable pub vacuum_out : Mem z → ℕ → ℕ → ℕ → Outcome z Answer (List ℕ)
  vacuum_out m row request room =
      let l = chain (size_n m) (version_at m.cells) (size_n m) (head_at m row) in
      guard (refuse m) (store_tests m ++ row_test m row ∷ []) (vacuum_now m (horizon m request) room l.cells l.after)
