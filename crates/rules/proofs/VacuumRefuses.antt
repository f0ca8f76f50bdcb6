-- A vacuum refuses exactly when the paper says. "vacuum walks, then 14".
use Rattle.std.specs.Prelude.{ℕ, ◌≤◌, ◌<◌, Bool, ◌≢◌, ◌⊎◌, length, ltb}
use mathlib.Core.List.{List, [], ◌∷◌, ◌++◌}
use Rattle.std.proofs.Math.Path.{◌≡◌, refl, subst}
use Rattle.std.proofs.Common.{sym, ap, ◌∙◌, inr}
use Rattle.std.proofs.Math.Logic.{inl}
use native.Mathlib.Omega.{arith}
use Rattle.kinds.specs.declared.Version.{Version}
use Rattle.kinds.specs.Answer.{Answer}
use Rattle.words.specs.Sizes.{Sizes}
use Rattle.rules.specs.Numbers.{result_full, damaged}
use Rattle.words.specs.Lists.{keep}
use Rattle.rules.proofs.Theory.Cases.{by_bool, by_eq}
use Rattle.kinds.specs.Versions.{version_at}
use Rattle.rules.specs.Memory.{Mem, size_n, head_at}
use Rattle.rules.specs.Chain.{After, ends, goes_on, broken, Chain, chained, chain}
use Rattle.rules.specs.Snapshot.{horizon}
use Rattle.rules.specs.Outcome.{Outcome, guard, store_tests, row_test}
use Rattle.rules.specs.Vacuum.{swept, vacuum_now, vacuum_out}
use Rattle.kinds.specs.Versions.{reclaimable}
use Rattle.rules.specs.Exactly.{Line, line, Reflects, Exactly}
use Rattle.rules.proofs.Exactly.{in_answer, not_refused, is_less, is_most, is_not, is_nonzero, is_both, is_also, holds_true, fails_false, says_append, exactly_guarded, exactly_blocked, exactly_accepted}
use Rattle.rules.specs.Along.{Way}
use Rattle.rules.proofs.Along.{ChainIs, chain_is, is_chain}
use Rattle.rules.proofs.SharedLines.{store_lines, store_says, row_line}
use Rattle.rules.specs.VacuumRefuses.{Reclaimable, Picks}

pub is_reclaimable : (hz : ℕ) (v : Version) → Reflects (reclaimable hz v) (Reclaimable hz v)
unfolding reclaimable
is_reclaimable hz v =
    is_also _ (is_both _ _ (is_nonzero v.xmax.0) (is_both _ _ (is_less v.xmax.0 hz) (is_not _ (is_nonzero v.locked))))
    (λ p. record { superseded = p.0; below = p.1.0; free = by_eq v.locked 0 (λ e. e) (λ n. absurd (p.1.1 n)) })
    (λ p. (p.superseded, (p.below, λ n. n p.free)))

pub keep_picks : {A : Type 0} (p : A → Bool) (P : A → Type 0) → ((a : A) → Reflects (p a) (P a)) → (l : List A) → Picks P l (keep p l)
unfolding keep
keep_picks p P r [] = refl
keep_picks p P r (a ∷ l) = by_bool (p a) (λ e. rw e (inl ((r a).yes e, (keep p l, refl, keep_picks p P r l)))) (λ e. rw e (inr ((r a).no e, keep_picks p P r l)))

pub picks_keep : {A : Type 0} (p : A → Bool) (P : A → Type 0) → ((a : A) → Reflects (p a) (P a)) → (l d : List A) → Picks P l d → keep p l ≡ d
unfolding keep
picks_keep p P r [] d q = sym q
picks_keep p P r (a ∷ l) d (inl q) = rw (holds_true (p a) (r a) q.0, picks_keep p P r l q.1.0 q.1.2) (sym q.1.1)
picks_keep p P r (a ∷ l) d (inr q) = rw (fails_false (p a) (r a) q.0) (picks_keep p P r l d q.1)

module _ {z : Sizes} (m : Mem z) where
  -- the row's chain, to pointer 0, is l
  pub record WholeChain (row : ℕ) (l : List ℕ) : Type 0 where
    pub way : Way (size_n m) (version_at m.cells) (head_at m row) l 0
    pub within : length l ≤ size_n m

  -- "a vacuum walk past N versions": N are passed and a further pointer follows
  abbrev pub WalksPast : ℕ → Type 0
  WalksPast row = (l : List ℕ) × (p : ℕ) × Way (size_n m) (version_at m.cells) (head_at m row) l p × (length l ≡ size_n m) × (p ≢ 0)

  -- "a cell or link above N"
  abbrev pub Breaks : ℕ → Type 0
  Breaks row = (l : List ℕ) × (p : ℕ) × Way (size_n m) (version_at m.cells) (head_at m row) l p × (length l < size_n m) × (size_n m < p)

  -- the reclaimable of a list of cells, in order
  abbrev pub DeadOf : ℕ → List ℕ → List ℕ → Type 0
  DeadOf hz l d = Picks (λ c. Reclaimable hz (version_at m.cells c)) l d

  -- more are reclaimable than the buffer holds
  abbrev pub Overfull : ℕ → ℕ → ℕ → Type 0
  Overfull row hz room = (h : ℕ) × (l : List ℕ) × (d : List ℕ) × WholeChain row (h ∷ l) × DeadOf hz l d × (room < length d)

  abbrev pub walk_lines : ℕ → ℕ → ℕ → List Line
  walk_lines row hz room =
      -- 15: "a vacuum walk past N versions", or "a cell or link above N"
      line (WalksPast row ⊎ Breaks row) damaged 0
      -- 14: "list longer than its buffer"
      ∷ line (Overfull row hz room) result_full 0
      ∷ []

  abbrev pub vacuum_lines : ℕ → ℕ → ℕ → List Line
  vacuum_lines row request room = store_lines m ++ row_line m row ∷ [] ++ walk_lines row (horizon m request) room

  abbrev pub row_chain : ℕ → Chain
  row_chain row = chain (size_n m) (version_at m.cells) (size_n m) (head_at m row)

  -- what the walk came to, and what is said of it, agree
  chain_tells : (row : ℕ) (l l' : List ℕ) (a a' : After) → row_chain row ≡ chained l a → ChainIs (size_n m) (version_at m.cells) (size_n m) (head_at m row) l' a' → (l ≡ l') × (a ≡ a')
  chain_tells row l l' a a' e i =
      let g : chained l a ≡ chained l' a' = sym e ∙ is_chain (size_n m) (version_at m.cells) (size_n m) (head_at m row) l' a' i in
      (ap (λ (x : Chain). x.cells) g, ap (λ (x : Chain). x.after) g)

  -- where the chain ends the walk is not refused
  ended : (row : ℕ) (l : List ℕ) → row_chain row ≡ chained l ends → (WalksPast row ⊎ Breaks row) → ⊥
  ended row l e (inl q) =
      let g : ends ≡ goes_on = (chain_tells row l q.0 ends goes_on e (q.1, q.2, q.3, q.4)).1 in
      let h : ◌≡◌ {A = ℕ} 0 1 = cc in
      omega arith
  ended row l e (inr q) =
      let g : ends ≡ broken = (chain_tells row l q.0 ends broken e (q.1, q.2, q.3, q.4)).1 in
      let h : ◌≡◌ {A = ℕ} 0 1 = cc in
      omega arith

  overfull_list : (row hz room : ℕ) (l : List ℕ) (e : row_chain row ≡ chained l ends) (q : Overfull row hz room) → l ≡ q.0 ∷ q.1
  overfull_list row hz room l e q = (chain_tells row l (q.0 ∷ q.1) ends ends e (q.3.way, q.3.within)).0

  -- the walk came to pointer 0
  pub ended_chain : (row : ℕ) (l : List ℕ) → row_chain row ≡ chained l ends → WholeChain row l
  ended_chain row l e =
      let i : ChainIs (size_n m) (version_at m.cells) (size_n m) (head_at m row) l ends = subst (λ (x : Chain). ChainIs (size_n m) (version_at m.cells) (size_n m) (head_at m row) x.cells x.after) e (chain_is (size_n m) (version_at m.cells) (size_n m) (head_at m row)) in
      record { way = i.0; within = i.1 }

  swept_exactly : (row hz room h : ℕ) (l : List ℕ) → row_chain row ≡ chained (h ∷ l) ends → Exactly in_answer m (swept m hz room h l) (swept m hz room h l) (walk_lines row hz room)
  unfolding swept guard
  swept_exactly row hz room h l e =
      let dead = keep (λ c. reclaimable hz (version_at m.cells c)) l in
      by_bool (ltb room (length dead))
      (λ b. rw b (exactly_blocked in_answer m result_full 0 (walk_lines row hz room) _
      (inr (ended row (h ∷ l) e, inl ((h, l, dead, ended_chain row (h ∷ l) e, keep_picks _ _ (λ c. is_reclaimable hz (version_at m.cells c)) l, (is_less room (length dead)).yes b), refl, refl)))))
      (λ b. rw b (exactly_accepted in_answer m _ (walk_lines row hz room) (not_refused _ refl) (
        ended row (h ∷ l) e,
        (
          λ q.
              let g : h ∷ l ≡ q.0 ∷ q.1 = overfull_list row hz room (h ∷ l) e q in
              let i : l ≡ q.1 = cc in
              let j : dead ≡ q.2 = rw i (picks_keep _ _ (λ c. is_reclaimable hz (version_at m.cells c)) q.1 q.2 q.4) in
              (is_less room (length dead)).no b (rw j q.5),
          tt,
        ),
      )))

  now_exactly : (row hz room : ℕ) (l : List ℕ) (a : After) → row_chain row ≡ chained l a → Exactly in_answer m (vacuum_now m hz room l a) (vacuum_now m hz room l a) (walk_lines row hz room)
  unfolding vacuum_now
  now_exactly row hz room l goes_on e =
      let i : ChainIs (size_n m) (version_at m.cells) (size_n m) (head_at m row) l goes_on = subst (λ (x : Chain). ChainIs (size_n m) (version_at m.cells) (size_n m) (head_at m row) x.cells x.after) e (chain_is (size_n m) (version_at m.cells) (size_n m) (head_at m row)) in
      exactly_blocked in_answer m damaged 0 (walk_lines row hz room) _ (inl (inl (l, i.0, i.1, i.2, i.3), refl, refl))
  now_exactly row hz room l broken e =
      let i : ChainIs (size_n m) (version_at m.cells) (size_n m) (head_at m row) l broken = subst (λ (x : Chain). ChainIs (size_n m) (version_at m.cells) (size_n m) (head_at m row) x.cells x.after) e (chain_is (size_n m) (version_at m.cells) (size_n m) (head_at m row)) in
      exactly_blocked in_answer m damaged 0 (walk_lines row hz room) _ (inl (inr (l, i.0, i.1, i.2, i.3), refl, refl))
  now_exactly row hz room [] ends e =
      exactly_accepted in_answer m _ (walk_lines row hz room) (not_refused _ refl) (
        ended row [] e,
        (
          λ q.
              let g : [] ≡ q.0 ∷ q.1 = overfull_list row hz room [] e q in
              let h : ◌≡◌ {A = ℕ} 0 1 = cc in
              omega arith,
          tt,
        ),
      )
  now_exactly row hz room (h ∷ l) ends e = swept_exactly row hz room h l e

  -- the walk's list, and what comes after it, decide what is done
  abbrev pub vacuumed : ℕ → ℕ → ℕ → Outcome z Answer (List ℕ)
  vacuumed row request room = vacuum_now m (horizon m request) room (row_chain row).cells (row_chain row).after

  pub vacuum_refuses_exactly : (row request room : ℕ) → Exactly in_answer m (vacuum_out m row request room) (vacuumed row request room) (vacuum_lines row request room)
  unfolding vacuum_out
  vacuum_refuses_exactly row request room =
      exactly_guarded in_answer m (store_tests m ++ row_test m row ∷ []) (store_lines m ++ row_line m row ∷ []) (walk_lines row (horizon m request) room) _ _
      (says_append (store_tests m) (row_test m row ∷ []) (store_lines m) (row_line m row ∷ []) (store_says m) (is_most _ row, refl, refl, tt))
      (now_exactly row (horizon m request) room (row_chain row).cells (row_chain row).after refl)
