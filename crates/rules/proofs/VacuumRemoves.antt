-- An accepted vacuum removes exactly the reclaimable: the versions after the head with xmax nonzero, below the horizon, unlocked. It
-- reports each once, newest first, cell and value, and answers their count and the live head's value; the chain left is the old one
-- without them; what is removed is cleared; and nothing else changes but next and the free list.
use Rattle.std.specs.Prelude.{ℕ, ◌≤◌, List, [], ◌∷◌, map, ◌≡◌, refl, ◌≢◌, ◌↔◌, length, get_or}
use Rattle.std.proofs.Common.{sym, ap, ◌∙◌, subst, inl, inr, arith}
use Rattle.kinds.specs.declared.Version.{Version}
use Rattle.kinds.specs.ReadAnswer.{None}
use Rattle.kinds.specs.Answer.{Answer, Vacuumed}
use Rattle.words.specs.Sizes.{Sizes, CELLS, FREE}
use Rattle.kinds.specs.Versions.{with_next, value_of, empty_version, version_of, cell_at, version_at, link_at}
use Rattle.rules.specs.Memory.{Mem, size_r, size_n, head_at, with_cells}
use Rattle.rules.specs.Chain.{ends, chained}
use Rattle.rules.specs.Snapshot.{horizon}
use Rattle.rules.specs.Outcome.{Outcome, out}
use Rattle.rules.specs.Vacuum.{relink, report_of, reports, vacuum_out}
use Rattle.rules.specs.Exactly.{In, All, NoneOf}
use Rattle.rules.proofs.Exactly.{all_map, is_not}
use Rattle.rules.specs.Terms.{Fitting, CellOf}
use Rattle.rules.proofs.Terms.{store_fits}
use Rattle.rules.specs.Along.{Along, Way}
use Rattle.rules.proofs.Along.{is_chain}
use Rattle.rules.specs.Theory.CellLaws.{HasCell}
use Rattle.rules.specs.Members.{Once}
use Rattle.rules.proofs.Members.{all_in, in_all, picks_in, picks_length, picks_once}
use Rattle.rules.proofs.ChainOnce.{chain_passes_each_cell_once, along_agree}
use Rattle.rules.specs.GivenBack.{give_all}
use Rattle.rules.proofs.GivenBack.{give_all_rows, give_all_slots, give_all_meta, give_all_else, give_all_cleared}
use Rattle.rules.proofs.Relinked.{relink_length, relink_else, relink_along, relink_keeps}
use Rattle.rules.specs.VacuumRefuses.{Reclaimable, Picks}
use Rattle.rules.proofs.VacuumRefuses.{is_reclaimable, keep_picks, WholeChain, DeadOf, vacuum_lines, row_chain}
use Rattle.rules.proofs.OneOutcome.{KeptOf, swept_to, vacuum_meets, vacuum_walks}

pub reports_map : (cs : List (List ℕ)) (l : List ℕ) → reports cs l ≡ map (report_of cs) l
unfolding reports
reports_map cs [] = refl
reports_map cs (c ∷ l) = rw (reports_map cs l)

pub reports_length : (cs : List (List ℕ)) (l : List ℕ) → length (reports cs l) ≡ length l
unfolding reports
reports_length cs [] = refl
reports_length cs (c ∷ l) = rw (reports_length cs l)

-- the row's chain is h and then l; d are the reclaimable of l, in order, and k the others
module _ {z : Sizes} (m : Mem z) (row request room : ℕ) (accepted : NoneOf (vacuum_lines m row request room)) (h : ℕ) (l d k : List ℕ) (whole : WholeChain m row (h ∷ l)) (dead : DeadOf m (horizon m request) l d) (kept : KeptOf m row request room l k) where
  abbrev hz : ℕ
  hz = horizon m request

  abbrev at : ℕ → Version
  at c = version_at m.cells c

  abbrev after : Mem z
  after = (vacuum_out m row request room).after

  swept_to_lem : vacuum_out m row request room ≡ swept_to m row request room h d k
  swept_to_lem = ((vacuum_meets m row request room).accepted accepted).sweeps h l d k whole dead kept

  -- ---- what is removed
  pub dead_are_exactly_the_reclaimable : (x : ℕ) → In x d ↔ (In x l × Reclaimable hz (at x))
  dead_are_exactly_the_reclaimable x = picks_in (λ c. Reclaimable hz (at c)) l d dead x

  pub kept_are_exactly_the_others : (x : ℕ) → In x k ↔ (In x l × (Reclaimable hz (at x) → ⊥))
  kept_are_exactly_the_others x = picks_in (λ c. Reclaimable hz (at c) → ⊥) l k kept x

  -- ---- the answer and the report
  -- "The answer is their count and the live head's value"
  pub vacuum_answers_their_count_and_the_head's_value : (vacuum_out m row request room).answer ≡ Vacuumed (length d) (value_of (at h))
  vacuum_answers_their_count_and_the_head's_value = ap (λ (o : Outcome z Answer (List ℕ)). o.answer) swept_to_lem

  -- "reported (cell, value) .. in chain order"
  pub vacuum_reports_each_in_chain_order : (vacuum_out m row request room).front ≡ map (report_of m.cells) d
  vacuum_reports_each_in_chain_order = ap (λ (o : Outcome z Answer (List ℕ)). o.front) swept_to_lem ∙ reports_map m.cells d

  pub vacuum_counts_its_reports : length (vacuum_out m row request room).front ≡ length d
  vacuum_counts_its_reports = ap (λ (o : Outcome z Answer (List ℕ)). length o.front) swept_to_lem ∙ reports_length m.cells d

  once : Once (h ∷ l)
  once = chain_passes_each_cell_once (size_n m) (version_at m.cells) (h ∷ l) (head_at m row) whole.way

  -- each once
  pub vacuum_reports_each_once : Once d
  vacuum_reports_each_once = picks_once (λ c. Reclaimable hz (at c)) l d dead once.1

  -- ---- the memory after
  fitting : Fitting m (size_r m) (size_n m)
  fitting = store_fits m accepted.0

  has_cell : (c : ℕ) → CellOf (size_n m) c → HasCell m.cells c
  has_cell c o = record { low = o.low; high = omega (arith, o.high, fitting.cells) }

  has_chain : (c : ℕ) → In c (h ∷ l) → HasCell m.cells c
  has_chain c i = has_cell c (all_in (CellOf (size_n m)) (h ∷ l) whole.way.cells c i)

  has_dead : All (HasCell m.cells) d
  has_dead = in_all (HasCell m.cells) d (λ c i. has_chain c (inr ((dead_are_exactly_the_reclaimable c).0 i).0))

  has_kept : All (HasCell m.cells) (h ∷ k)
  has_kept = (has_chain h (inl refl), in_all (HasCell m.cells) k (λ c i. has_chain c (inr ((kept_are_exactly_the_others c).0 i).0)))

  once_kept : Once (h ∷ k)
  once_kept = (λ i. once.0 ((kept_are_exactly_the_others h).0 i).0, picks_once (λ c. Reclaimable hz (at c) → ⊥) l k kept once.1)

  lows : (l : List ℕ) → All (HasCell m.cells) l → All (λ c. 1 ≤ c) l
  lows l p = all_map (HasCell m.cells) (λ c. 1 ≤ c) (λ x q. q.low) l p

  kept_not_dead : (c : ℕ) → In c (h ∷ k) → In c d → ⊥
  kept_not_dead c (inl e) i = once.0 (subst (λ (y : ℕ). In y l) e ((dead_are_exactly_the_reclaimable c).0 i).0)
  kept_not_dead c (inr j) i = ((kept_are_exactly_the_others c).0 j).1 ((dead_are_exactly_the_reclaimable c).0 i).1

  abbrev linked : Mem z
  linked = with_cells m (relink (h ∷ k) m.cells)

  after_is : after ≡ give_all d linked
  after_is = ap (λ (o : Outcome z Answer (List ℕ)). o.after) swept_to_lem

  -- cell for cell
  after_cell : (c : ℕ) → (In c d → ⊥) → cell_at after.cells c ≡ cell_at (relink (h ∷ k) m.cells) c
  after_cell c n = rw after_is (give_all_else d linked (lows d has_dead) c n)

  has_linked : All (HasCell linked.cells) d
  has_linked = all_map (HasCell m.cells) (HasCell linked.cells) (λ x q. record { low = q.low; high = rw (relink_length (h ∷ k) m.cells) q.high }) d has_dead

  -- "given back": cleared
  pub vacuum_clears_what_it_removes : (c : ℕ) → In c d → version_at after.cells c ≡ empty_version
  vacuum_clears_what_it_removes c i = rw after_is (give_all_cleared d linked has_linked c i)

  -- what is left of the chain keeps everything but its next, and its free link
  pub vacuum_keeps_all_but_next : (c : ℕ) → In c (h ∷ k) → (y : ℕ) × (version_at after.cells c ≡ with_next (at c) y) × (link_at after.cells c ≡ link_at m.cells c)
  vacuum_keeps_all_but_next c i =
      let r = relink_keeps (h ∷ k) m.cells once_kept has_kept c i in
      let e = after_cell c (kept_not_dead c i) in
      (r.0, ap version_of e ∙ r.1, ap (λ (w : List ℕ). get_or w 7 0) e ∙ r.2)

  -- every cell off the chain is as it was, every head and every slot too, and R, N and the clock
  pub vacuum_keeps_the_rest : ((c : ℕ) → (In c (h ∷ l) → ⊥) → cell_at after.cells c ≡ cell_at m.cells c) × (after.rows ≡ m.rows) × (after.slots ≡ m.slots) × ((j : ℕ) → j ≢ FREE → get_or after.meta j 0 ≡ get_or m.meta j 0)
  vacuum_keeps_the_rest = (
    (λ c n. after_cell c (λ i. n (inr ((dead_are_exactly_the_reclaimable c).0 i).0)) ∙ relink_else (h ∷ k) m.cells (lows (h ∷ k) has_kept) c (off c n)),
    rw after_is (give_all_rows d linked),
    rw after_is (give_all_slots d linked),
    (λ j n. rw after_is (give_all_meta d linked j n)),
  )
    where
      off : (c : ℕ) → (In c (h ∷ l) → ⊥) → In c (h ∷ k) → ⊥
      off c n (inl e) = n (inl e)
      off c n (inr i) = n (inr ((kept_are_exactly_the_others c).0 i).0)

  -- the chain left, walked again in the memory after, is the old one without the reclaimed
  pub vacuum_leaves_the_chain_without_them : row_chain after row ≡ chained (h ∷ k) ends
  vacuum_leaves_the_chain_without_them =
      let f = version_at after.cells in
      let n : size_n after ≡ size_n m = vacuum_keeps_the_rest.3 CELLS (λ e. omega arith) in
      let r : head_at after row ≡ h = ap (λ (y : List ℕ). get_or y row 0) vacuum_keeps_the_rest.1 ∙ whole.way.along.0 in
      let same : All (λ c. (version_at (relink (h ∷ k) m.cells) c).next.0 ≡ (f c).next.0) (h ∷ k) = in_all _ (h ∷ k) (λ c i. ap (λ (w : List ℕ). (version_of w).next.0) (sym (after_cell c (kept_not_dead c i)))) in
      let a : Along f h (h ∷ k) 0 = along_agree (size_n m) (version_at (relink (h ∷ k) m.cells)) f (h ∷ k) h 0 same (relink_along h k m.cells once_kept has_kept) in
      let w : Way (size_n m) f h (h ∷ k) 0 = record { along = a; cells = (whole.way.cells.0, in_all (CellOf (size_n m)) k (λ c i. all_in (CellOf (size_n m)) (h ∷ l) whole.way.cells c (inr ((kept_are_exactly_the_others c).0 i).0))) } in
      let b : length (h ∷ k) ≤ size_n m = omega (arith, picks_length (λ c. Reclaimable hz (at c) → ⊥) l k kept, whole.within) in
      rw (n, r) (is_chain (size_n m) f (size_n m) h (h ∷ k) ends (w, b))

-- ---- together
module _ {z : Sizes} (m : Mem z) (row request room : ℕ) where
  abbrev done : Outcome z Answer (List ℕ)
  done = vacuum_out m row request room

  pub record Removed : Type 0 where
    -- the row's chain: its head and the versions after it
    pub head : ℕ
    pub tail : List ℕ
    pub whole : WholeChain m row (head ∷ tail)
    -- "reclaimable are the versions after the head with xmax nonzero, below the horizon, unlocked"
    pub dead : List ℕ
    pub reclaimed : (x : ℕ) → In x dead ↔ (In x tail × Reclaimable (horizon m request) (version_at m.cells x))
    -- in chain order, each once
    pub in_order : Picks (λ c. Reclaimable (horizon m request) (version_at m.cells c)) tail dead
    pub each_once : Once dead
    pub reported : done.front ≡ map (report_of m.cells) dead
    pub counted : length done.front ≡ length dead
    pub answered : done.answer ≡ Vacuumed (length dead) (value_of (version_at m.cells head))
    pub cleared : (c : ℕ) → In c dead → version_at done.after.cells c ≡ empty_version
    -- what is left: the old chain without them
    pub kept : List ℕ
    pub remaining : (x : ℕ) → In x kept ↔ (In x tail × (Reclaimable (horizon m request) (version_at m.cells x) → ⊥))
    pub left : row_chain done.after row ≡ chained (head ∷ kept) ends

  pub vacuum_removes_exactly_the_reclaimable : NoneOf (vacuum_lines m row request room) → head_at m row ≢ 0 → Removed
  vacuum_removes_exactly_the_reclaimable n live = on (vacuum_walks m row request room n).0 (vacuum_walks m row request room n).1
    where
      on : (l : List ℕ) → WholeChain m row l → Removed
      on [] w = absurd (live w.way.along)
      on (h ∷ l) w =
          let p = keep_picks _ (λ c. Reclaimable (horizon m request) (version_at m.cells c)) (λ c. is_reclaimable (horizon m request) (version_at m.cells c)) l in
          let q = keep_picks _ (λ c. Reclaimable (horizon m request) (version_at m.cells c) → ⊥) (λ c. is_not _ (is_reclaimable (horizon m request) (version_at m.cells c))) l in
          record {
            head = h;
            tail = l;
            whole = w;
            dead = _;
            reclaimed = dead_are_exactly_the_reclaimable m row request room n h l _ _ w p q;
            in_order = p;
            each_once = vacuum_reports_each_once m row request room n h l _ _ w p q;
            reported = vacuum_reports_each_in_chain_order m row request room n h l _ _ w p q;
            counted = vacuum_counts_its_reports m row request room n h l _ _ w p q;
            answered = vacuum_answers_their_count_and_the_head's_value m row request room n h l _ _ w p q;
            cleared = vacuum_clears_what_it_removes m row request room n h l _ _ w p q;
            kept = _;
            remaining = kept_are_exactly_the_others m row request room n h l _ _ w p q;
            left = vacuum_leaves_the_chain_without_them m row request room n h l _ _ w p q;
          }

  -- "or 0 and no value where the head is 0"
  pub vacuum_of_an_empty_row : NoneOf (vacuum_lines m row request room) → head_at m row ≡ 0 → vacuum_out m row request room ≡ out (Vacuumed 0 None) [] m
  vacuum_of_an_empty_row n e = ((vacuum_meets m row request room).accepted n).nothing e
