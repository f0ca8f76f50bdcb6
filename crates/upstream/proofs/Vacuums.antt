-- 000, `vacuum_row_acquired`, clause by clause, of an accepted vacuum on any memory. The row's chain is h and then l; d are the eligible of
-- l, in order, and k the others; fl is the free list before.
use Rattle.std.specs.Prelude.{ℕ, ◌<◌, Bool, true, false, ◌≡◌, refl, ◌≢◌, ◌↔◌, ◌⊎◌, length, get_or}
use mathlib.Core.List.{List, [], ◌∷◌, map, reverse_aux}
use Rattle.std.proofs.Math.Option.{some}
use Rattle.std.proofs.Math.Path.{sym}
use Rattle.std.proofs.Common.{ap, ◌∙◌, subst, inl, inr, ⊎_elim, arith}
use Rattle.words.specs.declared.TxId.{TxId}
use Rattle.kinds.specs.declared.Version.{Version}
use Rattle.kinds.specs.Answer.{Answer}
use Rattle.words.specs.Sizes.{Sizes, ROWS, CELLS, FREE}
use Rattle.words.specs.Lists.{nonzero, first}
use Rattle.kinds.specs.Versions.{at, value_of, with_next, version_of, cell_at, version_at}
use Rattle.rules.specs.Memory.{Mem, size_r, size_n, head_at, with_cells}
use Rattle.rules.specs.Chain.{ends, Chain, chain}
use Rattle.rules.specs.Snapshot.{horizon}
use Rattle.rules.specs.Outcome.{Outcome}
use Rattle.rules.specs.Vacuum.{relink, vacuum_out}
use Rattle.rules.specs.Exactly.{In, All, NoneOf}
use Rattle.rules.proofs.Exactly.{holds_true}
use Rattle.rules.specs.Terms.{Fitting, CellOf}
use Rattle.rules.proofs.Terms.{store_fits, is_cell_lem}
use Rattle.rules.specs.Along.{Along}
use Rattle.rules.proofs.Along.{is_chain}
use Rattle.rules.proofs.Theory.Cases.{by_bool, no_both}
use Rattle.rules.specs.Theory.CellLaws.{HasCell}
use Rattle.rules.specs.Members.{Once}
use Rattle.rules.proofs.Members.{in_or_not, all_in, in_all}
use Rattle.rules.proofs.ChainOnce.{chain_passes_each_cell_once}
use Rattle.rules.specs.GivenBack.{give_all}
use Rattle.rules.proofs.Relinked.{relink_length, relink_else}
use Rattle.rules.specs.HandedOut.{FreeList}
use Rattle.rules.proofs.HandedOut.{free_agree, give_all_in_front}
use Rattle.rules.specs.VacuumRefuses.{Reclaimable}
use Rattle.rules.proofs.VacuumRefuses.{WholeChain, DeadOf, vacuum_lines, ended_chain}
use Rattle.rules.proofs.OneOutcome.{KeptOf, vacuum_meets}
use Rattle.upstream.specs.Images.{image_of, stored, ImageValid}
use Rattle.upstream.specs.Seen.{reachable}
use Rattle.upstream.specs.RetentionTerms.{Eligible, DataSame, MetadataSame, MetadataSameBut, ReportProvenance, Reclaimed, live_of, reclaimed_of, ReclaimedProvenance, first_seen, prefix, PrefixIneligible}
use Rattle.upstream.proofs.Reading.{reachable_is_the_chain}
use Rattle.upstream.specs.Chains.{Falling}
use Rattle.upstream.proofs.Chains.{first_without, first_in, next_same_above, falling_along, falling_picked, falling_next}
use Rattle.rules.proofs.VacuumRemoves as W
use Rattle.upstream.specs.Transactions as up

pub same_but_next : (v w : Version) (y : ℕ) → w ≡ with_next v y → DataSame v w
same_but_next v w y e =
    record {
      xmin = sym (ap (λ (x : Version). x.xmin) e);
      xmax = sym (ap (λ (x : Version). x.xmax) e);
      keyed = sym (ap (λ (x : Version). x.keyed) e);
      key = sym (ap (λ (x : Version). x.key) e);
      locked = sym (ap (λ (x : Version). x.locked) e);
      owner = sym (ap (λ (x : Version). x.owner) e);
    }

pub same_data : (v w : Version) → w ≡ v → DataSame v w
same_data v w e = same_but_next v w v.next.0 e

-- the live head's value, told by our answer, is 000's
live_is : (v : Version) → live_of (value_of v) ≡ some (up.value_of v)
live_is v = by_bool (nonzero v.keyed) (λ e. rw e) (λ e. rw e)

-- members of a list turned onto another
pub in_turned : (x : ℕ) (d l : List ℕ) → In x (reverse_aux d l) ↔ (In x d ⊎ In x l)
in_turned x [] l = (inr, ⊎_elim (λ f. absurd f) (λ i. i))
in_turned x (a ∷ d) l = on (in_turned x d (a ∷ l))
  where
    on : In x (reverse_aux d (a ∷ l)) ↔ (In x d ⊎ In x (a ∷ l)) → In x (reverse_aux d (a ∷ l)) ↔ (In x (a ∷ d) ⊎ In x l)
    on r = (
      (λ i. ⊎_elim (λ j. inl (inr j)) (⊎_elim (λ e. inl (inl e)) inr) (r.0 i)),
      ⊎_elim (⊎_elim (λ e. r.1 (inr (inl e))) (λ i. r.1 (inl i))) (λ i. r.1 (inr (inr i))),
    )

module _ {z : Sizes} (m : Mem z) (row request room : ℕ) (accepted : NoneOf (vacuum_lines m row request room)) (h : ℕ) (l d k : List ℕ) (whole : WholeChain m row (h ∷ l)) (dead : DeadOf m (horizon m request) l d) (kept : KeptOf m row request room l k) where
  abbrev hz : ℕ
  hz = horizon m request

  abbrev after : Mem z
  after = (vacuum_out m row request room).after

  abbrev pub dead_is : (x : ℕ) → In x d ↔ (In x l × Reclaimable hz (version_at m.cells x))
  dead_is = W.dead_are_exactly_the_reclaimable m row request room accepted h l d k whole dead kept

  abbrev kept_is : (x : ℕ) → In x k ↔ (In x l × (Reclaimable hz (version_at m.cells x) → ⊥))
  kept_is = W.kept_are_exactly_the_others m row request room accepted h l d k whole dead kept

  once : Once (h ∷ l)
  once = chain_passes_each_cell_once (size_n m) (version_at m.cells) (h ∷ l) (head_at m row) whole.way

  fitting : Fitting m (size_r m) (size_n m)
  fitting = store_fits m accepted.0

  rest_kept : ((c : ℕ) → (In c (h ∷ l) → ⊥) → cell_at after.cells c ≡ cell_at m.cells c) × (after.rows ≡ m.rows) × (after.slots ≡ m.slots) × ((j : ℕ) → j ≢ FREE → get_or after.meta j 0 ≡ get_or m.meta j 0)
  rest_kept = W.vacuum_keeps_the_rest m row request room accepted h l d k whole dead kept

  -- ---- the chain before and after
  pub chain_before : reachable (image_of m) (head_at m row) ≡ h ∷ l
  chain_before = reachable_is_the_chain (image_of m) (size_n m) (head_at m row) ∙ ap (λ (c : Chain). c.cells) (is_chain (size_n m) (version_at m.cells) (size_n m) (head_at m row) (h ∷ l) ends (whole.way, whole.within))

  pub chain_after : reachable (image_of after) (head_at after row) ≡ h ∷ k
  chain_after = reachable_is_the_chain (image_of after) (size_n after) (head_at after row) ∙ ap (λ (c : Chain). c.cells) (W.vacuum_leaves_the_chain_without_them m row request room accepted h l d k whole dead kept)

  pub along_is_here : h ∷ l ≡ (chain (size_n m) (version_at m.cells) (size_n m) (head_at m row)).cells
  along_is_here = sym (ap (λ (c : Chain). c.cells) (is_chain (size_n m) (version_at m.cells) (size_n m) (head_at m row) (h ∷ l) ends (whole.way, whole.within)))

  along_after : Along (version_at after.cells) (version_at after.cells h).next.0 k 0
  along_after = (ended_chain after row (h ∷ k) (W.vacuum_leaves_the_chain_without_them m row request room accepted h l d k whole dead kept)).way.along.1

  left_in_chain : (c : ℕ) → In c (h ∷ k) → In c (h ∷ l)
  left_in_chain c (inl e) = inl e
  left_in_chain c (inr i) = inr ((kept_is c).0 i).0

  left_is_not_removed : (c : ℕ) → In c (h ∷ k) → In c d → ⊥
  left_is_not_removed c (inl e) i = once.0 (subst (λ (y : ℕ). In y l) e ((dead_is c).0 i).0)
  left_is_not_removed c (inr j) i = ((kept_is c).0 j).1 ((dead_is c).0 i).1

  in_left : (c : ℕ) → In c (h ∷ l) → (In c d → ⊥) → In c (h ∷ k)
  in_left c (inl e) n = inl e
  in_left c (inr i) n = inr ((kept_is c).1 (i, λ r. n ((dead_is c).1 (i, r))))

  -- vacuum_row_acquired.13: the chain after is the chain before without the removed
  pub vacuum_row_acquired_leaves_the_others : (x : ℕ) → In x (reachable (image_of after) (head_at after row)) ↔ (In x (reachable (image_of m) (head_at m row)) × (In x d → ⊥))
  vacuum_row_acquired_leaves_the_others x = rw (chain_before, chain_after) ((λ i. (left_in_chain x i, left_is_not_removed x i)), λ p. in_left x p.0 p.1)

  -- vacuum_row_acquired.14: removed are exactly the eligible of the chain but for the head
  pub vacuum_row_acquired_removes_eligible_only : (x : ℕ) → In x d ↔ (In x (reachable (image_of m) (head_at m row)) × (x ≢ head_at m row) × Eligible (version_at m.cells x) hz)
  vacuum_row_acquired_removes_eligible_only x =
      let r : head_at m row ≡ h = whole.way.along.0 in
      rw (chain_before, r) (
        (λ i. let q = (dead_is x).0 i in (inr q.0, (λ e. once.0 (subst (λ (y : ℕ). In y l) e q.0)), q.1)),
        (λ p. ⊎_elim (λ e. absurd (p.1 e)) (λ i. (dead_is x).1 (i, p.2)) p.0),
      )

  -- ---- what is kept of the versions
  pub kept_data : (c : ℕ) → (In c d → ⊥) → DataSame (version_at m.cells c) (version_at after.cells c)
  kept_data c n =
      in_or_not c (h ∷ l)
      (λ i. let q = W.vacuum_keeps_all_but_next m row request room accepted h l d k whole dead kept c (in_left c i n) in same_but_next _ _ q.0 q.1)
      (λ i. same_data _ _ (ap version_of (rest_kept.0 c i)))

  -- safe_result.2: `metadata_same`, but for the reclaimed, which are cleared
  pub vacuum_row_acquired_metadata_same_but_reclaimed : MetadataSameBut d (image_of m) (image_of after)
  vacuum_row_acquired_metadata_same_but_reclaimed =
      record {
        heads = λ r. ap (λ (y : List ℕ). get_or y r 0) (sym rest_kept.1);
        capacity = sym (rest_kept.3 ROWS (λ e. omega arith));
        cells = sym (rest_kept.3 CELLS (λ e. omega arith));
        rows = λ p e n. kept_data p n;
        cleared = W.vacuum_clears_what_it_removes m row request room accepted h l d k whole dead kept;
      }

  -- where 000's own clause holds: exactly where nothing is reclaimed
  pub metadata_same_where_nothing_is_reclaimed : d ≡ [] → MetadataSame (image_of m) (image_of after)
  metadata_same_where_nothing_is_reclaimed e =
      let q = vacuum_row_acquired_metadata_same_but_reclaimed in
      record { heads = q.heads; capacity = q.capacity; cells = q.cells; rows = λ p st. q.rows p st (λ i. subst (In p) e i) }

  pub metadata_differs_at_the_reclaimed : (c : ℕ) → In c d → MetadataSame (image_of m) (image_of after) → ⊥
  metadata_differs_at_the_reclaimed c i q =
      let p = (dead_is c).0 i in
      let o = all_in (CellOf (size_n m)) (h ∷ l) whole.way.cells c (inr p.0) in
      let s = q.rows c (holds_true _ (is_cell_lem (size_n m) c) o) in
      p.1.superseded (ap (λ (x : TxId). x.0) s.xmax ∙ ap (λ (v : Version). v.xmax.0) (vacuum_row_acquired_metadata_same_but_reclaimed.cleared c i))

  -- metadata_same.3: a rank of the image before is one of the image after
  pub vacuum_row_acquired_keeps_the_rank : (v : ImageValid (image_of m)) → (p : ℕ) → stored (image_of m) p ≡ true → (version_at after.cells p).next.0 ≢ 0 → v.rank (version_at after.cells p).next.0 < v.rank p
  vacuum_row_acquired_keeps_the_rank v p st n =
      in_or_not p (h ∷ l)
      (λ i. in_or_not p d
      (λ j. absurd (n (ap (λ (w : Version). w.next.0) (W.vacuum_clears_what_it_removes m row request room accepted h l d k whole dead kept p j))))
      (λ j. falling_next (version_at after.cells) v.rank (h ∷ k) h kept_fall (refl, along_after) p (in_left p i j) n))
      (λ i. let e = ap (λ (w : List ℕ). (version_of w).next.0) (rest_kept.0 p i) in subst (λ (y : ℕ). v.rank y < v.rank p) (sym e) (v.falls p st (λ o. n (e ∙ o))))
    where
      is_stored : (c : ℕ) → In c (h ∷ l) → stored (image_of m) c ≡ true
      is_stored c i = holds_true _ (is_cell_lem (size_n m) c) (all_in (CellOf (size_n m)) (h ∷ l) whole.way.cells c i)

      fall : Falling v.rank (h ∷ l)
      fall =
          falling_along (version_at m.cells) v.rank (h ∷ l) h
          (in_all (λ c. (version_at m.cells c).next.0 ≢ 0 → v.rank (version_at m.cells c).next.0 < v.rank c) (h ∷ l) (λ c i. v.falls c (is_stored c i)))
          (in_all (λ c. c ≢ 0) (h ∷ l) (λ c i e. omega (arith, (all_in (CellOf (size_n m)) (h ∷ l) whole.way.cells c i).low, e)))
          (refl, whole.way.along.1)

      kept_fall : Falling v.rank (h ∷ k)
      kept_fall = (in_all (λ c. v.rank c < v.rank h) k (λ c i. all_in (λ c. v.rank c < v.rank h) l fall.0 c ((kept_is c).0 i).0), falling_picked v.rank (λ c. Reclaimable hz (version_at m.cells c) → ⊥) l k kept fall.1)

  -- vacuum_row_acquired.15: what is left behind the head is not eligible
  pub vacuum_row_acquired_leaves_none_eligible : (x : ℕ) → In x (reachable (image_of after) (head_at after row)) → x ≢ head_at after row → Eligible (version_at after.cells x) hz → ⊥
  vacuum_row_acquired_leaves_none_eligible x i n e =
      let r : head_at after row ≡ h = ap (λ (y : List ℕ). get_or y row 0) rest_kept.1 ∙ whole.way.along.0 in
      on (subst (In x) chain_after i) (subst (λ (y : ℕ). x ≢ y) r n)
    where
      on : In x (h ∷ k) → x ≢ h → ⊥
      on (inl q) g = g q
      on (inr q) g =
          let w = kept_data x (left_is_not_removed x (inr q)) in
          ((kept_is x).0 q).1 (record {
            superseded = λ y. e.superseded (ap (λ (a : TxId). a.0) (sym w.xmax) ∙ y);
            below = subst (λ (a : TxId). a.0 < hz) (sym w.xmax) e.below;
            free = w.locked ∙ e.free;
          })

  -- ---- the first seen version, for a rule that does not look at next and does not see what is eligible
  module _ (see : Version → Bool) (same : (v w : Version) → DataSame v w → see v ≡ see w) (unseen : (c : ℕ) → In c l → Eligible (version_at m.cells c) hz → see (version_at m.cells c) ≡ false) where
    -- safe_result.3
    pub vacuum_row_acquired_first_visible_same : first_seen see (image_of m) (head_at m row) ≡ first_seen see (image_of after) (head_at after row)
    unfolding first
    vacuum_row_acquired_first_visible_same =
        let at = version_at m.cells in
        let at' = version_at after.cells in
        let e : (c : ℕ) → In c (h ∷ k) → see (at' c) ≡ see (at c) = λ c i. sym (same (at c) (at' c) (kept_data c (left_is_not_removed c i))) in
        let g : first (λ c. see (at' c)) k ≡ first (λ c. see (at c)) l = first_without (λ c. see (at c)) (λ c. see (at' c)) (λ c. Reclaimable hz (at c)) l k kept unseen (λ c i. e c (inr i)) in
        rw (chain_before, chain_after, e h (inl refl), g)

    -- safe_result.8: no removed version was the first seen
    pub vacuum_row_acquired_removed_was_not_seen : (x : ℕ) → In x d → first_seen see (image_of m) (head_at m row) ≢ some x
    vacuum_row_acquired_removed_was_not_seen x i e =
        let q = (dead_is x).0 i in
        no_both (see (version_at m.cells x)) (first_in (λ c. see (version_at m.cells c)) (reachable (image_of m) (head_at m row)) x e).1 (unseen x q.0 q.1)

    -- vacuum_row_acquired.10, of the chain: down to the first seen nothing is removed, and next is the same but for the first seen itself
    pub vacuum_row_acquired_prefix_is_kept : PrefixIneligible see (image_of m) row hz → (p : ℕ) → In p (prefix see (image_of m) (head_at m row)) → (In p d → ⊥) × (first_seen see (image_of m) (head_at m row) ≢ some p → (version_at m.cells p).next ≡ (version_at after.cells p).next)
    vacuum_row_acquired_prefix_is_kept q p i = (
      (λ j. q.kept p i ((dead_is p).0 j).1),
      (λ n. ap at (next_same_above see (version_at m.cells) (version_at after.cells) (λ c. Reclaimable hz (version_at m.cells c)) h l k whole.way.along.1 along_after kept (rw chain_before at q.kept) p (rw chain_before at i) (rw chain_before at n))),
    )

  -- ---- reports
  -- vacuum_row_acquired.12: each report is of a removed version. That each removed one is reported, once, newest first, stands in the rules
  -- (VacuumRemoves.antt)
  pub vacuum_row_acquired_report_provenance : ReportProvenance (image_of m) d (vacuum_out m row request room).front
  vacuum_row_acquired_report_provenance = rw (W.vacuum_reports_each_in_chain_order m row request room accepted h l d k whole dead kept) (each d (λ x i. i))
    where
      each : (e : List ℕ) → ((x : ℕ) → In x e → In x d) → All (λ (q : List ℕ). (p : ℕ) × In p d × (q ≡ p ∷ (version_at m.cells p).keyed ∷ (version_at m.cells p).key ∷ [])) (map (λ c. c ∷ (version_at m.cells c).keyed ∷ (version_at m.cells c).key ∷ []) e)
      each [] f = tt
      each (c ∷ e) f = ((c, f c (inl refl), refl), each e (λ x i. f x (inr i)))

  -- vacuum_row_acquired.12 as 000 has it: each of our reports, with the call's row and the live head's value of its answer, is 000's report
  pub vacuum_row_acquired_reports_as_upstream : ReclaimedProvenance (image_of m) d (map (reclaimed_of row (value_of (version_at m.cells h))) (vacuum_out m row request room).front) row
  vacuum_row_acquired_reports_as_upstream =
      let r : head_at m row ≡ h = whole.way.along.0 in
      rw (W.vacuum_reports_each_in_chain_order m row request room accepted h l d k whole dead kept, r) (each d (λ x i. i))
    where
      each : (e : List ℕ) → ((x : ℕ) → In x e → In x d) → All (λ (q : Reclaimed). (q.row ≡ row) × (q.live ≡ some (up.value_of (version_at m.cells h))) × ((p : ℕ) × In p d × (stored (image_of m) p ≡ true) × (up.value_of (version_at m.cells p) ≡ q.value))) (map (reclaimed_of row (value_of (version_at m.cells h))) (map (λ c. c ∷ (version_at m.cells c).keyed ∷ (version_at m.cells c).key ∷ []) e))
      each [] f = tt
      each (c ∷ e) f = (
        (refl, live_is (version_at m.cells h), (c, f c (inl refl), holds_true _ (is_cell_lem (size_n m) c) (all_in (CellOf (size_n m)) (h ∷ l) whole.way.cells c (inr ((dead_is c).0 (f c (inl refl))).0)), refl)),
        each e (λ x i. f x (inr i)),
      )

  -- vacuum_row_acquired.11: as many removed as reported
  pub vacuum_row_acquired_counts_its_reports : length (vacuum_out m row request room).front ≡ length d
  vacuum_row_acquired_counts_its_reports = W.vacuum_counts_its_reports m row request room accepted h l d k whole dead kept

  -- ---- the recycled cells: the free list
  module _ (fl : List ℕ) (frees : FreeList m fl) (apart : (x : ℕ) → In x fl → In x (h ∷ l) → ⊥) where
    after_is : after ≡ give_all d (with_cells m (relink (h ∷ k) m.cells))
    after_is = ap (λ (o : Outcome z Answer (List ℕ)). o.after) (((vacuum_meets m row request room).accepted accepted).sweeps h l d k whole dead kept)

    has : (c : ℕ) → In c (h ∷ l) → HasCell m.cells c
    has c i = let o = all_in (CellOf (size_n m)) (h ∷ l) whole.way.cells c i in record { low = o.low; high = omega (arith, o.high, fitting.cells) }

    linked_frees : FreeList (with_cells m (relink (h ∷ k) m.cells)) fl
    linked_frees =
        free_agree m.cells (relink (h ∷ k) m.cells) fl _
        (in_all _ fl (λ c i. ap (λ (w : List ℕ). get_or w 7 0) (sym (relink_else (h ∷ k) m.cells (in_all _ (h ∷ k) (λ x j. (has x (left_in_chain x j)).low)) c (λ j. apart c i (left_in_chain c j))))))
        frees

    -- the free list after: the removed, the last given back first, before what was free
    pub vacuum_row_acquired_recycles : FreeList after (reverse_aux d fl)
    vacuum_row_acquired_recycles =
        rw after_is
        (give_all_in_front d (with_cells m (relink (h ∷ k) m.cells)) fl (omega (arith, fitting.metas))
        (in_all _ d (λ c i. let q = has c (inr ((dead_is c).0 i).0) in record { low = q.low; high = rw (relink_length (h ∷ k) m.cells) q.high }))
        (W.vacuum_reports_each_once m row request room accepted h l d k whole dead kept)
        (λ c i j. apart c j (inr ((dead_is c).0 i).0))
        linked_frees)

  -- safe_result.5: what is free after is not in the chain after
  pub free_or_left : (fl : List ℕ) → ((x : ℕ) → In x fl → In x (h ∷ l) → ⊥) → (x : ℕ) → In x (reverse_aux d fl) → In x (reachable (image_of after) (head_at after row)) → ⊥
  free_or_left fl apart x i j =
      let j' : In x (h ∷ k) = subst (In x) chain_after j in
      ⊎_elim (λ q. left_is_not_removed x j' q) (λ q. apart x q (left_in_chain x j')) ((in_turned x d fl).0 i)
