-- 000, `vacuum_row_acquired`, of every reachable store and every open reader at once, accepted or refused: `safe_result` and
-- `prefix_preserved`, under 01's rule and under 000's own. A reader with prepared writes, which 000's `admissible` leaves out, is no
-- exception.
use Rattle.std.specs.Prelude.{ℕ, ◌<◌, ◌≤◌, Bool, true, false, ◌≡◌, refl, ◌≢◌}
use mathlib.Core.List.{List, [], ◌∷◌, reverse_aux}
use Rattle.std.proofs.Math.Option.{some}
use Rattle.std.proofs.Common.{sym, ◌∙◌, subst, inl, inr, ⊎_elim, arith, eq-eqb, ne_eqb}
use Rattle.std.proofs.Math.Path.{ap}
use Rattle.kinds.specs.declared.Version.{Version}
use Rattle.kinds.specs.Answer.{Answer}
use Rattle.words.specs.Sizes.{Sizes, Roomy}
use Rattle.kinds.specs.Versions.{with_next, empty_version, version_at, link_at}
use Rattle.words.specs.Slots.{Slot}
use Rattle.rules.specs.Memory.{Mem, size_n, free, head_at, slot_at}
use Rattle.rules.specs.Chain.{After, ends, goes_on, broken}
use Rattle.rules.specs.Snapshot.{horizon}
use Rattle.rules.specs.Outcome.{Outcome, is_cell}
use Rattle.rules.specs.Vacuum.{vacuum_out}
use Rattle.rules.specs.Run.{vacuum, step, run}
use Rattle.rules.specs.History.{Log, log_of, who_in, rows_in, cells_in}
use Rattle.rules.specs.Reachable.{Reachable, chain_at, free_at, times, behind}
use Rattle.rules.specs.Exactly.{In, All, NoneOf}
use Rattle.rules.proofs.Exactly.{holds_true, is_not}
use Rattle.rules.specs.Terms.{CellOf}
use Rattle.rules.proofs.Terms.{is_cell_lem}
use Rattle.rules.specs.Along.{Along}
use Rattle.rules.proofs.Along.{ChainIs, chain_is}
use Rattle.rules.proofs.Theory.Cases.{by_eq}
use Rattle.rules.specs.Theory.View.{view_of}
use Rattle.rules.proofs.Theory.View.{get_slots}
use Rattle.rules.specs.Theory.Effects.{slot_v}
use Rattle.rules.specs.Theory.Counting.{cnt}
use Rattle.rules.specs.Theory.Inv.{in_slot}
use Rattle.rules.specs.Theory.Good.{Owner}
use Rattle.rules.proofs.Theory.Good.{view_open}
use Rattle.rules.specs.Theory.Steps.{hist_of}
use Rattle.rules.proofs.Theory.Never.{open_slot}
use Rattle.rules.proofs.Theory.ReadLaw.{reachable_sound}
use Rattle.rules.proofs.Theory.VacuumCall.{horizon_under}
use Rattle.rules.proofs.Members.{all_in, in_all}
use Rattle.rules.specs.HandedOut.{FreeFrom, FreeList}
use Rattle.rules.specs.VacuumRefuses.{Reclaimable}
use Rattle.rules.proofs.VacuumRefuses.{is_reclaimable, keep_picks, WholeChain, DeadOf, vacuum_lines, vacuum_refuses_exactly}
use Rattle.rules.proofs.OneOutcome.{KeptOf, vacuum_walks}
use Rattle.rules.proofs.VacuumRemoves.{vacuum_of_an_empty_row}
use Rattle.rules.proofs.Demand3.{calls_lead_to_reachable_stores, free_list_ends, chained_cell_is_nowhere_else, vacuum_removes_nothing_that_a_reader_sees, sizes_are_the_creations, slot_has_the_open_id}
use Rattle.upstream.specs.Images.{image_of, Snapshot, snapshot}
use Rattle.upstream.specs.Seen.{first_visible, reachable}
use Rattle.upstream.proofs.Standing.{reachable_alive, chained_version_is_of_nobody_open, reachable_image_is_valid, open_snapshot_is_well_formed}
use Rattle.upstream.specs.RetentionTerms.{Eligible, SnapshotWellFormed, Admissible, DataSame, state_of, Newly, first_seen, prefix, PrefixIneligible, PrefixPreserved, SafeResult}
use Rattle.upstream.specs.Protected.{sees01, sees000}
use Rattle.upstream.proofs.Protected.{sees01_same, sees000_same, eligible_is_not_seen, eligible_is_not_seen_under_000}
use Rattle.upstream.proofs.Reading.{reachable_is_the_chain}
use Rattle.upstream.proofs.Chains.{first_visible_is_first_seen, down_to_in}
use Rattle.upstream.proofs.Vacuums.{same_data, in_turned}
use Rattle.rules.specs.Reachable as Reach
use Rattle.upstream.proofs.Vacuums as W

-- ---- of any memory and any snapshot that the horizon protects
module _ {z : Sizes} (m : Mem z) (row request room : ℕ) (accepted : NoneOf (vacuum_lines m row request room)) (h : ℕ) (l d k : List ℕ) (whole : WholeChain m row (h ∷ l)) (dead : DeadOf m (horizon m request) l d) (kept : KeptOf m row request room l k) where
  abbrev next : Mem z
  next = (vacuum_out m row request room).after

  -- under 01's rule, two of the three premises of `admissible`
  pub protected_reader_sees_the_same : (t : Slot) → SnapshotWellFormed (snapshot t) → horizon m request ≤ t.low → first_seen (sees01 t) (image_of m) (head_at m row) ≡ first_seen (sees01 t) (image_of next) (head_at next row)
  protected_reader_sees_the_same t f b = W.vacuum_row_acquired_first_visible_same m row request room accepted h l d k whole dead kept (sees01 t) (sees01_same t) (λ c i e. eligible_is_not_seen t (horizon m request) (version_at m.cells c) f b e)

  -- under 000's rule, all of `admissible`: 000's clause as it stands
  pub admissible_reader_sees_the_same : (t : Snapshot) → Admissible (image_of m) t (horizon m request) → first_visible (image_of m) (head_at m row) t ≡ first_visible (image_of next) (head_at next row) t
  admissible_reader_sees_the_same t a =
      first_visible_is_first_seen (image_of m) (head_at m row) t
      ∙ W.vacuum_row_acquired_first_visible_same m row request room accepted h l d k whole dead kept (sees000 t) (sees000_same t)
      (λ c i e. eligible_is_not_seen_under_000 t (horizon m request) (version_at m.cells c) a.formed a.below (a.foreign c (holds_true _ (is_cell_lem (size_n m) c) (all_in (CellOf (size_n m)) (h ∷ l) whole.way.cells c (inr i)))) e)
      ∙ sym (first_visible_is_first_seen (image_of next) (head_at next row) t)

-- ---- the free list
free_along : (n : ℕ) (cs : List (List ℕ)) (l : List ℕ) (p : ℕ) → Along (λ c. with_next empty_version (link_at cs c)) p l 0 → All (CellOf n) l → FreeFrom cs p l
free_along n cs [] p a h = a
free_along n cs (c ∷ l) p a h = (a.0, ((λ e. omega (arith, h.0.low, e)), free_along n cs l (link_at cs c) a.1 h.1))

-- a memory has one free list
free_one : (cs : List (List ℕ)) (l r : List ℕ) (p : ℕ) → FreeFrom cs p l → FreeFrom cs p r → l ≡ r
free_one cs [] [] p a b = refl
free_one cs [] (y ∷ r) p a b = absurd (b.1.0 (sym b.0 ∙ a))
free_one cs (x ∷ l) [] p a b = absurd (a.1.0 (sym a.0 ∙ b))
free_one cs (x ∷ l) (y ∷ r) p a b =
    let e : y ≡ x = sym b.0 ∙ a.0 in
    let i = free_one cs l r (link_at cs x) a.1.1 (subst (λ (w : ℕ). FreeFrom cs (link_at cs w) r) e b.1.1) in
    rw (e, i)

pub in_times : (x : ℕ) (l : List ℕ) → In x l → times x l ≢ 0
unfolding times
in_times x [] i e = i
in_times x (y ∷ l) i e = by_eq x y
    (λ q. let g : _ ≡ 0 = rw (eq-eqb x y q) at e in omega arith)
    (λ q. in_times x l (later q i) (rw (ne_eqb x y q) at e))
  where
    later : x ≢ y → In x (y ∷ l) → In x l
    later q (inl e) = absurd (q e)
    later q (inr j) = j

-- a property of every member, of one
pub all_at : {A : Type 0} (P : A → Type 0) (l : List A) → Reach.All P l → (x : A) → In x l → P x
all_at P [] h x i = absurd i
all_at P (a ∷ l) h x (inl e) = rw e h.0
all_at P (a ∷ l) h x (inr i) = all_at P l h.1 x i

module _ {z : Sizes} (rm : Roomy z) (m : Mem z) (l : Log) (rc : Reachable m l) where
  pub free_list_is_spelled : FreeList m (free_at m).cells
  free_list_is_spelled =
      let f : ℕ → Version = λ c. with_next empty_version (link_at m.cells c) in
      let i : ChainIs (size_n m) f (size_n m) (free m) (free_at m).cells ends = subst (ChainIs (size_n m) f (size_n m) (free m) (free_at m).cells) (free_list_ends rm m l rc) (chain_is (size_n m) f (size_n m) (free m)) in
      free_along (size_n m) m.cells (free_at m).cells (free m) i.0.along i.0.cells

  -- vacuum_row_acquired.5 is met: no free cell is in a chain
  pub no_free_cell_is_reachable : (row : ℕ) → row < rows_in l → (x : ℕ) → In x (free_at m).cells → In x (chain_at m row).cells → ⊥
  no_free_cell_is_reachable row in_r x i j = in_times x (free_at m).cells i (chained_cell_is_nowhere_else rm m l rc row x in_r (in_times x (chain_at m row).cells j)).unfree

-- ---- open readers and the horizon
in_behind : (c : ℕ) (l : List ℕ) → In c (behind l) → In c l
in_behind c [] i = i
in_behind c (x ∷ l) i = inr i

module _ {z : Sizes} (rm : Roomy z) (m : Mem z) (l : Log) (rc : Reachable m l) (s : ℕ) (op : who_in l s ≢ 0) where
  abbrev t : Slot
  t = slot_at m s

  owns : Owner m s (who_in l s)
  owns = open_slot (rows_in l) (cells_in l) m (hist_of l) (reachable_sound rm m l rc) s (who_in l s) op refl

  abbrev at_slot : slot_v (view_of m) s ≡ slot_at m s
  at_slot = get_slots z m.slots s owns.slot

  -- two of the three premises of `admissible` hold of every open reader, at every request
  pub open_snapshot_is_protected : (request : ℕ) → SnapshotWellFormed (snapshot t) × (horizon m request ≤ t.low)
  open_snapshot_is_protected request =
      let k = open_snapshot_is_well_formed rm m l rc s op in (
        record { real = k.0; lowest = k.1; early = k.2; active = in_all _ t.active (λ x i. all_at _ t.active k.3 x i) },
        subst (λ (y : Slot). horizon m request ≤ y.low) at_slot (horizon_under m request s (view_open m s (who_in l s) owns)),
      )

  -- no version of a chain is the reader's own
  pub chained_is_foreign : (row : ℕ) → row < rows_in l → (c : ℕ) → In c (chain_at m row).cells → (version_at m.cells c).xmin.0 ≢ t.id
  chained_is_foreign row in_r c i e = chained_version_is_of_nobody_open rm m l rc row c s in_r (in_times c (chain_at m row).cells i) op (e ∙ slot_has_the_open_id rm m l rc s owns.slot)

  -- the third holds where the reader has prepared no write ..
  pub reader_without_writes_is_admissible : t.writes ≡ [] → (request : ℕ) → Admissible (image_of m) (snapshot t) (horizon m request)
  unfolding cnt
  reader_without_writes_is_admissible bare request =
      let k = open_snapshot_is_protected request in
      record {
        formed = k.0;
        below = k.1;
        foreign = λ p st e.
            let c = (is_cell_lem (size_n m) p).yes st in
            let n = (sizes_are_the_creations rm m l rc).1 in
            (reachable_alive rm m l rc).own p s (λ o. omega (arith, c.low, o)) (omega (arith, c.high, n)) (view_open m s (who_in l s) owns) (e ∙ ap (λ (y : Slot). y.id) (sym at_slot)) (subst (λ (y : Slot). in_slot p y ≡ 0) (sym at_slot) (unwritten p));
      }
    where
      unwritten : (p : ℕ) → in_slot p t ≡ 0
      unwritten p = rw bare

-- ---- one vacuum
module _ {z : Sizes} (rm : Roomy z) (m : Mem z) (l : Log) (rc : Reachable m l) where
  module _ (row request room : ℕ) (in_r : row < rows_in l) where
    abbrev after : Mem z
    after = (vacuum_out m row request room).after

    abbrev hz : ℕ
    hz = horizon m request

    -- the store after is reachable too
    abbrev log' : Log
    log' = log_of (vacuum row request room ∷ []) (run (vacuum row request room ∷ []) m).0 l

    after_is_reachable : Reachable after log'
    unfolding run step
    after_is_reachable = calls_lead_to_reachable_stores m l rc (vacuum row request room ∷ [])

    -- an accepted vacuum of a row that has a version: its chain is h and then tl
    module _ (accepted : NoneOf (vacuum_lines m row request room)) (h : ℕ) (tl d k : List ℕ) (whole : WholeChain m row (h ∷ tl)) (dead : DeadOf m hz tl d) (kept : KeptOf m row request room tl k) where
      abbrev chain_is_here : (chain_at m row).cells ≡ h ∷ tl
      chain_is_here = sym (W.along_is_here m row request room accepted h tl d k whole dead kept)

      apart : (x : ℕ) → In x (free_at m).cells → In x (h ∷ tl) → ⊥
      apart x i j = no_free_cell_is_reachable rm m l rc row in_r x i (subst (In x) (sym chain_is_here) j)

      -- the free list after: the removed, the last given back first, before what was free
      pub vacuum_row_acquired_free_list_after : (free_at after).cells ≡ reverse_aux d (free_at m).cells
      vacuum_row_acquired_free_list_after =
          free_one after.cells (free_at after).cells (reverse_aux d (free_at m).cells) (free after)
          (free_list_is_spelled rm after log' after_is_reachable)
          (W.vacuum_row_acquired_recycles m row request room accepted h tl d k whole dead kept (free_at m).cells (free_list_is_spelled rm m l rc) apart)

      -- newly recycled is removed, and the other way round
      pub newly_is_removed : (x : ℕ) → (Newly (state_of m) (state_of after) x → In x d) × (In x d → Newly (state_of m) (state_of after) x)
      newly_is_removed x = (
        (λ n. ⊎_elim (λ i. i) (λ i. absurd (n.1 i)) ((in_turned x d (free_at m).cells).0 (subst (In x) vacuum_row_acquired_free_list_after n.0))),
        (λ i. (
          subst (In x) (sym vacuum_row_acquired_free_list_after) ((in_turned x d (free_at m).cells).1 (inl i)),
          λ j. apart x j (inr ((W.dead_is m row request room accepted h tl d k whole dead kept x).0 i).0),
        )),
      )

      -- safe_result and prefix_preserved, for any rule that does not look at next and does not see what is eligible
      module _ (see : Version → Bool) (same : (v w : Version) → DataSame v w → see v ≡ see w) (unseen : (c : ℕ) → In c tl → Eligible (version_at m.cells c) hz → see (version_at m.cells c) ≡ false) where
        pub swept_is_safe : SafeResult see (state_of m) (state_of after) row d
        swept_is_safe =
            let gone : (x : ℕ) → Newly (state_of m) (state_of after) x → In x (reachable (image_of m) (head_at m row)) × (x ≢ head_at m row) × Eligible (version_at m.cells x) hz = λ x n. (W.vacuum_row_acquired_removes_eligible_only m row request room accepted h tl d k whole dead kept x).0 ((newly_is_removed x).0 n) in
            record {
              reclaimed = λ x. ((newly_is_removed x).1, (newly_is_removed x).0);
              valid = reachable_image_is_valid rm after log' after_is_reachable;
              same = W.vacuum_row_acquired_metadata_same_but_reclaimed m row request room accepted h tl d k whole dead kept;
              first = W.vacuum_row_acquired_first_visible_same m row request room accepted h tl d k whole dead kept see same unseen;
              grows = λ x i. subst (In x) (sym vacuum_row_acquired_free_list_after) ((in_turned x d (free_at m).cells).1 (inr i));
              apart = λ x i j. W.free_or_left m row request room accepted h tl d k whole dead kept (free_at m).cells apart x (subst (In x) vacuum_row_acquired_free_list_after i) j;
              was = λ x n. (gone x n).0;
              unlocked = λ x n. (gone x n).2.free;
              unseen = λ x n. W.vacuum_row_acquired_removed_was_not_seen m row request room accepted h tl d k whole dead kept see same unseen x ((newly_is_removed x).0 n);
            }

        pub swept_keeps_the_prefix : PrefixIneligible see (image_of m) row hz → PrefixPreserved see (state_of m) (state_of after) row
        swept_keeps_the_prefix q =
            let keep : (p : ℕ) → In p (prefix see (image_of m) (head_at m row)) → (In p d → ⊥) × (first_seen see (image_of m) (head_at m row) ≢ some p → (version_at m.cells p).next ≡ (version_at after.cells p).next) =
            W.vacuum_row_acquired_prefix_is_kept m row request room accepted h tl d k whole dead kept see same unseen q in
            let inChain : (p : ℕ) → In p (prefix see (image_of m) (head_at m row)) → In p (h ∷ tl) =
            λ p i. subst (In p) (W.chain_before m row request room accepted h tl d k whole dead kept) (down_to_in see (version_at m.cells) (reachable (image_of m) (head_at m row)) p i) in
            record {
              apart = λ p i j. ⊎_elim (keep p i).0 (λ f. apart p f (inChain p i)) ((in_turned p d (free_at m).cells).0 (subst (In p) vacuum_row_acquired_free_list_after j));
              stands = λ p i. subst (λ (n : ℕ). is_cell n p ≡ true) (W.vacuum_row_acquired_metadata_same_but_reclaimed m row request room accepted h tl d k whole dead kept).cells (holds_true _ (is_cell_lem (size_n m) p) (all_in (CellOf (size_n m)) (h ∷ tl) whole.way.cells p (inChain p i)));
              same = λ p i. W.kept_data m row request room accepted h tl d k whole dead kept p (keep p i).0;
              next = λ p i. (keep p i).1;
            }

    -- ---- in every case: accepted, accepted of a row without versions, refused
    -- what `vacuum_row_acquired` promises of both answers, of one reader; d are the cells removed
    pub record Safe (see : Version → Bool) (b : Mem z) : Type 0 where
      pub removed : List ℕ
      pub result : SafeResult see (state_of m) (state_of b) row removed
      pub preserved : PrefixIneligible see (image_of m) row hz → PrefixPreserved see (state_of m) (state_of b) row

    in_chain : (x : ℕ) → In x (reachable (image_of m) (head_at m row)) → In x (chain_at m row).cells
    in_chain x i = subst (In x) (reachable_is_the_chain (image_of m) (size_n m) (head_at m row)) i

    -- nothing changed
    still_safe : (see : Version → Bool) → Safe see m
    still_safe see =
        record {
          removed = [];
          result =
              record {
                reclaimed = λ x. ((λ i. absurd i), λ n. absurd (n.1 n.0));
                valid = reachable_image_is_valid rm m l rc;
                same = record { heads = λ r. refl; capacity = refl; cells = refl; rows = λ p e n. same_data _ _ refl; cleared = λ p i. absurd i };
                first = refl;
                grows = λ x i. i;
                apart = λ x i j. no_free_cell_is_reachable rm m l rc row in_r x i (in_chain x j);
                was = λ x n. absurd (n.1 n.0);
                unlocked = λ x n. absurd (n.1 n.0);
                unseen = λ x n. absurd (n.1 n.0);
              };
          preserved = λ q.
              record {
                apart = λ p i j. no_free_cell_is_reachable rm m l rc row in_r p j (in_chain p (down_to_in see (version_at m.cells) _ p i));
                stands = λ p i. holds_true _ (is_cell_lem (size_n m) p) (chain_cells (in_chain p (down_to_in see (version_at m.cells) _ p i)));
                same = λ p i. same_data _ _ refl;
                next = λ p i n. refl;
              };
        }
      where
        chain_cells : {p : ℕ} → In p (chain_at m row).cells → CellOf (size_n m) p
        chain_cells {p} i = all_in (CellOf (size_n m)) (chain_at m row).cells (way_cells (chain_at m row).after (chain_is (size_n m) (version_at m.cells) (size_n m) (head_at m row))) p i
          where
            way_cells : (a : After) → ChainIs (size_n m) (version_at m.cells) (size_n m) (head_at m row) (chain_at m row).cells a → All (CellOf (size_n m)) (chain_at m row).cells
            way_cells ends i = i.0.cells
            way_cells goes_on i = i.1.cells
            way_cells broken i = i.1.cells

    module _ (see : Version → Bool) (same : (v w : Version) → DataSame v w → see v ≡ see w) (unseen : (c : ℕ) → In c (behind (chain_at m row).cells) → Eligible (version_at m.cells c) hz → see (version_at m.cells c) ≡ false) where
      still : after ≡ m → Safe see after
      still e = subst (Safe see) (sym e) (still_safe see)

      walked : NoneOf (vacuum_lines m row request room) → (c : List ℕ) → WholeChain m row c → Safe see after
      walked a [] w = still (ap (λ (o : Outcome z Answer (List ℕ)). o.after) (vacuum_of_an_empty_row m row request room a w.way.along))
      walked a (h ∷ tl) w =
          let p = keep_picks _ (λ c. Reclaimable hz (version_at m.cells c)) (λ c. is_reclaimable hz (version_at m.cells c)) tl in
          let q = keep_picks _ (λ c. Reclaimable hz (version_at m.cells c) → ⊥) (λ c. is_not _ (is_reclaimable hz (version_at m.cells c))) tl in
          let e : (chain_at m row).cells ≡ h ∷ tl = sym (W.along_is_here m row request room a h tl _ _ w p q) in
          let u : (c : ℕ) → In c tl → Eligible (version_at m.cells c) hz → see (version_at m.cells c) ≡ false = λ c i. unseen c (rw e i) in
          record { removed = _; result = swept_is_safe a h tl _ _ w p q see same u; preserved = swept_keeps_the_prefix a h tl _ _ w p q see same u }

      safe_for : Safe see after
      safe_for = ⊎_elim
          (λ a. walked a (vacuum_walks m row request room a).0 (vacuum_walks m row request room a).1)
          (λ q. still (ap (λ (o : Outcome z Answer (List ℕ)). o.after) ((vacuum_refuses_exactly m row request room).when q.0 q.1 q.2)))
          (vacuum_refuses_exactly m row request room).decided

    -- Of every open reader, with prepared writes or without: under 01's rule
    pub vacuum_row_acquired_is_safe : (s : ℕ) → who_in l s ≢ 0 → Safe (sees01 (slot_at m s)) after
    vacuum_row_acquired_is_safe s op = safe_for (sees01 (slot_at m s)) (sees01_same (slot_at m s)) (λ c i e. vacuum_removes_nothing_that_a_reader_sees rm m l rc request c (holds_true _ (is_reclaimable hz (version_at m.cells c)) e) s op)

    -- and under 000's own
    pub vacuum_row_acquired_is_safe_under_000 : (s : ℕ) → who_in l s ≢ 0 → Safe (sees000 (snapshot (slot_at m s))) after
    vacuum_row_acquired_is_safe_under_000 s op =
        let k = open_snapshot_is_protected rm m l rc s op request in
        safe_for (sees000 (snapshot (slot_at m s))) (sees000_same (snapshot (slot_at m s)))
        (λ c i e. eligible_is_not_seen_under_000 (snapshot (slot_at m s)) hz (version_at m.cells c) k.0 k.1 (chained_is_foreign rm m l rc s op row in_r c (in_behind c (chain_at m row).cells i)) e)
