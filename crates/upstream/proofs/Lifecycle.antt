-- Upstream's clauses on slots and clock: `checked_slot`, `begin_transaction`, `end_transaction`, `snapshot_locked`, `create_snapshot`,
-- `create_transaction_snapshot`, `oldest_snapshot_xmin`.
use Prim.Native.Nat.{ℕ, zero, suc, ◌<◌, ◌≤◌, ◌+◌, min, max}
use Rattle.std.specs.Prelude.{cond, ◌≢◌, ◌≡◌, eqb, ltb, get_or, set, take, length}
use mathlib.Core.List.{List, [], ◌∷◌, ◌++◌}
use Rattle.std.proofs.Math.Path.{refl, sym, ap}
use Rattle.std.proofs.Common.{◌∙◌, arith, length-set, get_or-set_same, get_or-set_other, take-suc, eq-eqb, ne_eqb, ltb-true, ltb-false, le-ltb}
use Rattle.kinds.specs.Answer.{Answer, Done}
use Rattle.words.specs.Sizes.{Sizes, Roomy, last_id, ID, LOW}
use Rattle.words.specs.Lists.{least, greatest}
use Rattle.words.specs.Slots.{slot_of}
use Rattle.rules.specs.Memory.{Mem, size_n, clock, words_at, slot_at}
use Rattle.rules.specs.Snapshot.{occupied, snap_low, snap_top, horizon_of, horizon}
use Rattle.rules.proofs.Horizon.{least_at_most}
use Rattle.rules.specs.Begin.{ids_with, begin_words, begun}
use Rattle.rules.specs.Outcome.{Outcome, refuse, slot_tests, each}
use Rattle.rules.specs.Abort.{abort_out, abort_tests}
use Rattle.rules.specs.History.{Log, who_in, rows_in, cells_in}
use Rattle.rules.specs.Reachable.{Reachable}
use Rattle.rules.proofs.Demand3.{id_is_below_the_clock, id_is_in_one_slot, slot_has_the_open_id}
use Rattle.rules.proofs.Theory.Cases.{by_eq, by_bool}
use Rattle.rules.specs.Theory.SlotLaws.{new_slot}
use Rattle.rules.proofs.Theory.SlotLaws.{slot_opened}
use Rattle.rules.proofs.Theory.Bridge.{few_ids}
use Rattle.rules.proofs.Theory.SlotSteps.{top_is}
use Rattle.rules.proofs.Theory.Inv.{all_map}
use Rattle.rules.proofs.Theory.Guard.{guard_passed, passed_join, passed_each}
use Rattle.rules.proofs.Theory.Never.{open_slot, slot_passed, all_entered}
use Rattle.rules.specs.Theory.Steps.{hist_of}
use Rattle.rules.proofs.Theory.Steps.{Sound}
use Rattle.rules.proofs.Theory.ReadLaw.{reachable_sound}
use Rattle.upstream.specs.LifecycleTerms.{id_of, low_of, lowered, raised, active, minimum_active, maximum_active, minimum_retention, top_of, Coherent, WellFormed}
use Rattle.upstream.proofs.Standing.{open_snapshot_is_well_formed, empty_slot_has_xmin_0}

-- ---- 000's counts over the first n slots are ours over the list of the first n
occupied_more : (k : ℕ) (l : List (List ℕ)) (t : List ℕ) → occupied k (l ++ t ∷ []) ≡ cond (eqb (get_or t ID 0) 0) (occupied k l) (occupied k l ++ get_or t k 0 ∷ [])
unfolding occupied
occupied_more k [] t = by_bool (eqb (get_or t ID 0) 0) (λ e. rw e) (λ e. rw e)
occupied_more k (x ∷ l) t = by_bool (eqb (get_or x ID 0) 0)
    (λ e. rw e (occupied_more k l t))
    (λ e. rw (e, occupied_more k l t) (by_bool (eqb (get_or t ID 0) 0) (λ q. rw q) (λ q. rw q)))

least_more : (c x : ℕ) (l : List ℕ) → least c (l ++ x ∷ []) ≡ min x (least c l)
unfolding least
least_more c x [] = refl
least_more c x (y ∷ l) = omega (arith, least_more c x l)

greatest_more : (x : ℕ) (l : List ℕ) → greatest (l ++ x ∷ []) ≡ max x (greatest l)
unfolding greatest
greatest_more x [] = refl
greatest_more x (y ∷ l) = omega (arith, greatest_more x l)

module _ (ss : List (List ℕ)) where
  occupied_next : (k n : ℕ) → n < length ss → occupied k (take (suc n) ss) ≡ cond (eqb (id_of ss n) 0) (occupied k (take n ss)) (occupied k (take n ss) ++ get_or (get_or ss n []) k 0 ∷ [])
  occupied_next k n lt = ap (occupied k) (take-suc ss n [] lt) ∙ occupied_more k (take n ss) (get_or ss n [])

  pub active_is_occupied : (n : ℕ) → n ≤ length ss → active ss n ≡ occupied ID (take n ss)
  unfolding active occupied
  active_is_occupied zero le = refl
  active_is_occupied (suc n) le = rw (active_is_occupied n (omega arith)) (sym (occupied_next ID n le))

  lowered_is : (id x r : ℕ) (l : List ℕ) (c : ℕ) → r ≡ least c l → lowered id x r ≡ least c (cond (eqb id 0) l (l ++ x ∷ []))
  lowered_is id x r l c e = by_bool (eqb id 0) (λ q. rw q e)
      (λ q. rw (q, least_more c x l, ← e) (by_bool (ltb x r) (λ y. rw y (omega (arith, ltb-true x r y))) (λ y. rw y (omega (arith, ltb-false x r y)))))

  raised_is : (id r : ℕ) (l : List ℕ) → r ≡ greatest l → raised id r ≡ greatest (cond (eqb id 0) l (l ++ id ∷ []))
  raised_is id r l e = by_eq id 0
      (λ q. rw (eq-eqb id 0 q, ← e) (rw (le-ltb r id (omega arith))))
      (λ q. rw (ne_eqb id 0 q, greatest_more id l, ← e) (by_bool (ltb r id) (λ y. rw y (omega (arith, ltb-true r id y))) (λ y. rw y (omega (arith, ltb-false r id y)))))

  -- `minimum_active` is the xmin of our snapshot rule, `minimum_retention` what our horizon is taken from
  pub minimum_active_is_least : (n c : ℕ) → n ≤ length ss → minimum_active ss n c ≡ snap_low c (occupied ID (take n ss))
  unfolding minimum_active occupied least
  minimum_active_is_least zero c le = refl
  minimum_active_is_least (suc n) c le = lowered_is (id_of ss n) (id_of ss n) (minimum_active ss n c) (occupied ID (take n ss)) c (minimum_active_is_least n c (omega arith)) ∙ ap (least c) (sym (occupied_next ID n le))

  pub minimum_retention_is_least : (n c : ℕ) → n ≤ length ss → minimum_retention ss n c ≡ least c (occupied LOW (take n ss))
  unfolding minimum_retention occupied least
  minimum_retention_is_least zero c le = refl
  minimum_retention_is_least (suc n) c le = lowered_is (id_of ss n) (low_of ss n) (minimum_retention ss n c) (occupied LOW (take n ss)) c (minimum_retention_is_least n c (omega arith)) ∙ ap (least c) (sym (occupied_next LOW n le))

  pub maximum_active_is_greatest : (n : ℕ) → n ≤ length ss → maximum_active ss n ≡ greatest (occupied ID (take n ss))
  unfolding maximum_active occupied greatest
  maximum_active_is_greatest zero le = refl
  maximum_active_is_greatest (suc n) le =
      raised_is (id_of ss n) (maximum_active ss n) (occupied ID (take n ss)) (maximum_active_is_greatest n (omega arith)) ∙ ap greatest (sym (occupied_next ID n le))

-- ---- the snapshot rule
least_lower : (c d : ℕ) (l : List ℕ) → c ≤ d → least c l ≡ min c (least d l)
unfolding least
least_lower c d [] le = omega arith
least_lower c d (x ∷ l) le = omega (arith, least_lower c d l le)

-- `oldest_snapshot_xmin`: the horizon is the least of the request and `minimum_retention` over all slots, with the clock itself as ceiling
pub oldest_snapshot_xmin_is_the_horizon : {z : Sizes} (m : Mem z) (request : ℕ) → z.slots ≤ length m.slots → horizon m request ≡ min request (minimum_retention m.slots z.slots (clock m))
unfolding horizon_of
oldest_snapshot_xmin_is_the_horizon {z} m request le =
    least_lower (min request (clock m)) (clock m) (occupied LOW (take z.slots m.slots)) (omega arith)
    ∙ rw (minimum_retention_is_least m.slots z.slots (clock m) le) (under (least (clock m) (occupied LOW (take z.slots m.slots))) (least_at_most (clock m) (occupied LOW (take z.slots m.slots))))
  where
    under : (x : ℕ) → x ≤ clock m → min (min request (clock m)) x ≡ min request x
    under x le = omega arith

-- 01's xmax is 000's where the greatest active id is below 2^64 - 1 and the clock is not 0 ..
pub snapshot_xmax_agrees : (now : ℕ) (ids : List ℕ) → 0 < now → greatest ids < last_id → snap_top now ids ≡ top_of now (greatest ids)
unfolding greatest
snapshot_xmax_agrees now [] run lt = by_bool (ltb 1 now) (λ e. rw e) (λ e. rw e (omega (arith, ltb-false 1 now e)))
snapshot_xmax_agrees now (x ∷ l) run lt =
    let g = greatest (x ∷ l) in
    by_bool (ltb (suc g) now) (λ e. rw e (omega (arith, ltb-true (suc g) now e))) (λ e. rw e (omega (arith, ltb-false (suc g) now e)))

-- .. and not beyond: at the last id 000's number is no 64-bit number; with no slot and clock 0, which no store has, it is 1
pub part_at_the_last_id : (snap_top 9 (last_id ∷ []) ≡ last_id) × (top_of 9 (greatest (last_id ∷ [])) ≡ suc last_id)
unfolding greatest
part_at_the_last_id = (refl, refl)

pub part_at_clock_0 : (snap_top 0 [] ≡ 0) × (top_of 0 (greatest []) ≡ 1)
unfolding greatest
part_at_clock_0 = (refl, refl)

-- `snapshot_locked`, `create_snapshot`: the snapshot rule over n slots is `coherent_snapshot`. It looks at slots and clock and changes nothing
pub snapshot_locked_is_coherent : (ss : List (List ℕ)) (n now : ℕ) → n ≤ length ss → 0 < now → maximum_active ss n < last_id
    → Coherent ss n now (snap_low now (occupied ID (take n ss))) (snap_top now (occupied ID (take n ss))) (occupied ID (take n ss))
snapshot_locked_is_coherent ss n now le run low =
    let g = maximum_active_is_greatest ss n le in
    record {
      active_is = sym (active_is_occupied ss n le);
      xmax_is = snapshot_xmax_agrees now (occupied ID (take n ss)) run (rw (← g) low) ∙ ap (top_of now) (sym g);
      xmin_is = sym (minimum_active_is_least ss n now le);
    }

-- ---- every reachable store
maximum_under : (ss : List (List ℕ)) (n k : ℕ) → ((i : ℕ) → i < n → id_of ss i ≤ k) → maximum_active ss n ≤ k
unfolding maximum_active
maximum_under ss zero k f = omega arith
maximum_under ss (suc n) k f =
    let i = maximum_under ss n k (λ j lt. f j (omega arith)) in
    by_bool (ltb (maximum_active ss n) (id_of ss n)) (λ e. rw e (f n (omega arith))) (λ e. rw e i)

-- the ids of occupied slots see only the id word of a slot stored
occupied_set : (k : ℕ) (l : List (List ℕ)) (i : ℕ) (u v : List ℕ) → get_or u ID 0 ≡ get_or v ID 0 → occupied ID (take k (set l i u)) ≡ occupied ID (take k (set l i v))
unfolding occupied
occupied_set zero l i u v e = refl
occupied_set (suc k) [] i u v e = refl
occupied_set (suc k) (t ∷ l) zero u v e = rw e
occupied_set (suc k) (t ∷ l) (suc i) u v e = rw (occupied_set k l i u v e)

top_one : (k most : ℕ) → most ≤ k → top_of (k + 1) most ≡ k + 1
top_one k most le = by_bool (ltb (suc most) (k + 1)) (λ e. rw e) (λ e. rw e (omega (arith, ltb-false (suc most) (k + 1) e)))

module _ {z : Sizes} (rm : Roomy z) (m : Mem z) (l : Log) (rc : Reachable m l) where
  abbrev so : Sound m l
  so = reachable_sound rm m l rc

  is_open : (s : ℕ) → s < z.slots → (slot_at m s).id ≢ 0 → who_in l s ≢ 0
  is_open s lt nz e = nz (slot_has_the_open_id rm m l rc s lt ∙ e)

  -- the state is `well_formed`
  pub reachable_state_is_well_formed : WellFormed m
  reachable_state_is_well_formed = record {
    count = so.shaped.slots.count;
    runs = let k = so.inv.ticking in omega arith;
    empty = λ s lt e. empty_slot_has_xmin_0 rm m l rc s lt (sym (slot_has_the_open_id rm m l rc s lt) ∙ e);
    some_low = λ s lt nz. (open_snapshot_is_well_formed rm m l rc s (is_open s lt nz)).0;
    low_first = λ s lt nz. (open_snapshot_is_well_formed rm m l rc s (is_open s lt nz)).1;
    drawn = λ s lt nz. omega (arith, slot_has_the_open_id rm m l rc s lt, id_is_below_the_clock rm m l rc s (is_open s lt nz));
    apart = λ i j li lj ne nz e. id_is_in_one_slot rm m l rc i j (is_open i li nz) (λ q. ne (sym q)) (sym (slot_has_the_open_id rm m l rc j lj) ∙ sym e ∙ slot_has_the_open_id rm m l rc i li);
  }

  id_below : (i : ℕ) → i < z.slots → id_of m.slots i < clock m
  unfolding slot_of
  id_below i lt =
      let e : (slot_at m i).id ≡ who_in l i = slot_has_the_open_id rm m l rc i lt in
      by_eq (who_in l i) 0 (λ q. let k = so.inv.ticking in omega (arith, e)) (λ q. omega (arith, e, id_is_below_the_clock rm m l rc i q))

  -- ---- `begin_transaction` and then `create_transaction_snapshot` is our begin
  -- what `begin_transaction` leaves: the id drawn, and the id as snapshot xmin
  abbrev pub registered : ℕ → List (List ℕ)
  registered s = set m.slots s (set (set (words_at m s) ID (clock m)) LOW (clock m))

  module _ (s : ℕ) (lt : s < z.slots) where
    within : s < length m.slots
    within = omega (arith, so.shaped.slots.count)

    long : 1 < length (words_at m s)
    long = let k = (so.shaped.slots.each s lt).long in omega arith

    id_word : get_or (set (set (words_at m s) ID (clock m)) LOW (clock m)) ID 0 ≡ clock m
    id_word = get_or-set_other (set (words_at m s) ID (clock m)) LOW ID (clock m) 0 (omega arith) ∙ get_or-set_same (words_at m s) ID (clock m) 0 (omega (arith, long))

    -- the clause of `begin_transaction` on the slot holds of that state
    pub begin_transaction_registers_the_id : (id_of (registered s) s ≡ clock m) × (low_of (registered s) s ≡ clock m) × ((j : ℕ) → j ≢ s → get_or (registered s) j [] ≡ words_at m j)
    begin_transaction_registers_the_id =
        let e = get_or-set_same m.slots s (set (set (words_at m s) ID (clock m)) LOW (clock m)) [] within in (
          ap (λ (t : List ℕ). get_or t ID 0) e ∙ id_word,
          ap (λ (t : List ℕ). get_or t LOW 0) e ∙ get_or-set_same (set (words_at m s) ID (clock m)) LOW (clock m) 0 (rw (length-set (words_at m s) ID (clock m)) long),
          λ j ne. get_or-set_other m.slots s j (set (set (words_at m s) ID (clock m)) LOW (clock m)) [] ne,
        )

    registered_below : (i : ℕ) → i < z.slots → id_of (registered s) i ≤ clock m
    registered_below i li = by_eq i s
        (λ q. rw q (omega (arith, begin_transaction_registers_the_id.0)))
        (λ q. let e = ap (λ (t : List ℕ). get_or t ID 0) (begin_transaction_registers_the_id.2 i q) in omega (arith, e, id_below i li))

    ids_same : ids_with m s ≡ occupied ID (take z.slots (registered s))
    unfolding ids_with
    ids_same = occupied_set z.slots m.slots s (set (words_at m s) ID (clock m)) (set (set (words_at m s) ID (clock m)) LOW (clock m)) (get_or-set_same (words_at m s) ID (clock m) 0 (omega (arith, long)) ∙ sym id_word)

    few : length (ids_with m s) ≤ z.slots
    unfolding ids_with
    few = few_ids z.slots ID (set m.slots s (set (words_at m s) ID (clock m)))

    -- our begin's slot: the id, the snapshot, no writes, no records
    pub begun_slot : slot_at (begun m s) s ≡ new_slot (clock m) (snap_low (clock m + 1) (ids_with m s)) (snap_top (clock m + 1) (ids_with m s)) (ids_with m s)
    unfolding begin_words
    begun_slot =
        ap (slot_of z) (get_or-set_same m.slots s (begin_words m s) [] within)
        ∙ slot_opened (words_at m s) (so.shaped.slots.each s lt) (clock m) (snap_low (clock m + 1) (ids_with m s)) (snap_top (clock m + 1) (ids_with m s)) (ids_with m s) few

    -- and our begin's slot is the `coherent_snapshot` of that state and the clock after it: no clock, no slot between the two
    pub begin_is_registration_then_snapshot : Coherent (registered s) z.slots (clock m + 1) (slot_at (begun m s) s).low (slot_at (begun m s) s).top (slot_at (begun m s) s).active
    begin_is_registration_then_snapshot =
        let le : z.slots ≤ length (registered s) = rw (length-set m.slots s (set (set (words_at m s) ID (clock m)) LOW (clock m))) so.shaped.slots.count in
        let top : maximum_active (registered s) z.slots ≤ clock m = maximum_under (registered s) z.slots (clock m) registered_below in
        let g = maximum_active_is_greatest (registered s) z.slots le in
        let ids = ids_same in
        rw begun_slot
        (record {
          active_is = ids ∙ sym (active_is_occupied (registered s) z.slots le);
          xmax_is = top_is (clock m) (ids_with m s) (rw (ids, ← g) top) ∙ sym (top_one (clock m) (maximum_active (registered s) z.slots) top);
          xmin_is = ap (least (clock m + 1)) ids ∙ sym (minimum_active_is_least (registered s) z.slots (clock m + 1) le);
        })

  -- ---- `end_transaction`
  -- an open transaction can always be ended: abort is done, with no other test than the slot's and the owner's
  pub end_transaction_by_abort_is_ok : (s : ℕ) → who_in l s ≢ 0 → (abort_out m s (who_in l s)).answer ≡ Done
  unfolding abort_out
  end_transaction_by_abort_is_ok s op =
      let o = open_slot (rows_in l) (cells_in l) m (hist_of l) so s (who_in l s) op refl in
      let entered = all_entered (rows_in l) (cells_in l) m (hist_of l) so s (who_in l s) o in
      let pass = passed_each (abort_tests m) (slot_at m s).writes (all_map _ _ (slot_at m s).writes (λ w k. (le-ltb (size_n m) w.base k.base_in, (k.new_in, tt))) entered) in
      ap (λ (x : Outcome z Answer ℕ). x.answer) (guard_passed (refuse m) (slot_tests m s (who_in l s) ++ each (abort_tests m) (slot_at m s).writes) _ (passed_join (slot_tests m s (who_in l s)) (each (abort_tests m) (slot_at m s).writes) (slot_passed (rows_in l) (cells_in l) m (hist_of l) so s (who_in l s) o) pass))
