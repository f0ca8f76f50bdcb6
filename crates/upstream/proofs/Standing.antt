-- Every reachable store meets what upstream's terms ask of it: the theorems, in the words of the memory. Born.antt and BornCalls.antt have
-- their proof.
use Rattle.std.specs.Prelude.{ℕ, ◌<◌, ◌≤◌, zero, suc, true, not, List, [], ◌∷◌, ◌++◌, ◌≢◌, ◌≡◌, refl, eqb, leb, ltb, get_or, length}
use Rattle.std.proofs.Common.{inl, inr, sym, ap, ◌∙◌, subst, arith, ne_eqb, le-leb, leb-true}
use Rattle.std.proofs.Math.Option.{Option}
use Rattle.std.proofs.lemmas.Bool.{not-false, eqb-false, not-true}
use Rattle.kinds.specs.Answer.{Answer, Done, Begun, Wrote, Vacuumed, Listed}
use Rattle.kinds.specs.declared.Version.{Version}
use Rattle.words.specs.Sizes.{Sizes, Roomy}
use Rattle.rules.specs.Numbers.{bad_size}
use Rattle.words.specs.Lists.{nonzero}
use Rattle.kinds.specs.Versions.{version_at}
use Rattle.words.specs.Slots.{Slot, Write}
use Rattle.rules.specs.Memory.{Mem, size_r, size_n, head_at, slot_at}
use Rattle.rules.specs.Chain.{Chain, chain}
use Rattle.rules.specs.Outcome.{Outcome, refuse, test, fits, is_cell}
use Rattle.rules.specs.Create.{create_out}
use Rattle.rules.specs.Begin.{begin_out}
use Rattle.rules.specs.Write.{write_out}
use Rattle.rules.specs.Commit.{commit_out}
use Rattle.rules.specs.Abort.{abort_out, news}
use Rattle.rules.specs.Run.{Call, create, begin, read, write, commit, abort, vacuum, lookup, lookup_all, step, run}
use Rattle.rules.specs.History.{Log, log_of, logged, if_done, if_begun, if_wrote, made, began, wrote, said, ended, commits, writes_in, who_in, rows_in, cells_in}
use Rattle.rules.specs.Reachable.{Reachable, All, chain_at, times, sees_at}
use Rattle.rules.proofs.Demand3.{snapshot_is_in_order, slot_has_the_open_id}
use Rattle.rules.proofs.Theory.Cases.{by_eq, by_bool, by_le, and_true, no_both}
use Rattle.rules.specs.Theory.View.{View, view_of}
use Rattle.rules.proofs.Theory.View.{get_slots}
use Rattle.rules.specs.Theory.Effects.{slot_v}
use Rattle.rules.specs.Theory.Counting.{cnt}
use Rattle.rules.proofs.Theory.Counting.{cnt_head, cnt_tail, cnt_other}
use Rattle.rules.specs.Theory.Inv.{Inv, Spelled, nexts, in_slot, Entries, vers}
use Rattle.rules.proofs.Theory.Chains.{all_below, chain_spelled, take_whole}
use Rattle.rules.proofs.Theory.Places.{own_cell, chain_cell}
use Rattle.rules.proofs.Theory.Guard.{guard_case}
use Rattle.rules.specs.Theory.Good.{Owner}
use Rattle.rules.proofs.Theory.Never.{open_slot}
use Rattle.rules.proofs.Theory.OnePlace.{times_is}
use Rattle.rules.proofs.Theory.Facts.{at_row, has_all}
use Rattle.rules.proofs.Theory.VacuumCall.{row_chain_lem}
use Rattle.rules.specs.Theory.Steps.{hist_of}
use Rattle.rules.proofs.Theory.Steps.{Sound, step_sound, create_starts, commits_sizes}
use Rattle.rules.proofs.Theory.ReadLaw.{reachable_sound}
use Rattle.upstream.specs.Images.{image_of, stored, ImageValid, snapshot}
use Rattle.upstream.specs.Seen.{visible}
use Rattle.upstream.specs.Transactions.{TransactionValid}
use Rattle.upstream.specs.Visibility.{LowFirst, Plain}
use Rattle.upstream.proofs.Visibility.{visible_agrees}
use Rattle.upstream.specs.Born.{Born, On, head, next}
use Rattle.upstream.proofs.Born.{on_row, row_on, on_unslot, on_inside}
use Rattle.upstream.proofs.BornCalls.{create_born, begin_born, read_born, write_born, commit_born, abort_born, vacuum_born, lookup_born, lookup_all_born}
use Rattle.upstream.specs.Standing.{Alive}

module _ {z : Sizes} (m : Mem z) (l : Log) where
  begun_alive : (a : Answer) → Alive m l → Alive m (if_begun a (λ s id. began s id ∷ l) l)
  unfolding rows_in cells_in
  begun_alive Done b = b
  begun_alive (Begun s i) b = b
  begun_alive (Wrote c) b = b
  begun_alive (Vacuumed n v) b = b
  begun_alive (Listed n) b = b
  begun_alive (Answer.Refused n x) b = b

  wrote_alive : (s id row : ℕ) (v : Option ℕ) (a : Answer) → Alive m l → Alive m (if_wrote a (wrote s row (said v id) ∷ l) l)
  unfolding rows_in cells_in
  wrote_alive s id row v Done b = b
  wrote_alive s id row v (Begun k i) b = b
  wrote_alive s id row v (Wrote c) b = b
  wrote_alive s id row v (Vacuumed n x) b = b
  wrote_alive s id row v (Listed n) b = b
  wrote_alive s id row v (Answer.Refused n x) b = b

  committed_alive : (s : ℕ) (a : Answer) → Alive m l → Alive m (if_done a (ended s ∷ (commits (writes_in l s) ++ l)) l)
  unfolding rows_in cells_in
  committed_alive s Done b = let e = commits_sizes l (writes_in l s) in rw (e.0, e.1) b
  committed_alive s (Begun k i) b = b
  committed_alive s (Wrote c) b = b
  committed_alive s (Vacuumed n x) b = b
  committed_alive s (Listed n) b = b
  committed_alive s (Answer.Refused n x) b = b

  ended_alive : (s : ℕ) (a : Answer) → Alive m l → Alive m (if_done a (ended s ∷ l) l)
  unfolding rows_in cells_in
  ended_alive s Done b = b
  ended_alive s (Begun k i) b = b
  ended_alive s (Wrote c) b = b
  ended_alive s (Vacuumed n x) b = b
  ended_alive s (Listed n) b = b
  ended_alive s (Answer.Refused n x) b = b

created_alive : {z : Sizes} (m : Mem z) (n r : ℕ) (l : Log) → Alive m l → Alive (create_out m n r).after (if_done (create_out m n r).answer (made n r ∷ []) l)
unfolding create_out rows_in cells_in
created_alive {z} m n r l b = guard_case (λ (o : Outcome z Answer ℕ). Alive o.after (if_done o.answer (made n r ∷ []) l)) (refuse m) (test (not (fits m r n)) bad_size 0 ∷ []) _ (λ k x. b)
    (λ p. create_born m n r (not-false _ p.0))

step_alive : {z : Sizes} (c : Call) (m : Mem z) (l : Log) → Sound m l → Alive m l → Alive (step c m).after (logged c (step c m).reply l)
unfolding step logged
step_alive (create n r) m l so b = created_alive m n r l b
step_alive begin m l so b = begun_alive (begin_out m).after l (begin_out m).answer (begin_born (rows_in l) (cells_in l) m (hist_of l) so b)
step_alive (read s id row) m l so b = read_born (rows_in l) (cells_in l) m (hist_of l) so b s id row
step_alive (write s id row v) m l so b = wrote_alive (write_out m s id row v).after l s id row v (write_out m s id row v).answer (write_born (rows_in l) (cells_in l) m (hist_of l) so b s id row v)
step_alive (commit s id) m l so b = committed_alive (commit_out m s id).after l s (commit_out m s id).answer (commit_born (rows_in l) (cells_in l) m (hist_of l) so b s id)
step_alive (abort s id) m l so b = ended_alive (abort_out m s id).after l s (abort_out m s id).answer (abort_born (rows_in l) (cells_in l) m (hist_of l) so b s id)
step_alive (vacuum row request room) m l so b = vacuum_born (rows_in l) (cells_in l) m (hist_of l) so b row request room
step_alive (lookup s id key cands room) m l so b = lookup_born (rows_in l) (cells_in l) m (hist_of l) so b s id key cands room
step_alive (lookup_all s id key room) m l so b = lookup_all_born (rows_in l) (cells_in l) m (hist_of l) so b s id key room

run_alive : {z : Sizes} (cs : List Call) (m : Mem z) (l : Log) → Sound m l → Alive m l → Alive (run cs m).1 (log_of cs (run cs m).0 l)
unfolding run log_of
run_alive [] m l so b = b
run_alive (c ∷ cs) m l so b = run_alive cs (step c m).after (logged c (step c m).reply l) (step_sound c m l so) (step_alive c m l so b)

start_alive : {z : Sizes} → Roomy z → (m : Mem z) (n r : ℕ) → (create_out m n r).answer ≡ Done → Sound (create_out m n r).after (made n r ∷ []) × Alive (create_out m n r).after (made n r ∷ [])
unfolding create_out rows_in cells_in
start_alive {z} rm m n r = guard_case (λ (o : Outcome z Answer ℕ). o.answer ≡ Done → Sound o.after (made n r ∷ []) × Alive o.after (made n r ∷ [])) (refuse m) (test (not (fits m r n)) bad_size 0 ∷ []) _
    (λ k x q. let y : ◌≡◌ {A = ℕ} 0 1 = cc in absurd (omega arith))
    (λ p q. (create_starts rm m n r (not-false _ p.0), create_born m n r (not-false _ p.0)))

pub reachable_alive : {z : Sizes} → Roomy z → (m : Mem z) (l : Log) → Reachable m l → Alive m l
reachable_alive rm m l rc =
    let k = start_alive rm rc.lent rc.n rc.r rc.accepted in
    let b = run_alive rc.calls (create_out rc.lent rc.n rc.r).after (made rc.n rc.r ∷ []) k.0 k.1 in
    rw (rc.memory, rc.log) at b

-- ---- chains
chain_short : (n : ℕ) (f : ℕ → Version) (k h : ℕ) → length (chain n f k h).cells ≤ k
unfolding chain
chain_short n f zero h = by_bool (eqb h 0) (λ e. rw e (omega arith)) (λ e. rw e (omega arith))
chain_short n f (suc k) h = by_bool (eqb h 0) (λ e. rw e (omega arith)) (λ e. rw e (by_bool (ltb n h) (λ q. rw q (omega arith)) (λ q. rw q (omega (arith, chain_short n f k (f h).next.0)))))

-- what comes after a cell of a list that is spelled
suffix : (nx : ℕ → ℕ) (h : ℕ) (l : List ℕ) (p : ℕ) → Spelled nx h l → cnt p l ≢ 0 → (r : List ℕ) × Spelled nx (nx p) r × (suc (length r) ≤ length l) × ((c : ℕ) → cnt c r ≢ 0 → cnt c l ≢ 0)
unfolding cnt
suffix nx h [] p s nz = absurd (nz refl)
suffix nx h (c ∷ l) p s nz = by_eq p c
    (λ e. (l, subst (λ (x : ℕ). Spelled nx (nx x) l) (sym e) s.2, omega arith, λ d k y. k (cnt_tail d c l y)))
    (λ ne. let k = suffix nx (nx c) l p s.2 (λ y. nz (cnt_other p c l ne ∙ y)) in (k.0, k.1, omega (arith, k.2), λ d q y. k.3 d q (cnt_tail d c l y)))

cell_is : (n c : ℕ) → is_cell n c ≡ true → (c ≢ 0) × (c ≤ n)
cell_is n c e = let a = and_true (nonzero c) (leb c n) e in (eqb-false c 0 (not-true _ a.0), leb-true c n a.1)

is_cell_lem : (n c : ℕ) → c ≢ 0 → c ≤ n → is_cell n c ≡ true
is_cell_lem n c nz le = rw (ne_eqb c 0 nz, le-leb c n le)

-- ---- the theorems
module _ {z : Sizes} (rm : Roomy z) (m : Mem z) (l : Log) (rc : Reachable m l) where
  abbrev so : Sound m l
  so = reachable_sound rm m l rc

  abbrev born : Born (rows_in l) (suc (cells_in l)) (view_of m)
  born = reachable_alive rm m l rc

  abbrev st : View
  st = view_of m

  abbrev iv : Inv (rows_in l) (suc (cells_in l)) (view_of m) so.ghost (hist_of l) []
  iv = so.inv

  on_chain : (row c : ℕ) → row < rows_in l → times c (chain_at m row).cells ≢ 0 → On (rows_in l) st c
  on_chain row c in_r nz =
      row_on (rows_in l) (suc (cells_in l)) st so.ghost (hist_of l) iv row c in_r
      (λ e. nz (times_is c (chain_at m row).cells ∙ subst (λ (x : List ℕ). cnt c x ≡ 0) (at_row (rows_in l) (cells_in l) m (hist_of l) so row in_r) e))

  inside : {c : ℕ} → On (rows_in l) st c → (c ≢ 0) × (c < suc (cells_in l))
  inside o = on_inside (rows_in l) (suc (cells_in l)) st so.ghost (hist_of l) iv o

  -- every version in a chain has a creator, and no open transaction's id is one
  pub chained_version_has_a_creator : (row c : ℕ) → row < rows_in l → times c (chain_at m row).cells ≢ 0 → (version_at m.cells c).xmin.0 ≢ 0
  chained_version_has_a_creator row c in_r nz = born.real c (on_chain row c in_r nz)

  pub chained_version_is_of_nobody_open : (row c s : ℕ) → row < rows_in l → times c (chain_at m row).cells ≢ 0 → who_in l s ≢ 0 → (version_at m.cells c).xmin.0 ≢ who_in l s
  chained_version_is_of_nobody_open row c s in_r nz op =
      let o = on_chain row c in_r nz in
      λ e. born.own c s (inside o).0 (inside o).1 (rw (iv.known s) op) (e ∙ sym (iv.known s)) (on_unslot (rows_in l) (suc (cells_in l)) st so.ghost (hist_of l) iv o s)

  -- a cell in no chain, free or prepared, links to nothing
  pub unchained_cell_links_to_nothing : (c : ℕ) → c ≢ 0 → c ≤ cells_in l → ((row : ℕ) → row < rows_in l → times c (chain_at m row).cells ≡ 0) → (version_at m.cells c).next.0 ≡ 0
  unchained_cell_links_to_nothing c nz le no-chain = born.bare c nz (omega arith)
      (λ o.
      let k = on_row (rows_in l) (suc (cells_in l)) st so.ghost (hist_of l) iv o in
      k.2 (ap (cnt c) (at_row (rows_in l) (cells_in l) m (hist_of l) so k.0 k.1) ∙ sym (times_is c (chain_at m k.0).cells) ∙ no-chain k.0 k.1))

  -- ---- `image_valid`
  abbrev f : ℕ → Version
  f = version_at m.cells

  -- how many cells the chain from a cell has
  abbrev rank : ℕ → ℕ
  rank p = length (chain (size_n m) f (size_n m) p).cells

  rank_is : (p : ℕ) (r : List ℕ) → ((c : ℕ) → cnt c r ≢ 0 → c < suc (size_n m)) → length r ≤ size_n m → Spelled (nexts st) p r → rank p ≡ length r
  rank_is p r low few s = ap (λ (c : Chain). length c.cells) (chain_spelled (size_n m) (size_n m) f p r (all_below (suc (size_n m)) r low) s) ∙ ap length (take_whole (size_n m) r few)

  falls : (p : ℕ) → On (rows_in l) st p → rank (f p).next.0 < rank p
  falls p o =
      let k = on_row (rows_in l) (suc (cells_in l)) st so.ghost (hist_of l) iv o in
      let g = get_or so.ghost.rows k.0 [] in
      let q = suffix (nexts st) (head_at m k.0) g p (iv.chain k.0 k.1) k.2 in
      let few : length g ≤ size_n m = rw (ap (λ (c : Chain). length c.cells) (row_chain_lem (rows_in l) (cells_in l) m (hist_of l) so k.0 k.1)) at (chain_short (size_n m) f (size_n m) (head_at m k.0)) in
      let low : (c : ℕ) → cnt c g ≢ 0 → c < suc (size_n m) = λ c nz. let y = (chain_cell (rows_in l) (suc (cells_in l)) st so.ghost (hist_of l) [] c k.0 iv nz).inside in omega (arith, so.cells) in
      let a = rank_is (f p).next.0 q.0 (λ c nz. low c (q.3 c nz)) (omega (arith, q.2)) q.1 in
      let b = rank_is p (p ∷ q.0) (λ c nz. by_eq c p (λ e. rw e (low p k.2)) (λ ne. low c (q.3 c (λ y. nz (cnt_other c p q.0 ne ∙ y))))) (omega (arith, q.2)) (refl, (inside o).0, q.1) in
      omega arith

  known : (p : ℕ) → stored (image_of m) p ≡ true → (p ≢ 0) × (p < suc (cells_in l))
  known p e = let a = cell_is (size_n m) p e in let b = a.1 in (a.0, omega (arith, so.cells))

  is_stored : {c : ℕ} → On (rows_in l) st c → stored (image_of m) c ≡ true
  is_stored {c} o = let k = (inside o).1 in is_cell_lem (size_n m) c (inside o).0 (omega (arith, so.cells))

  pub reachable_image_is_valid : ImageValid (image_of m)
  reachable_image_is_valid = record {
    heads = λ r lt. by_eq (head_at m r) 0 (λ e. inl e) (λ nz. inr (is_stored (head r (rw so.rows at lt) refl nz)));
    links = λ p e. by_eq (f p).next.0 0 (λ y. inl y)
        (λ nz. inr (by_bool (stored (image_of m) (f p).next.0) (λ y. y)
        (λ y. absurd (nz (born.bare p (known p e).0 (known p e).1 (λ o. no_both _ (is_stored (next p o refl nz)) y))))));
    rank = rank;
    falls = λ p e nz. by_le (rank p) (rank (f p).next.0)
        (λ le. absurd (nz (born.bare p (known p e).0 (known p e).1 (λ o. let k = falls p o in omega arith))))
        (λ lt. lt);
  }

  -- ---- an open transaction
  module _ (s : ℕ) (op : who_in l s ≢ 0) where
    abbrev o : Owner m s (who_in l s)
    o = open_slot (rows_in l) (cells_in l) m (hist_of l) so s (who_in l s) op refl

    at_slot : slot_v st s ≡ slot_at m s
    at_slot = get_slots z m.slots s o.slot

    own_id : (slot_at m s).id ≡ who_in l s
    own_id = slot_has_the_open_id rm m l rc s o.slot

    -- its snapshot: 0 < xmin, xmin is at most its id and every active id, its id is below xmax
    pub open_snapshot_is_well_formed : (0 < (slot_at m s).low) × ((slot_at m s).low ≤ (slot_at m s).id) × ((slot_at m s).id < (slot_at m s).top) × All (λ x. (slot_at m s).low ≤ x) (slot_at m s).active
    open_snapshot_is_well_formed =
        let k = snapshot_is_in_order rm m l rc s op in
        let t = slot_at m s in
        let nz : t.low ≢ 0 = rw at_slot at ((born.lows s).0 (rw (iv.known s) op)) in
        (omega arith, has_all (λ y. t.low ≤ y) t.id t.active k.least k.self, has_all (λ y. y < t.top) t.id t.active k.above k.self, k.least)

    pub open_snapshot_is_low_first : LowFirst (slot_at m s)
    open_snapshot_is_low_first = let k = open_snapshot_is_well_formed in record { top = omega (arith, k.1, k.2); active = k.3 }

    pub chained_version_is_plain : (row c : ℕ) → row < rows_in l → times c (chain_at m row).cells ≢ 0 → Plain (slot_at m s) (version_at m.cells c)
    chained_version_is_plain row c in_r nz = record {
      created = chained_version_has_a_creator row c in_r nz;
      unsuperseded = λ e. absurd (chained_version_is_of_nobody_open row c s in_r nz op (e ∙ own_id));
    }

    -- So the two rules of visibility agree on every version of every chain, for every open reader.
    pub visibility_agrees_in_reachable_stores : (row c : ℕ) → row < rows_in l → times c (chain_at m row).cells ≢ 0 → visible (version_at m.cells c) (snapshot (slot_at m s)) ≡ sees_at m s c
    visibility_agrees_in_reachable_stores row c in_r nz = visible_agrees (slot_at m s) (version_at m.cells c) open_snapshot_is_low_first (chained_version_is_plain row c in_r nz)

    writes_fit : (ws : List Write) → Entries (vers st) (rows_in l) (slot_v st s).id ws → ((c : ℕ) → cnt c (news ws) ≢ 0 → in_slot c (slot_v st s) ≢ 0) → All (λ w. w.row < size_r m) ws × All (λ w. stored (image_of m) w.new ≡ true) ws
    writes_fit [] e k = (tt, tt)
    writes_fit (w ∷ ws) e k =
        let r = writes_fit ws e.4 (λ c nz. k c (λ y. nz (cnt_tail c w.new (news ws) y))) in
        let q = own_cell (rows_in l) (suc (cells_in l)) st so.ghost (hist_of l) s w.new iv (k w.new (λ y. cnt_head w.new w.new (news ws) y refl)) in
        let y = q.1 in
        ((rw so.rows e.0, r.0), (is_cell_lem (size_n m) w.new q.0 (omega (arith, so.cells)), r.1))

    pub open_transaction_is_valid : TransactionValid (image_of m) (slot_at m s)
    open_transaction_is_valid =
        let k = open_snapshot_is_well_formed in
        let w = writes_fit (slot_v st s).writes (iv.opens s (rw (iv.known s) op)).entries (λ c nz. nz) in
        let w' : All (λ w. w.row < size_r m) (slot_at m s).writes × All (λ w. stored (image_of m) w.new ≡ true) (slot_at m s).writes = rw at_slot at w in
        record { image = reachable_image_is_valid; real = omega (arith, own_id, op); early = k.2; low = k.0; lowest = k.1; rows = w'.0; news = w'.1 }

  -- an empty slot has snapshot xmin 0
  pub empty_slot_has_xmin_0 : (s : ℕ) → s < z.slots → who_in l s ≡ 0 → (slot_at m s).low ≡ 0
  empty_slot_has_xmin_0 s lt e = ap (λ (t : Slot). t.low) (sym (get_slots z m.slots s lt)) ∙ (born.lows s).1 (iv.known s ∙ e)
