-- 000's `prepared` is a fact of every reachable store: each entry of an open write set whose base is its row's head is prepared. (The base
-- of an entry made on an empty row may have been overtaken: such a commit is refused with 8.)
use Rattle.std.specs.Prelude.{ℕ, zero, suc, ◌+◌, ◌≤◌, ◌<◌, true, cond, List, [], ◌∷◌, ◌≡◌, refl, ◌≢◌, ◌⊎◌, eqb}
use Rattle.std.proofs.Common.{sym, ◌∙◌, inl, inr, ⊎_elim, arith, eq-eqb, ne_eqb}
use Rattle.std.proofs.Math.Path.{ap, subst}
use Rattle.std.proofs.lemmas.Bool.{not-false}
use Rattle.kinds.specs.declared.Version.{Version}
use Rattle.words.specs.Sizes.{Sizes, Roomy}
use Rattle.words.specs.Lists.{from}
use Rattle.kinds.specs.Versions.{version_at}
use Rattle.words.specs.Slots.{Write, Slot}
use Rattle.rules.specs.Memory.{Mem, size_n, head_at, slot_at}
use Rattle.rules.specs.Chain.{ends}
use Rattle.rules.specs.Abort.{news}
use Rattle.rules.specs.History.{Log, who_in, rows_in, cells_in}
use Rattle.rules.specs.Reachable.{Reachable, chain_at, times, joined}
use Rattle.rules.specs.Exactly.{In}
use Rattle.rules.proofs.Exactly.{holds_true}
use Rattle.rules.specs.Terms.{CellOf}
use Rattle.rules.proofs.Terms.{is_cell_lem}
use Rattle.rules.specs.Along.{Along}
use Rattle.rules.proofs.Along.{ChainIs, chain_is, positive}
use Rattle.rules.proofs.Theory.Cases.{by_eq}
use Rattle.rules.specs.Theory.View.{view_of}
use Rattle.rules.proofs.Theory.View.{get_slots}
use Rattle.rules.specs.Theory.Effects.{slot_v}
use Rattle.rules.specs.Theory.Inv.{Ver, ver_of, vers, Entries}
use Rattle.rules.specs.Theory.Good.{Owner}
use Rattle.rules.proofs.Theory.Good.{view_open, view_id}
use Rattle.rules.specs.Theory.Steps.{hist_of}
use Rattle.rules.proofs.Theory.Steps.{Sound}
use Rattle.rules.proofs.Theory.Never.{open_slot, all_entered}
use Rattle.rules.proofs.Theory.ReadLaw.{reachable_sound}
use Rattle.rules.proofs.Members.{in_or_not, in_append}
use Rattle.rules.proofs.Demand3.{every_chain_ends, chained_cell_is_nowhere_else, sizes_are_the_creations, head_is_not_superseded, slot_has_the_open_id}
use Rattle.upstream.specs.Images.{image_of, stored, snapshot}
use Rattle.upstream.proofs.Standing.{reachable_image_is_valid, unchained_cell_links_to_nothing}
use Rattle.upstream.specs.Publication.{Prepared}
use Rattle.upstream.specs.RetentionTerms.{Admissible}
use Rattle.upstream.proofs.Safe.{in_times, all_at}

-- ---- lists
in_joined : (f : ℕ → List ℕ) (x k a : ℕ) → In x (joined f (from a k)) → (r : ℕ) × (r < a + k) × In x (f r)
unfolding joined from
in_joined f x zero a i = absurd i
in_joined f x (suc k) a i = ⊎_elim
    (λ j. (a, omega arith, j))
    (λ j. let q = in_joined f x k (suc a) j in (q.0, omega (arith, q.1), q.2))
    ((in_append x (f a) (joined f (from (suc a) k))).0 i)

joined_in : (f : ℕ → List ℕ) (x r k a : ℕ) → a ≤ r → r < a + k → In x (f r) → In x (joined f (from a k))
unfolding joined from
joined_in f x r zero a lo hi i = absurd (omega arith)
joined_in f x r (suc k) a lo hi i = (in_append x (f a) (joined f (from (suc a) k))).1 (by_eq a r
    (λ e. inl (rw e i))
    (λ n. inr (joined_in f x r k (suc a) (omega arith) (omega arith) i)))

-- the next of a cell of a chain is the chain's end or a cell of it
next_stays : (f : ℕ → Version) (l : List ℕ) (p h : ℕ) → Along f h l 0 → In p l → ((f p).next.0 ≡ 0) ⊎ In (f p).next.0 l
next_stays f [] p h a i = absurd i
next_stays f (c ∷ []) p h a (inl e) = rw e (inl a.1)
next_stays f (c ∷ []) p h a (inr i) = absurd i
next_stays f (c ∷ d ∷ l) p h a (inl e) = rw e (inr (inr (inl a.1.0)))
next_stays f (c ∷ d ∷ l) p h a (inr i) = ⊎_elim inl (λ j. inr (inr j)) (next_stays f (d ∷ l) p (f c).next.0 a.1 i)

first_of : (f : ℕ → Version) (l : List ℕ) (h : ℕ) → Along f h l 0 → h ≢ 0 → In h l
first_of f [] h a n = absurd (n a)
first_of f (c ∷ l) h a n = inl a.0

-- an entry of a write set
entry_of : (f : ℕ → Ver) (R t : ℕ) (ws : List Write) (w : Write) → Entries f R t ws → In w ws → (w.row < R) × ((f w.new).xmin ≡ t) × ((f w.new).xmax ≡ 0)
entry_of f R t [] w e i = absurd i
entry_of f R t (q ∷ ws) w e (inl i) = rw i (e.0, e.1, e.2)
entry_of f R t (q ∷ ws) w e (inr i) = entry_of f R t ws w e.4 i

pub new_in : (ws : List Write) (w : Write) → In w ws → In w.new (news ws)
new_in [] w i = i
new_in (q ∷ ws) w (inl e) = inl (ap (λ (x : Write). x.new) e)
new_in (q ∷ ws) w (inr i) = inr (new_in ws w i)

not_times : (x : ℕ) (l : List ℕ) → (In x l → ⊥) → times x l ≡ 0
unfolding times
not_times x [] n = refl
not_times x (y ∷ l) n = rw (ne_eqb x y (λ e. n (inl e))) (not_times x l (λ i. n (inr i)))

module _ {z : Sizes} (rm : Roomy z) (m : Mem z) (l : Log) (rc : Reachable m l) where
  abbrev so : Sound m l
  so = reachable_sound rm m l rc

  way : (row : ℕ) → row < rows_in l → Along (version_at m.cells) (head_at m row) (chain_at m row).cells 0
  way row in_r =
      let i : ChainIs (size_n m) (version_at m.cells) (size_n m) (head_at m row) (chain_at m row).cells ends = subst (ChainIs (size_n m) (version_at m.cells) (size_n m) (head_at m row) (chain_at m row).cells) (every_chain_ends rm m l rc row in_r) (chain_is (size_n m) (version_at m.cells) (size_n m) (head_at m row)) in
      i.0.along

  -- ---- an entry of an open write set
  module _ (s : ℕ) (op : who_in l s ≢ 0) (w : Write) (i : In w (slot_at m s).writes) where
    pub owns : Owner m s (who_in l s)
    owns = open_slot (rows_in l) (cells_in l) m (hist_of l) so s (who_in l s) op refl

    -- its row is in range, its new cell carries the writer's id and is not superseded
    pub entry_carries_its_writer : (w.row < rows_in l) × ((version_at m.cells w.new).xmin.0 ≡ who_in l s) × ((version_at m.cells w.new).xmax.0 ≡ 0)
    unfolding ver_of
    entry_carries_its_writer =
        let at_slot : slot_v (view_of m) s ≡ slot_at m s = get_slots z m.slots s owns.slot in
        let e = (so.inv.opens s (view_open m s (who_in l s) owns)).entries in
        let e' = subst (λ (t : Slot). Entries (vers (view_of m)) (rows_in l) t.id t.writes) at_slot e in
        let q = entry_of (vers (view_of m)) (rows_in l) (slot_at m s).id (slot_at m s).writes w e' i in
        let k : (slot_at m s).id ≡ who_in l s = ap (λ (t : Slot). t.id) (sym at_slot) ∙ view_id m s (who_in l s) owns in
        (q.0, q.1 ∙ k, q.2)

    pub new_is_a_cell : CellOf (size_n m) w.new
    new_is_a_cell =
        let q = all_at _ (slot_at m s).writes (all_entered (rows_in l) (cells_in l) m (hist_of l) so s (who_in l s) owns) w i in
        (is_cell_lem (size_n m) w.new).yes (not-false _ q.new_in)

    -- it is in no chain
    pub new_is_unchained : (row : ℕ) → row < rows_in l → In w.new (chain_at m row).cells → ⊥
    new_is_unchained row in_r j =
        in_times w.new (news (slot_at m s).writes) (new_in (slot_at m s).writes w i)
        ((chained_cell_is_nowhere_else rm m l rc row w.new in_r (in_times w.new (chain_at m row).cells j)).unwritten s owns.slot)

    pub head_in_chain : (row : ℕ) → row < rows_in l → head_at m row ≢ 0 → In (head_at m row) (chain_at m row).cells
    head_in_chain row in_r n = first_of (version_at m.cells) (chain_at m row).cells (head_at m row) (way row in_r) n

    -- `prepared`, where the base is the head still
    pub open_write_is_prepared : head_at m w.row ≡ w.base → Prepared (image_of m) w (who_in l s)
    open_write_is_prepared headed =
        let q = entry_carries_its_writer in
        let R = (sizes_are_the_creations rm m l rc).0 in
        record {
          valid = reachable_image_is_valid rm m l rc;
          real = positive (who_in l s) op;
          row = omega (arith, q.0, R);
          head = headed;
          new = holds_true _ (is_cell_lem (size_n m) w.new) new_is_a_cell;
          apart = λ e. by_eq w.base 0 (λ b. omega (arith, new_is_a_cell.low, e, b)) (λ b. new_is_unchained w.row q.0 (subst (λ (x : ℕ). In x (chain_at m w.row).cells) (headed ∙ sym e) (head_in_chain w.row q.0 (λ o. b (sym headed ∙ o)))));
          xmin = q.1;
          xmax = q.2;
          base = λ n. base_stored n;
          live = λ n. subst (λ (c : ℕ). (version_at m.cells c).xmax.0 ≡ 0) headed (head_is_not_superseded rm m l rc w.row q.0 (λ o. n (sym headed ∙ o)));
          unheaded = λ r b e. new_is_unchained r (omega (arith, R)) (subst (λ (x : ℕ). In x (chain_at m r).cells) e (head_in_chain r (omega (arith, R)) (λ o. omega (arith, new_is_a_cell.low, e, o))));
          unlinked = λ p st n e. in_or_not p (joined (λ r. (chain_at m r).cells) (from 0 (rows_in l)))
              (λ j. let k = in_joined (λ r. (chain_at m r).cells) p (rows_in l) 0 j in
              let b : k.0 < rows_in l = omega (arith, k.1) in
              ⊎_elim (λ o. omega (arith, new_is_a_cell.low, e, o)) (λ y. new_is_unchained k.0 b (subst (λ (x : ℕ). In x (chain_at m k.0).cells) e y)) (next_stays (version_at m.cells) (chain_at m k.0).cells p (head_at m k.0) (way k.0 b) k.2))
              (λ j. omega (arith, new_is_a_cell.low, e, unchained_cell_links_to_nothing rm m l rc p (λ o. omega (arith, ((is_cell_lem (size_n m) p).yes st).low, o)) (omega (arith, ((is_cell_lem (size_n m) p).yes st).high, (sizes_are_the_creations rm m l rc).1)) (λ r b. not_times p (chain_at m r).cells (λ y. j (joined_in (λ r. (chain_at m r).cells) p r (rows_in l) 0 (omega arith) (omega arith) y)))));
        }
      where
        base_stored : w.base ≢ 0 → stored (image_of m) w.base ≡ true
        base_stored n =
            let q = all_at _ (slot_at m s).writes (all_entered (rows_in l) (cells_in l) m (hist_of l) so s (who_in l s) owns) w i in
            holds_true _ (is_cell_lem (size_n m) w.base) (record { low = positive w.base n; high = q.base_in })

    -- .12: there is a rank that falls along next and puts the new cell above its base
    pub open_write_ranks_above_its_base : head_at m w.row ≡ w.base → (rank : ℕ → ℕ) × ((p : ℕ) → stored (image_of m) p ≡ true → (version_at m.cells p).next.0 ≢ 0 → rank (version_at m.cells p).next.0 < rank p) × (rank w.base < rank w.new)
    open_write_ranks_above_its_base headed =
        let q = open_write_is_prepared headed in
        let v = q.valid in
        let at = version_at m.cells in
        let up : ℕ → ℕ = λ p. cond (eqb p w.new) (suc (v.rank w.base)) (v.rank p) in
        let new-up : up w.new ≡ suc (v.rank w.base) = rw (eq-eqb w.new w.new refl) in
        let else-up : (p : ℕ) → p ≢ w.new → up p ≡ v.rank p = λ p n. rw (ne_eqb p w.new n) in
        let bare : (at w.new).next.0 ≡ 0 = unchained_cell_links_to_nothing rm m l rc w.new (λ o. omega (arith, new_is_a_cell.low, o)) (omega (arith, new_is_a_cell.high, (sizes_are_the_creations rm m l rc).1)) (λ r b. not_times w.new (chain_at m r).cells (new_is_unchained r b)) in (
          up,
          (λ p st n. by_eq p w.new
              (λ e. absurd (n (ap (λ (c : ℕ). (at c).next.0) e ∙ bare)))
              (λ d. let a = else-up (at p).next.0 (q.unlinked p st d) in let b = else-up p d in omega (arith, v.falls p st n))),
          (let a = else-up w.base (λ e. q.apart (sym e)) in omega arith),
        )

    -- .. and 000's `admissible` fails for a reader that has prepared a write, at every horizon: its new cell is a stored version of its own.
    -- So 000's vacuum promises such a reader nothing; ours is `vacuum_row_acquired_is_safe`
    pub reader_with_a_write_is_not_admissible : (hz : ℕ) → Admissible (image_of m) (snapshot (slot_at m s)) hz → ⊥
    reader_with_a_write_is_not_admissible hz a = a.foreign w.new (holds_true _ (is_cell_lem (size_n m) w.new) new_is_a_cell) (entry_carries_its_writer.1 ∙ sym (slot_has_the_open_id rm m l rc s owns.slot))
