-- Every call keeps what Born.antt says, refused calls included.
use Prim.Native.Nat.{ℕ, ◌<◌, ◌≤◌, ◌+◌, zero, suc}
use Rattle.std.specs.Prelude.{Bool, true, not, ◌≢◌, ◌≡◌, eqb, leb, ltb, get_or, set, take}
use mathlib.Core.List.{List, [], ◌∷◌, ◌++◌, map}
use Rattle.std.proofs.Math.Option.{Option, none, some}
use Rattle.std.proofs.Math.Path.{refl, sym, ap}
use Rattle.std.proofs.Common.{◌∙◌, subst, arith, le_of_suc-le-suc, length-append, leb-false, ltb-true, ltb-false, eq-eqb, ne_eqb}
use Rattle.std.proofs.Math.ListN.{length}
use Rattle.std.proofs.Math.Seq.{get_or-set_same, get_or-set_other}
use Rattle.std.proofs.lemmas.Bool.{eqb-false}
use Rattle.kinds.specs.Answer.{Answer}
use Rattle.kinds.specs.ReadAnswer.{ReadAnswer}
use Rattle.words.specs.Sizes.{Sizes, last_id, READS, WRITES}
use Rattle.rules.specs.Numbers.{clock_spent, no_free_slot, damaged}
use Rattle.words.specs.Lists.{fold, keep, least}
use Rattle.kinds.specs.Versions.{version_at, version, with_value, empty_version, keyed_of, key_of}
use Rattle.words.specs.Slots.{Slot, Write, Rec, add_recs, emptied, slot_of}
use Rattle.words.specs.Slots as S
use Rattle.rules.specs.Memory.{Mem, size_r, size_n, clock, free, head_at, words_at, slot_at, with_slot, with_cells}
use Rattle.rules.specs.Chain.{ends}
use Rattle.rules.specs.Snapshot.{vacant, horizon, snap_low, snap_top}
use Rattle.rules.specs.Outcome.{Outcome, Test, test, refuse, refuse_read, slot_tests, store_tests, row_test, each, is_cell, fits}
use Rattle.rules.specs.Create.{created}
use Rattle.rules.specs.Begin.{begun, begin_out}
use Rattle.rules.specs.Read.{Sight, blocked, sees, read_end, read_out, own}
use Rattle.rules.specs.Write.{write_out, write_now, head_tests, prepared, replaced}
use Rattle.rules.specs.Commit.{commit_out, commit_tests, publish_all}
use Rattle.rules.specs.Abort.{abort_out, abort_tests, news, unlock_base, give_back}
use Rattle.rules.specs.Vacuum.{vacuum_out, vacuum_now, swept, relink}
use Rattle.kinds.specs.Versions.{reclaimable}
use Rattle.rules.specs.Lookup.{Found, stopped, got, lookup_end, lookup_out, lookup_all_out, candidate_tests}
use Rattle.rules.specs.Reachable.{All}
use Rattle.rules.specs.Terms.{Fitting}
use Rattle.rules.proofs.Terms.{is_fitting}
use Rattle.rules.proofs.CreateFresh.{created_sizes_and_clock, created_heads_are_0, created_cells_are_cleared, created_slots_are_empty}
use Rattle.rules.proofs.Theory.Cases.{by_eq, by_bool}
use Rattle.rules.specs.Theory.SlotLaws.{new_slot, with_recs, with_write}
use Rattle.rules.proofs.Theory.SlotLaws.{slot_emptied}
use Rattle.rules.specs.Theory.CellLaws.{HasCell}
use Rattle.rules.specs.Theory.View.{View, view_of, empty_slot, slots_of, upd}
use Rattle.rules.proofs.Theory.View.{get_slots}
use Rattle.rules.specs.Theory.Effects.{slot_v, put_slot, with_vers, begin_v, born_v, ids_v, prepare_v, publish_all_v, publish_v, give_all_v, lock_v, unlock_v, relink_v}
use Rattle.rules.proofs.Theory.Bridge.{view_begin, view_recs, view_prepared, view_replaced, view_close, view_publish_all, view_give_all, unlock_vers, relink_vers, all_cells}
use Rattle.rules.specs.Theory.Counting.{cnt}
use Rattle.rules.proofs.Theory.Counting.{cnt_append, cnt_same, cnt_other, cnt_head, cnt_tail, sum_at}
use Rattle.rules.specs.Theory.Inv.{Hist, Inv, Ver, Spelled, nexts, in_slot, vers, ver_of, Entries, own_find}
use Rattle.rules.proofs.Theory.Places.{spelled_first, inb_le, own_cell, chain_cell}
use Rattle.rules.proofs.Theory.SlotSteps.{open_in, ids_differ}
use Rattle.rules.specs.Theory.Publish.{of_next}
use Rattle.rules.proofs.Theory.Publish.{part_off, part_on, part_same}
use Rattle.rules.specs.Theory.CommitView.{Tested}
use Rattle.rules.proofs.Theory.CommitView.{no_entry}
use Rattle.rules.proofs.Theory.Cells.{lock_part, unlock_part}
use Rattle.rules.proofs.Theory.VacuumView.{cnt_keep, relink_part, relink_off}
use Rattle.rules.specs.Theory.Recording.{Rightly, Noted}
use Rattle.rules.proofs.Theory.Guard.{guard_case, passed_split}
use Rattle.rules.proofs.Theory.Same.{same_relink}
use Rattle.rules.specs.Theory.Good.{Owner}
use Rattle.rules.proofs.Theory.Good.{Good, owner, view_open, view_id, slot_id, cell_in}
use Rattle.rules.proofs.Theory.BeginCall.{slots_length}
use Rattle.rules.proofs.Theory.ReadCall.{recs_count, noted_at}
use Rattle.rules.proofs.Theory.LookupCall.{Fine, found_fine, rows_below, all_rows_below}
use Rattle.rules.proofs.Theory.CommitCall.{commit_facts}
use Rattle.rules.proofs.Theory.AbortCall.{abort_entries_in}
use Rattle.rules.proofs.Theory.VacuumCall.{cells_of}
use Rattle.rules.proofs.Theory.VacuumCall.{row_chain_lem, swept_rows, horizon_under}
use Rattle.upstream.specs.Born.{On, Born, Lows, min_of, of_min, Ready, Distinct, head, next}
use Rattle.upstream.proofs.Born.{frame, on_row, row_on, on_unslot, on_unfree, on_listed, listed_on, give_gone, give_stays, give_rest, publish_all_born}

-- a slot stored: it keeps its id and its writes, or is empty
slot_born : (R n : ℕ) (st : View) (s : ℕ) (t : Slot) → s < length st.slots → (t.id ≢ 0 → (t.id ≡ (slot_v st s).id) × (t.writes ≡ (slot_v st s).writes)) → Lows t → Born R n st → Born R n (put_slot st s t)
unfolding cnt
slot_born R n st s t lt keeps low b = frame R n st (put_slot st s t) [] (λ r. refl) (λ c z. (refl, refl)) (λ c nz. absurd (nz refl)) (λ c o. refl) (omega arith) b
    (λ c j nz le op e. by_eq j s
    (λ q.
    let here : slot_v (put_slot st s t) j ≡ t = rw q (get_or-set_same st.slots s t empty_slot lt) in
    let k = keeps (rw here at op) in
    rw (here, k.1) (b.own c s nz le (λ y. op (rw here (k.0 ∙ y))) (e ∙ rw here k.0)))
    (λ q. let there = get_or-set_other st.slots s j t empty_slot q in rw there (b.own c j nz le (rw there at op) (rw there at e))))
    (λ j. by_eq j s (λ q. rw (q, get_or-set_same st.slots s t empty_slot lt) low) (λ q. rw (get_or-set_other st.slots s j t empty_slot q) (b.lows j)))

none_low : Lows empty_slot
none_low = (λ nz. absurd (nz refl), λ _. refl)

-- the least of ids that are not 0 is not 0
least_real : (c : ℕ) (l : List ℕ) → c ≢ 0 → All (λ x. x ≢ 0) l → least c l ≢ 0
unfolding least
least_real c [] nz a = nz
least_real c (x ∷ l) nz a = let k = least_real c l nz a.1 in omega (arith, a.0)

ids_real : (ss : List Slot) → All (λ x. x ≢ 0) (ids_v ss)
unfolding ids_v
ids_real [] = tt
ids_real (t ∷ l) = by_eq t.id 0 (λ e. rw (eq-eqb t.id 0 e) (ids_real l)) (λ e. rw (ne_eqb t.id 0 e) (e, ids_real l))

publish_slots : (id : ℕ) (ws : List Write) (st : View) → (publish_all_v id ws st).slots ≡ st.slots
unfolding fold
publish_slots id [] st = refl
publish_slots id (w ∷ l) st = publish_slots id l (publish_v id w st)

news_add : (ws : List Write) (w : Write) → news (ws ++ (w ∷ [])) ≡ news ws ++ (w.new ∷ [])
news_add [] w = refl
news_add (x ∷ l) w = ap (λ (y : List ℕ). x.new ∷ y) (news_add l w)

-- the rows and the cells of a write set differ
distinct_from : (f : ℕ → Ver) (w : Write) (l : List Write) → own_find f l w.row ≡ none → cnt w.new (news l) ≡ 0 → All (λ x. (x.row ≢ w.row) × (x.new ≢ w.new)) l
distinct_from f w [] e y = tt
distinct_from f w (x ∷ l) e y = let k = no_entry f x l w.row e in ((k.0, λ q. cnt_head w.new x.new (news l) y (sym q)), distinct_from f w l k.1 (cnt_tail w.new x.new (news l) y))

distinct : (f : ℕ → Ver) (R t : ℕ) (ws : List Write) → Entries f R t ws → ((x : ℕ) → cnt x (news ws) ≤ 1) → Distinct ws
unfolding cnt
distinct f R t [] e k = tt
distinct f R t (w ∷ l) e k = (distinct_from f w l e.3 (omega (arith, k w.new, cnt_same w.new (news l))), distinct f R t l e.4 (λ x. omega (arith, k x)))

few : {A B : Type 0} (f : A → B) (k : ℕ) (l : List A) → length (map f (take k l)) ≤ k
few f zero l = omega arith
few f (suc k) [] = omega arith
few f (suc k) (x ∷ l) = omega (arith, few f k l)

past_end : (l : List Slot) (i : ℕ) → length l ≤ i → get_or l i empty_slot ≡ empty_slot
past_end [] i h = refl
past_end (x ∷ l) zero h = absurd (omega arith)
past_end (x ∷ l) (suc i) h = past_end l i (omega arith)

few_slots : (z : Sizes) (ss : List (List ℕ)) → length (slots_of z ss) ≤ z.slots
unfolding slots_of
few_slots z ss = few (slot_of z) z.slots ss

module _ {z : Sizes} (R N : ℕ) (m : Mem z) (h : Hist) (gd : Good R N m h) (b : Born R (suc N) (view_of m)) where
  abbrev st : View
  st = view_of m

  abbrev Kept : Mem z → Type 0
  Kept x = Born R (suc N) (view_of x)

  abbrev iv : Inv R (suc N) (view_of m) gd.ghost h []
  iv = gd.inv

  -- ---- begin
  begin_slot : (s : ℕ) → s < z.slots → Kept (begun m s)
  unfolding cnt
  begin_slot s lt =
      let within : s < length st.slots = rw (slots_length z m.slots gd.shaped.slots.count) lt in
      let t = new_slot (clock m) (snap_low (clock m + 1) (born_v st s)) (snap_top (clock m + 1) (born_v st s)) (born_v st s) in
      rw (view_begin m s gd.shaped lt)
      (frame R (suc N) st (begin_v s st) [] (λ r. refl) (λ c y. (refl, refl)) (λ c nz. absurd (nz refl)) (λ c o. refl) (omega arith) b
      (λ c j nz le op e. by_eq j s
      (λ q.
      let here : (slot_v (begin_v s st) j).id ≡ clock m = rw q (ap (λ (x : Slot). x.id) (get_or-set_same st.slots s t empty_slot within)) in
      absurd (omega (arith, b.past c nz le, e, here)))
      (λ q. let there = get_or-set_other st.slots s j t empty_slot q in rw there (b.own c j nz le (rw there at op) (rw there at e))))
      (λ j. by_eq j s
      (λ q. rw (q, get_or-set_same st.slots s t empty_slot within) (λ y. least_real (clock m + 1) (born_v st s) (omega arith) (ids_real (set st.slots s (new_slot (clock m) 0 0 []))), λ y. absurd (iv.ticking y)))
      (λ q. rw (get_or-set_other st.slots s j t empty_slot q) (b.lows j))))

  pub begin_born : Kept (begin_out m).after
  unfolding begin_out
  begin_born = guard_case (λ (o : Outcome z Answer ℕ). Kept o.after) (refuse m) _ _ (λ k x. b)
      (λ p.
      let s = vacant (take z.slots m.slots) in
      let q = (passed_split (store_tests m) (test (leb z.slots s) no_free_slot 0 ∷ test (eqb (clock m) last_id) clock_spent 0 ∷ []) p).1 in
      begin_slot s (leb-false z.slots s q.0))

  -- ---- read and lookup
  module _ (s id : ℕ) (o : Owner m s id) where
    within : s < length st.slots
    within = open_in st.slots s (view_open m s id o)

    recs_born : (l : List Rec) → Rightly z st gd.ghost s ((slot_v st s).recs ++ l) → Kept (with_slot m s (add_recs z l (words_at m s)))
    recs_born l a =
        let le : get_or (words_at m s) (READS z) 0 + length l ≤ z.reads = rw (length-append (slot_v st s).recs l, recs_count R N m h gd s id o) at a.few in
        rw (view_recs m s o.slot gd.shaped l le) (slot_born R (suc N) st s (with_recs (slot_v st s) l) within (λ nz. (refl, refl)) (b.lows s) b)

    found_born : (late : List Test) (key room : ℕ) (f : Found) → Fine R N m h gd s id o key room f → Kept (lookup_end m s late f).after
    unfolding lookup_end
    found_born late key room (stopped k x) a = b
    found_born late key room (got l rows) a = guard_case (λ (x : Outcome z Answer ℕ). Kept x.after) (refuse m) late _ (λ k x. b) (λ _. recs_born l a)

    sight_born : (g : Sight) → Noted z st gd.ghost s (slot_v st s).recs g → Kept (read_end m s g).after
    unfolding read_end
    sight_born (blocked k x) a = b
    sight_born (sees c l) a = recs_born l a

  pub read_born : (s id row : ℕ) → Kept (read_out m s id row).after
  unfolding read_out
  read_born s id row = guard_case (λ (x : Outcome z ReadAnswer ℕ). Kept x.after) (refuse_read m) (slot_tests m s id ++ row_test m row ∷ []) _ (λ k x. b)
      (λ p.
      let q = passed_split (slot_tests m s id) (row_test m row ∷ []) p in
      let o = owner m s id q.0 in
      sight_born s id o _ (noted_at R N m h gd s id o row (leb-false (size_r m) row q.1.0)))

  pub lookup_born : (s id key : ℕ) (cands : List ℕ) (room : ℕ) → Kept (lookup_out m s id key cands room).after
  unfolding lookup_out
  lookup_born s id key cands room = guard_case (λ (x : Outcome z Answer ℕ). Kept x.after) (refuse m) (slot_tests m s id ++ each (candidate_tests m) cands) _ (λ k x. b)
      (λ p.
      let o = owner m s id (passed_split (slot_tests m s id) (each (candidate_tests m) cands) p).0 in
      found_born s id o _ key room _ (found_fine R N m h gd s id o key room _ (rows_below R N m h gd (slot_at m s).writes cands)))

  pub lookup_all_born : (s id key room : ℕ) → Kept (lookup_all_out m s id key room).after
  unfolding lookup_all_out
  lookup_all_born s id key room = guard_case (λ (x : Outcome z Answer ℕ). Kept x.after) (refuse m) (slot_tests m s id) _ (λ k x. b)
      (λ p. let o = owner m s id p in found_born s id o _ key room _ (found_fine R N m h gd s id o key room _ (all_rows_below R N m h gd)))

  -- ---- write
  module _ (s id row : ℕ) (v : Option ℕ) where
    replaced_born : (c : ℕ) → HasCell m.cells c → Kept (replaced m c v)
    unfolding cnt
    replaced_born c k =
        let u = with_value (st.vers c) v in
        let st' = with_vers st (upd st.vers c u) in
        let mins = part_same of_min st.vers c u refl in
        rw (view_replaced m c v k)
        (frame R (suc N) st st' [] (λ r. refl) (λ d y. (mins d, part_same of_next st.vers c u refl d)) (λ d nz. absurd (nz refl)) (λ d o. refl) (omega arith) b
        (λ d j nz le op e. b.own d j nz le op (sym (mins d) ∙ e)) b.lows)

    prepared_born : (o : Owner m s id) → head_at m row ≤ size_n m → get_or (words_at m s) (WRITES z) 0 < z.writes → free m ≢ 0 → free m ≤ size_n m → Kept (prepared m s id row v)
    unfolding cnt
    prepared_born o hd few fz fn =
        let sh = gd.shaped in
        let f = free m in
        let fr : HasCell m.cells f = record { low = omega arith; high = omega (arith, sh.cells) } in
        let op = view_open m s id o in
        let sid = view_id m s id o in
        let g = lock_v (st.heads row) id st.vers in
        let u = version id 0 0 (keyed_of v) (key_of v) 0 0 in
        let st' = prepare_v s id row v st in
        let fre : cnt f gd.ghost.fl ≢ 0 = spelled_first st.links f gd.ghost.fl iv.frees fz in
        let past : id < clock m = rw sid at (iv.opens s op).snap.begun in
        let kept : (c : ℕ) → c ≢ f → (min_of st' c ≡ min_of st c) × (nexts st' c ≡ nexts st c) =
        λ c ne. (part_off of_min g f u c ne ∙ ap (λ (k : ℕ → ℕ). k c) (lock_part of_min (λ w l q. refl) (st.heads row) id st.vers), part_off of_next g f u c ne ∙ ap (λ (k : ℕ → ℕ). k c) (lock_part of_next (λ w l q. refl) (st.heads row) id st.vers)) in
        rw (view_prepared m s id row v sh o.slot few fr (omega (arith, sh.cells)))
        (frame R (suc N) st st' (f ∷ []) (λ r. refl)
        (λ c y. kept c (cnt_head c f [] y))
        (λ c nz. by_eq c f (λ q. rw q (rw (part_on of_min g f u) past, part_on of_next g f u)) (λ q. absurd (nz (cnt_other c f [] q))))
        (λ c k. cnt_other c f [] (λ q. fre (rw q at (on_unfree R (suc N) st gd.ghost h iv k))))
        (omega arith) b
        (λ c j nz le oj e. by_eq j s
        (λ q.
        let here : slot_v st' j ≡ with_write (slot_v st s) (S.write row (st.heads row) f) = rw q (get_or-set_same st.slots s _ empty_slot (within s id o)) in
        rw (here, news_add (slot_v st s).writes (S.write row (st.heads row) f)) (rw (cnt_append c (news (slot_v st s).writes) (f ∷ []))
        (by_eq c f
        (λ y. λ w. let x = cnt_same c [] in let x' : cnt c (f ∷ []) ≡ 1 = rw (← y) x in omega arith)
        (λ y. λ w. b.own c s nz le op (sym (kept c y).0 ∙ e ∙ ap (λ (t : Slot). t.id) here) (omega arith)))))
        (λ q.
        let there = get_or-set_other st.slots s j _ empty_slot q in
        by_eq c f
        (λ y. absurd (ids_differ R (suc N) st gd.ghost h [] s iv op j q (sym (ap (λ (t : Slot). t.id) there) ∙ sym e ∙ rw (y, sid) (part_on of_min g f u))))
        (λ y. rw there (b.own c j nz le (rw there at oj) (sym (kept c y).0 ∙ (rw there at e))))))
        (λ j. by_eq j s (λ q. rw (q, get_or-set_same st.slots s (with_write (slot_v st s) (S.write row (st.heads row) f)) empty_slot (within s id o)) (b.lows s)) (λ q. rw (get_or-set_other st.slots s j (with_write (slot_v st s) (S.write row (st.heads row) f)) empty_slot q) (b.lows j))))

    now_born : Owner m s id → (x : Option Write) → Kept (write_now m s id row v x).after
    unfolding write_now head_tests
    now_born o none = guard_case (λ (x : Outcome z Answer ℕ). Kept x.after) (refuse m) _ _ (λ k x. b)
        (λ p. prepared_born o (ltb-false _ _ p.0) (leb-false _ _ p.1.1.1.0) (eqb-false _ _ p.1.1.1.1.0) (ltb-false _ _ p.1.1.1.1.1.0))
    now_born o (some w) = guard_case (λ (x : Outcome z Answer ℕ). Kept x.after) (refuse m) (test (not (is_cell (size_n m) w.new)) damaged 0 ∷ []) _ (λ k x. b)
        (λ p. replaced_born w.new (cell_in (size_n m) w.new m.cells gd.shaped.cells p.0))

    pub write_born : Kept (write_out m s id row v).after
    unfolding write_out
    write_born = guard_case (λ (x : Outcome z Answer ℕ). Kept x.after) (refuse m) (slot_tests m s id ++ row_test m row ∷ []) _ (λ k x. b)
        (λ p. now_born (owner m s id (passed_split (slot_tests m s id) (row_test m row ∷ []) p).0) (own (slot_at m s).writes row))

  -- ---- commit
  module _ (s id : ℕ) where
    abbrev ws : List Write
    ws = (slot_at m s).writes

    once : (x : ℕ) → in_slot x (slot_v st s) ≤ 1
    unfolding cnt
    once x = omega (arith, iv.once x, inb_le (suc N) x, sum_at (in_slot x) st.slots s empty_slot refl)

    ready : (l : List Write) → Tested st.heads l → Entries (vers st) R id l → id ≢ 0 → ((c : ℕ) → cnt c (news l) ≢ 0 → in_slot c (slot_v st s) ≢ 0) → All (Ready R (suc N) st) l
    unfolding ver_of
    ready [] t e nz f = tt
    ready (w ∷ l) t e nz f =
        let here = f w.new (λ y. cnt_head w.new w.new (news l) y refl) in (
          record {
            row = e.0;
            base = t.0;
            new = (own_cell R (suc N) st gd.ghost h s w.new iv here).0;
            created = λ y. nz (sym e.1 ∙ y);
            loose = λ o. here (on_unslot R (suc N) st gd.ghost h iv o s);
          },
          ready l t.1 e.4 nz (λ c k. f c (λ y. k (cnt_tail c w.new (news l) y))),
        )

    pub commit_born : Kept (commit_out m s id).after
    unfolding commit_out
    commit_born = guard_case (λ (x : Outcome z Answer ℕ). Kept x.after) (refuse m) (slot_tests m s id ++ commit_tests m (slot_at m s) ws) _ (λ k x. b)
        (λ p.
        let q = passed_split (slot_tests m s id) (commit_tests m (slot_at m s) ws) p in
        let o = owner m s id q.0 in
        let op = view_open m s id o in
        let at = get_slots z m.slots s o.slot in
        let f = commit_facts m m gd.shaped.rows gd.shaped.cells (slot_at m s) ws q.1 in
        let en : Entries (vers st) R id ws = rw (at, slot_id m s id o) at (iv.opens s op).entries in
        let vw : view_of (with_slot (publish_all id ws m) s (emptied z)) ≡ put_slot (publish_all_v id ws st) s empty_slot =
        view_close (publish_all id ws m) s o.slot ∙ ap (λ (x : View). put_slot x s empty_slot) (view_publish_all id ws m f.1) in
        rw vw
        (slot_born R (suc N) (publish_all_v id ws st) s empty_slot (rw (publish_slots id ws st) (within s id o)) (λ nz. absurd (nz refl)) none_low
        (publish_all_born R (suc N) id ws st (ready ws f.0 en o.real (λ c k. rw at k)) (distinct (vers st) R id ws en (λ x. rw at at (once x))) b)))

  -- ---- abort
  module _ (s id : ℕ) where
    pub abort_born : Kept (abort_out m s id).after
    unfolding abort_out
    abort_born = guard_case (λ (x : Outcome z Answer ℕ). Kept x.after) (refuse m) (slot_tests m s id ++ each (abort_tests m) (slot_at m s).writes) _ (λ k x. b)
        (λ p.
        let l = (slot_at m s).writes in
        let q = passed_split (slot_tests m s id) (each (abort_tests m) l) p in
        let o = owner m s id q.0 in
        let at = get_slots z m.slots s o.slot in
        let f = abort_entries_in m m.cells gd.shaped.cells l q.1 in
        let loosed = with_cells m (fold (unlock_base id) l m.cells) in
        let u = unlock_vers id l m.cells f.0 in
        let st₁ = with_vers st (unlock_v id l st.vers) in
        let e : view_of loosed ≡ st₁ = λ i. record { vers = u.0 i; links = u.1 i; heads = head_at m; free = free m; clock = clock m; slots = slots_of z m.slots } in
        let st₂ = give_all_v (news l) st₁ in
        let vw : view_of (with_slot (fold give_back (news l) loosed) s (emptied z)) ≡ put_slot st₂ s empty_slot =
        view_close (fold give_back (news l) loosed) s o.slot
        ∙ ap (λ (x : View). put_slot x s empty_slot) (view_give_all (news l) loosed (all_cells m.cells loosed.cells u.2 (news l) f.1) gd.shaped.metas ∙ ap (give_all_v (news l)) e) in
        let rest = give_rest (news l) st₁ in
        let kept : (c : ℕ) → cnt c (news l) ≡ 0 → (min_of st₂ c ≡ min_of st c) × (nexts st₂ c ≡ nexts st c) =
        λ c y. let k = give_stays (news l) st₁ c y in (ap of_min k ∙ ap (λ (a : ℕ → ℕ). a c) (unlock_part of_min (λ w x y. refl) id l st.vers), ap of_next k ∙ ap (λ (a : ℕ → ℕ). a c) (unlock_part of_next (λ w x y. refl) id l st.vers)) in
        let gone : (c : ℕ) → cnt c (news l) ≢ 0 → st₂.vers c ≡ empty_version = give_gone (news l) st₁ in
        rw vw
        (slot_born R (suc N) st₂ s empty_slot (rw rest.2 (within s id o)) (λ nz. absurd (nz refl)) none_low
        (frame R (suc N) st st₂ (news l) (λ r. ap (λ (a : ℕ → ℕ). a r) rest.0) kept
        (λ c k. (let y : min_of st₂ c ≡ 0 = ap of_min (gone c k) in omega (arith, y, rest.1, iv.ticking), ap of_next (gone c k)))
        (λ c k. rw at at (on_unslot R (suc N) st gd.ghost h iv k s))
        (omega (arith, rest.1)) b
        (λ c j nz le oj e. by_eq (cnt c (news l)) 0
        (λ y. rw rest.2 (b.own c j nz le (rw rest.2 at oj) (sym (kept c y).0 ∙ (rw rest.2 at e))))
        (λ y. absurd (oj (sym e ∙ ap of_min (gone c y)))))
        (λ j. rw rest.2 (b.lows j)))))

  -- ---- vacuum
  module _ (row : ℕ) (in_r : row < R) (hz : ℕ) (un : (i : ℕ) → (slot_v (view_of m) i).id ≢ 0 → hz ≤ (slot_v (view_of m) i).low) (hd : ℕ) (l : List ℕ) (here : get_or gd.ghost.rows row [] ≡ hd ∷ l) where
    abbrev p : ℕ → Bool
    p c = reclaimable hz (version_at m.cells c)

    abbrev dead : List ℕ
    dead = keep p l

    abbrev alive : List ℕ
    alive = hd ∷ keep (λ c. not (p c)) l

    abbrev linked : Mem z
    linked = with_cells m (relink alive m.cells)

    in_row : (c : ℕ) → cnt c (hd ∷ l) ≢ 0 → HasCell m.cells c
    in_row c nz =
        let k = chain_cell R (suc N) st gd.ghost h [] c row iv (rw here nz) in
        let a = le_of_suc-le-suc k.inside in
        let r = k.real in
        record { low = omega arith; high = omega (arith, gd.shaped.cells, gd.cells) }

    -- the row's chain is the dead and the alive, none twice
    parts : (c : ℕ) → cnt c dead + cnt c alive ≡ cnt c (hd ∷ l)
    unfolding cnt
    parts c = omega (arith, cnt_keep p c l)

    one : (c : ℕ) → cnt c (hd ∷ l) ≤ 1
    one c = by_eq (cnt c (hd ∷ l)) 0 (λ y. omega arith) (λ y. let k = (chain_cell R (suc N) st gd.ghost h [] c row iv (rw here y)).single in let k' : cnt c (hd ∷ l) ≡ 1 = rw here at k in omega arith)

    abbrev st₁ : View
    st₁ = with_vers st (relink_v alive st.vers)

    abbrev st₂ : View
    st₂ = give_all_v dead st₁

    swept_view : view_of (fold give_back dead linked) ≡ st₂
    swept_view =
        let u = relink_vers alive m.cells (cells_of m.cells alive (λ c nz. in_row c (λ e. nz (omega (arith, parts c))))) in
        view_give_all dead linked (all_cells m.cells linked.cells (same_relink alive m.cells) dead (cells_of m.cells dead (λ c nz. in_row c (λ e. nz (omega (arith, parts c)))))) gd.shaped.metas
        ∙ ap (give_all_v dead) (λ i. record { vers = u.0 i; links = u.1 i; heads = head_at m; free = free m; clock = clock m; slots = slots_of z m.slots })

    abbrev lists : ℕ → List ℕ
    lists r = get_or (set gd.ghost.rows row alive) r []

    spelled : (r : ℕ) → r < R → Spelled (nexts st₂) (st₂.heads r) (lists r)
    spelled r lt = subst (λ (v : View). Spelled (nexts v) (v.heads r) (lists r)) swept_view (swept_rows R N m h gd row in_r hz un hd l here r lt)

    mins : (c : ℕ) → cnt c dead ≡ 0 → min_of st₂ c ≡ min_of st c
    mins c y = ap of_min (give_stays dead st₁ c y) ∙ ap (λ (a : ℕ → ℕ). a c) (relink_part of_min (λ v n. refl) alive st.vers)

    gone : (c : ℕ) → cnt c dead ≢ 0 → st₂.vers c ≡ empty_version
    gone = give_gone dead st₁

    -- what is in a chain after was in one before, and is not dead
    stood : (r c : ℕ) → r < R → cnt c (lists r) ≢ 0 → On R st c × (cnt c dead ≡ 0)
    stood r c lt nz = by_eq r row
        (λ q.
        let k : cnt c alive ≢ 0 = rw (q, get_or-set_same gd.ghost.rows row alive [] (rw iv.rowed in_r)) at nz in
        (row_on R (suc N) st gd.ghost h iv row c in_r (rw here (λ y. k (omega (arith, parts c)))), omega (arith, parts c, one c)))
        (λ q.
        let k : cnt c (get_or gd.ghost.rows r []) ≢ 0 = rw (get_or-set_other gd.ghost.rows row r alive [] q) at nz in
        let u : cnt c (hd ∷ l) ≡ 0 = rw here at ((chain_cell R (suc N) st gd.ghost h [] c r iv k).unrow row q) in
        (row_on R (suc N) st gd.ghost h iv r c lt k, omega (arith, parts c)))

    -- what is alive, or in another chain, is in one after
    stands : (r c : ℕ) → r < R → cnt c (lists r) ≢ 0 → On R st₂ c
    stands r c lt nz = listed_on R st₂ (lists r) (st₂.heads r) (spelled r lt) (λ k. head r lt refl k) c nz

    swept_born : Born R (suc N) st₂
    swept_born =
        let rest = give_rest dead st₁ in
        record {
          past = λ c nz lt. by_eq (cnt c dead) 0 (λ y. rw (mins c y, rest.1) (b.past c nz lt)) (λ y. let k : min_of st₂ c ≡ 0 = ap of_min (gone c y) in omega (arith, k, rest.1, iv.ticking));
          real = λ c o. let k = on_listed R st₂ lists spelled o in let q = stood k.0 c k.1 k.2 in λ y. b.real c q.0 (sym (mins c q.1) ∙ y);
          bare = λ c nz lt none_here. by_eq (cnt c dead) 0
              (λ y.
              by_eq (cnt c alive) 0
              (λ a. ap of_next (give_stays dead st₁ c y ∙ relink_off alive st.vers c a)
              ∙ b.bare c nz lt (λ o.
              let k = on_row R (suc N) st gd.ghost h iv o in
              none_here (stands k.0 c k.1 (by_eq k.0 row
              (λ q. let x : cnt c (hd ∷ l) ≢ 0 = rw (q, here) at k.2 in absurd (x (omega (arith, parts c))))
              (λ q. rw (get_or-set_other gd.ghost.rows row k.0 alive [] q) k.2)))))
              (λ a. absurd (none_here (stands row c in_r (rw (get_or-set_same gd.ghost.rows row alive [] (rw iv.rowed in_r)) a)))))
              (λ y. ap of_next (gone c y));
          own = λ c j nz lt op e. by_eq (cnt c dead) 0
              (λ y. rw rest.2 (b.own c j nz lt (rw rest.2 at op) (sym (mins c y) ∙ (rw rest.2 at e))))
              (λ y. absurd (op (sym e ∙ ap of_min (gone c y))));
          lows = λ j. rw rest.2 (b.lows j);
        }

    row_born : (room : ℕ) → Kept (swept m hz room hd l).after
    unfolding swept
    row_born room = guard_case (λ (x : Outcome z Answer (List ℕ)). Kept x.after) (refuse m) _ _ (λ k x. b) (λ _. rw swept_view swept_born)

  vacuum_now_lem : (row : ℕ) (in_r : row < R) (hz : ℕ) → ((i : ℕ) → (slot_v (view_of m) i).id ≢ 0 → hz ≤ (slot_v (view_of m) i).low) → (room : ℕ) (l : List ℕ) → get_or gd.ghost.rows row [] ≡ l → Kept (vacuum_now m hz room l ends).after
  unfolding vacuum_now
  vacuum_now_lem row in_r hz un room [] e = b
  vacuum_now_lem row in_r hz un room (hd ∷ l) e = row_born row in_r hz un hd l e room

  pub vacuum_born : (row request room : ℕ) → Kept (vacuum_out m row request room).after
  unfolding vacuum_out
  vacuum_born row request room = guard_case (λ (x : Outcome z Answer (List ℕ)). Kept x.after) (refuse m) (store_tests m ++ row_test m row ∷ []) _ (λ k x. b)
      (λ p.
      let in_r : row < R = rw gd.rows at (leb-false (size_r m) row (passed_split (store_tests m) (row_test m row ∷ []) p).1.0) in
      rw (row_chain_lem R N m h gd row in_r) (vacuum_now_lem row in_r (horizon m request) (horizon_under m request) room (get_or gd.ghost.rows row []) refl))

-- ---- an accepted creation, on any memory: every cell is cleared, no row has a head, no slot is open
module _ {z : Sizes} (m : Mem z) (n r : ℕ) (e : fits m r n ≡ true) where
  abbrev fit : Fitting m r n
  fit = (is_fitting m r n).yes e

  abbrev fresh : View
  fresh = view_of (created m n r)

  cleared : (c : ℕ) → c ≢ 0 → c < suc n → fresh.vers c ≡ empty_version
  cleared c nz lt = created_cells_are_cleared m n r fit c (omega arith) (omega arith)

  nothing_on : {c : ℕ} → On r fresh c → ⊥
  nothing_on (head k lt q nz) = nz (sym q ∙ created_heads_are_0 m n r fit k lt)
  nothing_on (next d o q nz) = nothing_on o

  nobody : (j : ℕ) → ((slot_v fresh j).id ≡ 0) × ((slot_v fresh j).low ≡ 0)
  nobody j = by_bool (ltb j z.slots)
      (λ y.
      let lt = ltb-true j z.slots y in
      let e = get_slots z (created m n r).slots j lt ∙ ap (slot_of z) (created_slots_are_empty m n r fit j lt) ∙ slot_emptied z in
      (ap (λ (t : Slot). t.id) e, ap (λ (t : Slot). t.low) e))
      (λ y. let e = past_end fresh.slots j (omega (arith, ltb-false j z.slots y, few_slots z (created m n r).slots)) in (ap (λ (t : Slot). t.id) e, ap (λ (t : Slot). t.low) e))

  pub create_born : Born r (suc n) fresh
  create_born = record {
    past = λ c nz lt. let k : min_of fresh c ≡ 0 = ap of_min (cleared c nz lt) in omega (arith, k, (created_sizes_and_clock m n r fit).2);
    real = λ c o. absurd (nothing_on o);
    bare = λ c nz lt no-chain. ap of_next (cleared c nz lt);
    own = λ c j nz lt op q. absurd (op (nobody j).0);
    lows = λ j. (λ op. absurd (op (nobody j).0), λ _. (nobody j).1);
  }
