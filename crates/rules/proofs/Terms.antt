-- The conditions of the paper as propositions, and that each test of the definitions decides its condition. Who reads the tables of
-- refusals reads these and no test.
use Rattle.std.specs.Prelude.{ℕ, zero, suc, ◌≤◌, false, not, ◌||◌, cond, List, [], ◌∷◌, ◌++◌, ◌≡◌, refl, ◌≢◌, ◌⊎◌, length, take, get_or, eqb, leb}
use Rattle.std.proofs.Math.Option.{Option, none, some}
use Rattle.std.proofs.Common.{sym, ap, ◌∙◌, inl, arith, eq-eqb, ne_eqb}
use Rattle.kinds.specs.declared.Version.{Version}
use Rattle.words.specs.Sizes.{Sizes, meta_words, ID}
use Rattle.words.specs.Lists.{last, or_else}
use Rattle.rules.proofs.Theory.Cases.{by_bool, by_eq, no_both}
use Rattle.kinds.specs.Versions.{locked_by_other}
use Rattle.words.specs.Slots.{Write, Rec, Slot}
use Rattle.rules.specs.Memory.{Mem, size_r, size_n, clock}
use Rattle.kinds.specs.Visible.{creator_visible, visible, conflict}
use Rattle.rules.specs.Snapshot.{vacant}
use Rattle.rules.specs.Outcome.{fits, is_cell}
use Rattle.rules.specs.Read.{own, recorded}
use Rattle.rules.specs.Exactly.{Reflects}
use Rattle.rules.proofs.Exactly.{is_equal, is_less, is_most, is_not, is_nonzero, is_both, is_either, is_in, is_also, holds_true, fails_false}
use Rattle.rules.specs.Terms.{Fitting, CellOf, AllOccupied, CreatorSeen, Sees, Conflicts, LockedByOther, LastEntry, NoEntry, OwnIs, Recorded}

module _ {z : Sizes} (m : Mem z) where
  pub is_fitting : (r n : ℕ) → Reflects (fits m r n) (Fitting m r n)
  unfolding fits
  is_fitting r n =
      is_also _
      (is_both _ _ (is_most 1 r) (is_both _ _ (is_most r z.rows) (is_both _ _ (is_most 1 n) (is_both _ _ (is_most n z.cells)
      (is_both _ _ (is_most meta_words (length m.meta)) (is_both _ _ (is_most r (length m.rows)) (is_both _ _ (is_most n (length m.cells)) (is_most z.slots (length m.slots)))))))))
      (λ p.
      record {
        a_row = p.0;
        few_rows = p.1.0;
        a_cell = p.1.1.0;
        few_cells = p.1.1.1.0;
        metas = p.1.1.1.1.0;
        heads = p.1.1.1.1.1.0;
        cells = p.1.1.1.1.1.1.0;
        slots = p.1.1.1.1.1.1.1;
      })
      (λ p. (p.a_row, (p.few_rows, (p.a_cell, (p.few_cells, (p.metas, (p.heads, (p.cells, p.slots))))))))

  -- "saved sizes out of range or not fitting the lent lengths, clock 0"
  abbrev pub StoreDamaged : Type 0
  StoreDamaged = (Fitting m (size_r m) (size_n m) → ⊥) ⊎ (clock m ≡ 0)

  pub is_store_damaged : Reflects (not (fits m (size_r m) (size_n m)) || eqb (clock m) 0) StoreDamaged
  is_store_damaged = is_either _ _ (is_not _ (is_fitting (size_r m) (size_n m))) (is_equal (clock m) 0)

  -- a store that is not damaged fits
  pub store_fits : (StoreDamaged → ⊥) → Fitting m (size_r m) (size_n m)
  store_fits n = by_bool (fits m (size_r m) (size_n m)) (λ e. (is_fitting (size_r m) (size_n m)).yes e) (λ e. absurd (n (inl ((is_fitting (size_r m) (size_n m)).no e))))

pub is_cell_lem : (n c : ℕ) → Reflects (is_cell n c) (CellOf n c)
is_cell_lem n c = is_also _ (is_both _ _ (is_nonzero c) (is_most c n)) (λ p. record { low = pos c p.0; high = p.1 }) (λ p. (λ e. omega (arith, p.low), p.high))
  where
    pos : (c : ℕ) → c ≢ 0 → 1 ≤ c
    pos zero n = absurd (n refl)
    pos (suc c) n = omega arith

pub is_all_occupied : (k : ℕ) (l : List (List ℕ)) → Reflects (leb k (vacant (take k l))) (AllOccupied k l)
unfolding vacant
is_all_occupied zero l = record { yes = λ e s h. absurd (omega arith); no = λ e p. let f = (is_most 0 (vacant [])).no e in f (omega arith) }
is_all_occupied (suc k) [] = record { yes = λ e. absurd (let f = (is_most (suc k) 0).yes e in omega arith); no = λ e p. p 0 (omega arith) refl }
is_all_occupied (suc k) (t ∷ l) = by_eq (get_or t ID 0) 0
    (λ e. rw (eq-eqb (get_or t ID 0) 0 e) (record { yes = λ h. absurd (let f = (is_most (suc k) 0).yes h in omega arith); no = λ h p. p 0 (omega arith) e }))
    (λ n. rw (ne_eqb (get_or t ID 0) 0 n)
    (record {
      yes = λ h. on n ((is_all_occupied k l).yes (holds_true _ (is_most k (vacant (take k l))) (let f = (is_most (suc k) (suc (vacant (take k l)))).yes h in omega arith)));
      no = λ h p. (is_all_occupied k l).no (fails_false _ (is_most k (vacant (take k l))) (λ q. (is_most (suc k) (suc (vacant (take k l)))).no h (omega arith))) (λ s b. p (suc s) (omega arith));
    }))
  where
    on : get_or t ID 0 ≢ 0 → AllOccupied k l → AllOccupied (suc k) (t ∷ l)
    on n p zero h = n
    on n p (suc s) h = p s (omega arith)

pub is_creator_seen : (t : Slot) (x : ℕ) → Reflects (creator_visible t x) (CreatorSeen t x)
unfolding creator_visible
is_creator_seen t x = is_both _ _ (is_nonzero x) (is_either _ _ (is_equal x t.id) (is_both _ _ (is_less x t.top) (is_not _ (is_in x t.active))))

pub is_seen : (t : Slot) (v : Version) → Reflects (visible t v) (Sees t v)
unfolding visible
is_seen t v =
    is_also _ (is_both _ _ (is_creator_seen t v.xmin.0) (is_not _ (is_both _ _ (is_nonzero v.xmax.0) (is_creator_seen t v.xmax.0))))
    (λ p. record { made = p.0; standing = λ a b. p.1 (a, b) })
    (λ p. (p.made, λ q. p.standing q.0 q.1))

pub is_conflicting : (t : Slot) (v : Version) (x : ℕ) → Reflects (conflict t v x) (Conflicts t v x)
unfolding conflict
is_conflicting t v x =
    is_either _ _ (is_not _ (is_equal v.xmin.0 x))
    (is_both _ _ (is_nonzero v.xmax.0) (is_both _ _ (is_not _ (is_equal v.xmax.0 t.id)) (is_either _ _ (is_most t.top v.xmax.0) (is_in v.xmax.0 t.active))))

pub is_locked_by_other : (v : Version) (id : ℕ) → Reflects (locked_by_other v id) (LockedByOther v id)
is_locked_by_other v id = is_both _ _ (is_nonzero v.locked) (is_not _ (is_equal v.owner.0 id))

pub own_is : (ws : List Write) (row : ℕ) → OwnIs ws row (own ws row)
unfolding own last
own_is [] row = tt
own_is (w ∷ ws) row = more (last (λ q. eqb q.row row) ws) (own_is ws row)
  where
    more : (o : Option Write) → OwnIs ws row o → OwnIs (w ∷ ws) row (or_else o (cond (eqb w.row row) (some w) none))
    more (some q) h = record { before = w ∷ h.before; after = h.after; parts = ap (λ (l : List Write). w ∷ l) h.parts; of_row = h.of_row; none = h.none }
    more none h = by_eq w.row row
        (λ e. rw (eq-eqb w.row row e) (record { before = []; after = ws; parts = refl; of_row = e; none = h }))
        (λ n. rw (ne_eqb w.row row n) (n, h))

own_beyond : (ws : List Write) (row : ℕ) → NoEntry ws row → own ws row ≡ none
unfolding own last
own_beyond [] row h = refl
own_beyond (w ∷ ws) row h = rw (own_beyond ws row h.1, ne_eqb w.row row h.0)

own_among : (before : List Write) (w : Write) (after : List Write) (row : ℕ) → w.row ≡ row → NoEntry after row → own (before ++ w ∷ after) row ≡ some w
unfolding own last
own_among [] w after row e h = rw (own_beyond after row h, eq-eqb w.row row e)
own_among (q ∷ before) w after row e h = rw (own_among before w after row e h)

-- ... and it finds nothing else
pub is_own : (ws : List Write) (row : ℕ) (o : Option Write) → OwnIs ws row o → own ws row ≡ o
is_own ws row none h = own_beyond ws row h
is_own ws row (some w) h = rw h.parts (own_among h.before w h.after row h.of_row h.none)

-- a row has an own entry or it has none
pub entry_or_none : (ws : List Write) (row : ℕ) (w : Write) → LastEntry ws row w → NoEntry ws row → ⊥
entry_or_none ws row w i n =
    let g : some w ≡ none = sym (is_own ws row (some w) i) ∙ is_own ws row none n in
    let x : ◌≡◌ {A = ℕ} 0 1 = cc in
    omega arith

pub is_recorded : (c : ℕ) (l : List Rec) → Reflects (recorded c l) (Recorded c l)
unfolding recorded
is_recorded c [] = record { yes = λ e. no_both false e refl; no = λ e p. p }
is_recorded c (q ∷ l) = is_either _ _ (is_equal c q.cell) (is_recorded c l)
