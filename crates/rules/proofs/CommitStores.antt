-- A commit's changes as single stores. Each sets fields of one cell, one head or the slot to values that the write set and the id give: all
-- are fixed before the first. And however often some of them were done before, in whatever order, the whole list comes to the same: a
-- commit that was cut between any two stores can be begun anew.
use Rattle.std.specs.Prelude.{ℕ, ◌<◌, ◌≤◌, ◌-◌, ◌≡◌, ◌≢◌, ◌⊎◌, eqb, length}
use mathlib.Core.List.{List, [], ◌∷◌, ◌++◌}
use Rattle.std.proofs.Math.Path.{refl, ap}
use Rattle.std.proofs.Common.{sym, ◌∙◌, inl, inr, arith}
use Rattle.std.proofs.Math.Logic.{⊎_elim}
use Rattle.std.proofs.Math.Seq.{set-set, set_comm}
use Rattle.std.proofs.lemmas.Bool.{eqb-false}
use Rattle.kinds.specs.declared.Version.{Version}
use Rattle.kinds.specs.Answer.{Answer, Done}
use Rattle.words.specs.Sizes.{Sizes}
use Rattle.words.specs.Lists.{fold}
use Rattle.words.specs.Slots.{Write, write, emptied}
use Rattle.kinds.specs.Versions.{with_xmax, with_next, unlocked, version_at, link_at, put_cell, put_version}
use Rattle.rules.specs.Memory.{Mem, slot_at, with_cells, with_head, with_slot}
use Rattle.rules.specs.Outcome.{Outcome, slot_tests}
use Rattle.rules.specs.Commit.{mark_base, publish, publish_all, commit_tests, commit_out}
use Rattle.rules.specs.Exactly.{In, All}
use Rattle.rules.proofs.Exactly.{all_map}
use Rattle.rules.proofs.Terms.{store_fits}
use Rattle.rules.proofs.Along.{positive}
use Rattle.rules.proofs.Members.{all_in}
use Rattle.rules.proofs.CommitAllOrNothing.{commit_accepted_when, commit_accepted_leaves_exactly}
use Rattle.rules.proofs.Validation.{commit_tested}
use Rattle.rules.proofs.Theory.Cases.{by_bool, by_eq}
use Rattle.rules.specs.Theory.CellLaws.{HasCell}
use Rattle.rules.proofs.Theory.CellLaws.{length_put, put_on, put_link, put_else}
use Rattle.rules.specs.Theory.Bridge.{AllIn}
use Rattle.rules.proofs.Theory.Guard.{passed_split}
use Rattle.rules.proofs.Theory.CommitCall.{commit_facts}
use Rattle.rules.specs.CommitStores.{Store, write_stores, commit_stores, clear, mark, move, link}

-- row 0 written over cell 1 with cell 2
pub four_stores : commit_stores (write 0 1 2 ∷ []) ≡ mark 1 ∷ link 2 1 ∷ move 0 2 ∷ clear ∷ []
unfolding commit_stores write_stores
four_stores = refl

-- ---- fields of a cell changed
abbrev touch : (Version → Version) → ℕ → List (List ℕ) → List (List ℕ)
touch f c cs = put_version cs c (f (version_at cs c))

module _ (cs : List (List ℕ)) where
  put_put : (c : ℕ) (v w : Version) (k l : ℕ) → put_cell (put_cell cs c v k) c w l ≡ put_cell cs c w l
  unfolding put_cell
  put_put c v w k l = set-set cs (c - 1) _ _

  put_comm : (c d : ℕ) (v w : Version) (k l : ℕ) → 0 < c → 0 < d → c ≢ d → put_cell (put_cell cs c v k) d w l ≡ put_cell (put_cell cs d w l) c v k
  unfolding put_cell
  put_comm c d v w k l p q n = set_comm cs (c - 1) (d - 1) _ _ (λ e. n (omega arith))

  touch_same : (f g : Version → Version) (c : ℕ) → HasCell cs c → touch g c (touch f c cs) ≡ touch (λ v. g (f v)) c cs
  touch_same f g c h = rw (put_on cs c (f (version_at cs c)) (link_at cs c) h, put_link cs c (f (version_at cs c)) (link_at cs c) h) (put_put c _ _ _ _)

  touch_other : (f g : Version → Version) (c d : ℕ) → HasCell cs c → HasCell cs d → c ≢ d → touch g d (touch f c cs) ≡ touch f c (touch g d cs)
  touch_other f g c d h k n =
      let a = put_else cs c (f (version_at cs c)) (link_at cs c) d h.low (λ e. n (sym e)) in
      let b = put_else cs d (g (version_at cs d)) (link_at cs d) c k.low n in
      rw (a, b) (put_comm c d _ _ _ _ h.low k.low n)

  -- two changes that agree in either order, or of which the second hides the first
  touch_again : (f g : Version → Version) (c d : ℕ) → HasCell cs c → HasCell cs d → (((v : Version) → g (f v) ≡ f (g v)) ⊎ ((v : Version) → g (f v) ≡ g v))
      → (touch g d (touch f c cs) ≡ touch f c (touch g d cs)) ⊎ (touch g d (touch f c cs) ≡ touch g d cs)
  touch_again f g c d h k a = by_eq c d (λ e. rw (← e) (on a)) (λ n. inl (touch_other f g c d h k n))
    where
      put : Version → List (List ℕ)
      put v = put_version cs c v

      on : (((v : Version) → g (f v) ≡ f (g v)) ⊎ ((v : Version) → g (f v) ≡ g v)) → (touch g c (touch f c cs) ≡ touch f c (touch g c cs)) ⊎ (touch g c (touch f c cs) ≡ touch g c cs)
      on (inl e) = inl (touch_same f g c h ∙ ap put (e (version_at cs c)) ∙ sym (touch_same g f c h))
      on (inr e) = inr (touch_same f g c h ∙ ap put (e (version_at cs c)))

-- the cells that a store changes are among n
abbrev Fits : ℕ → Store → Type 0
Fits n (mark b) = (0 < b) × (b ≤ n)
Fits n (link c b) = (0 < c) × (c ≤ n)
Fits n (move r c) = Unit {0}
Fits n clear = Unit {0}

abbrev marking : ℕ → Version → Version
marking id v = unlocked (with_xmax v id)

abbrev linked : ℕ → Version → Version
linked b v = with_next v b

module _ {z : Sizes} (s id : ℕ) where
  -- what one store does; s is the slot of the commit, id its transaction
  abbrev pub store : Store → Mem z → Mem z
  store (mark b) m = with_cells m (touch (marking id) b m.cells)
  store (link c b) m = with_cells m (touch (linked b) c m.cells)
  store (move r c) m = with_head m r c
  store clear m = with_slot m s (emptied z)

  abbrev pub stored : List Store → Mem z → Mem z
  stored l m = fold store l m

  stored_append : (l r : List Store) (m : Mem z) → stored (l ++ r) m ≡ stored r (stored l m)
  unfolding fold
  stored_append [] r m = refl
  stored_append (p ∷ l) r m = stored_append l r (store p m)

  write_stores_lem : (w : Write) (m : Mem z) → stored (write_stores w) m ≡ publish id w m
  unfolding fold write_stores publish mark_base
  write_stores_lem w m = by_bool (eqb w.base 0) (λ e. rw e) (λ e. rw e)

  all_stores : (ws : List Write) (m : Mem z) → stored (commit_stores ws) m ≡ with_slot (publish_all id ws m) s (emptied z)
  unfolding fold commit_stores
  all_stores [] m = refl
  all_stores (w ∷ l) m = stored_append (write_stores w) (commit_stores l) m ∙ ap (stored (commit_stores l)) (write_stores_lem w m) ∙ all_stores l (publish id w m)

  -- ---- done before
  same_cells : (p : Store) (m : Mem z) → length (store p m).cells ≡ length m.cells
  same_cells (mark b) m = length_put m.cells b _ _
  same_cells (link c b) m = length_put m.cells c _ _
  same_cells (move r c) m = refl
  same_cells clear m = refl

  module _ (n : ℕ) where
    has : (m : Mem z) → length m.cells ≡ n → (c : ℕ) → (0 < c) × (c ≤ n) → HasCell m.cells c
    has m e c h = record { low = h.0; high = rw e h.1 }

    twice : (p : Store) (m : Mem z) → length m.cells ≡ n → Fits n p → store p (store p m) ≡ store p m
    twice (mark b) m e h = ap (with_cells m) (touch_same m.cells (marking id) (marking id) b (has m e b h))
    twice (link c b) m e h = ap (with_cells m) (touch_same m.cells (linked b) (linked b) c (has m e c h))
    twice (move r c) m e h = ap (λ (l : List ℕ). record { meta = m.meta; rows = l; cells = m.cells; slots = m.slots }) (set-set m.rows r c c)
    twice clear m e h = ap (λ (l : List (List ℕ)). record { meta = m.meta; rows = m.rows; cells = m.cells; slots = l }) (set-set m.slots s _ _)

    abbrev Again : Store → Store → Mem z → Type 0
    Again p q m = (store q (store p m) ≡ store p (store q m)) ⊎ (store q (store p m) ≡ store q m)

    cells_again : (m : Mem z) (f g : Version → Version) (c d : ℕ)
        → (touch g d (touch f c m.cells) ≡ touch f c (touch g d m.cells)) ⊎ (touch g d (touch f c m.cells) ≡ touch g d m.cells)
        → (with_cells m (touch g d (touch f c m.cells)) ≡ with_cells m (touch f c (touch g d m.cells))) ⊎ (with_cells m (touch g d (touch f c m.cells)) ≡ with_cells m (touch g d m.cells))
    cells_again m f g c d a = ⊎_elim (λ e. inl (ap (with_cells m) e)) (λ e. inr (ap (with_cells m) e)) a

    -- a store that stands further on may be done first, or what it does is hidden
    again : (p q : Store) (m : Mem z) → length m.cells ≡ n → Fits n p → Fits n q → Again p q m
    again (mark a) (mark b) m e h k = cells_again m (marking id) (marking id) a b (touch_again m.cells (marking id) (marking id) a b (has m e a h) (has m e b k) (inr (λ v. refl)))
    again (mark a) (link c b) m e h k = cells_again m (marking id) (linked b) a c (touch_again m.cells (marking id) (linked b) a c (has m e a h) (has m e c k) (inl (λ v. refl)))
    again (link c b) (mark a) m e h k = cells_again m (linked b) (marking id) c a (touch_again m.cells (linked b) (marking id) c a (has m e c h) (has m e a k) (inl (λ v. refl)))
    again (link c b) (link d a) m e h k = cells_again m (linked b) (linked a) c d (touch_again m.cells (linked b) (linked a) c d (has m e c h) (has m e d k) (inr (λ v. refl)))
    again (move r c) (move t d) m e h k = by_eq r t
        (λ y. inr (rw y (ap (λ (l : List ℕ). record { meta = m.meta; rows = l; cells = m.cells; slots = m.slots }) (set-set m.rows t c d))))
        (λ y. inl (ap (λ (l : List ℕ). record { meta = m.meta; rows = l; cells = m.cells; slots = m.slots }) (set_comm m.rows r t c d y)))
    again clear clear m e h k = inl refl
    again (mark a) (move r c) m e h k = inl refl
    again (mark a) clear m e h k = inl refl
    again (link c b) (move r d) m e h k = inl refl
    again (link c b) clear m e h k = inl refl
    again (move r c) (mark b) m e h k = inl refl
    again (move r c) (link d b) m e h k = inl refl
    again (move r c) clear m e h k = inl refl
    again clear (mark b) m e h k = inl refl
    again clear (link c b) m e h k = inl refl
    again clear (move r c) m e h k = inl refl

    one_before : (l : List Store) (p : Store) (m : Mem z) → length m.cells ≡ n → All (Fits n) l → Fits n p → In p l → stored l (store p m) ≡ stored l m
    unfolding fold
    one_before [] p m e a h i = absurd i
    one_before (q ∷ l) p m e a h (inl y) = rw y (ap (stored l) (twice q m e a.0))
    one_before (q ∷ l) p m e a h (inr i) = ⊎_elim
        (λ y. ap (stored l) y ∙ one_before l p (store q m) (same_cells q m ∙ e) a.1 h i)
        (λ y. ap (stored l) y)
        (again p q m e h a.0)

    many_before : (l ps : List Store) (m : Mem z) → length m.cells ≡ n → All (Fits n) l → All (λ p. In p l) ps → stored l (stored ps m) ≡ stored l m
    unfolding fold
    many_before l [] m e a i = refl
    many_before l (p ∷ ps) m e a i =
        many_before l ps (store p m) (same_cells p m ∙ e) a i.1 ∙ one_before l p m e a (all_in (Fits n) l a p i.0) i.0

-- what a commit's tests give: the cells are there
stores_fit : {z : Sizes} (m : Mem z) (ws : List Write) → AllIn m ws → All (Fits (length m.cells)) (commit_stores ws)
unfolding commit_stores write_stores
stores_fit m [] a = (tt, tt)
stores_fit m (w ∷ l) a =
    let new : (0 < w.new) × (w.new ≤ length m.cells) = (a.0.new_in.low, a.0.new_in.high) in
    let rest = stores_fit m l a.1 in
    by_bool (eqb w.base 0) (λ e. rw e (new, (tt, rest)))
    (λ e. let n = eqb-false _ _ e in rw e ((positive w.base n, a.0.base_in), (new, (tt, rest))))

all_are_in : (l r : List Store) → All (λ p. In p (l ++ r)) l
all_are_in [] r = tt
all_are_in (p ∷ l) r = (inl refl, all_map (λ q. In q (l ++ r)) (λ q. In q (p ∷ l ++ r)) (λ q i. inr i) l (all_are_in l r))

module _ {z : Sizes} (m : Mem z) (s id : ℕ) (accepted : (commit_out m s id).answer ≡ Done) where
  abbrev its_stores : List Store
  its_stores = commit_stores (slot_at m s).writes

  -- an accepted commit is its stores, one after the other
  pub commit_is_its_stores : (commit_out m s id).after ≡ stored s id its_stores m
  commit_is_its_stores =
      ap (λ (o : Outcome z Answer ℕ). o.after) (commit_accepted_leaves_exactly m s id (commit_accepted_when m s id accepted)) ∙ sym (all_stores s id (slot_at m s).writes m)

  -- any of its stores done before, in any order and number: the whole list comes to the same
  pub commit_may_be_repeated : (done : List Store) → All (λ p. In p its_stores) done → stored s id its_stores (stored s id done m) ≡ (commit_out m s id).after
  commit_may_be_repeated done i =
      let fine = store_fits m (commit_accepted_when m s id accepted).0 in
      let tested = (passed_split (slot_tests m s id) (commit_tests m (slot_at m s) (slot_at m s).writes) (commit_tested m s id accepted)).1 in
      let there = (commit_facts m m fine.heads fine.cells (slot_at m s) (slot_at m s).writes tested).1 in
      many_before s id (length m.cells) its_stores done m refl (stores_fit m (slot_at m s).writes there) i ∙ sym commit_is_its_stores

  -- cut between any two stores and begun anew
  pub commit_cut_and_begun_anew : (before after : List Store) → its_stores ≡ before ++ after → stored s id its_stores (stored s id before m) ≡ (commit_out m s id).after
  commit_cut_and_begun_anew before after e = commit_may_be_repeated before (rw e (all_are_in before after))
