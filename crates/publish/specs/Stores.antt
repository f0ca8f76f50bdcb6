-- Publication store by store. What a store writes is in the slot and the id, so of any two either the later covers the earlier or their
-- order does not matter. A sequence that was cut anywhere and is made again from its start ends as if it had never been cut.
use Rattle.std.specs.Prelude.{ℕ, ◌-◌, ◌<◌, ◌≤◌, ◌≢◌, ◌⊎◌, ◌≡◌, length}
use mathlib.Core.List.{List, [], ◌∷◌, ◌++◌, append-nil}
use Rattle.std.proofs.Math.Logic.{inl, inr, ⊎_elim}
use Rattle.std.proofs.Math.Path.{refl, sym, ap}
use Rattle.std.proofs.Common.{◌∙◌, subst, arith, set-set, eq-eqb, ne_eqb}
use Rattle.std.proofs.Math.ListN.{get_or}
use Rattle.std.proofs.lemmas.List.{set_comm}
use Rattle.kinds.specs.declared.Version.{Version}
use Rattle.words.specs.Sizes.{Sizes}
use Rattle.words.specs.Lists.{fold}
use Rattle.kinds.specs.Versions.{with_xmax, with_next, unlocked, words_of, version_at, link_at, put_cell, put_version}
use Rattle.words.specs.Slots.{Write}
use Rattle.rules.specs.Memory.{Mem, mem, with_head, with_cells}
use Rattle.rules.specs.Commit.{mark_base, publish, publish_all}
use Rattle.rules.specs.Theory.Bridge.{AllIn}
use Rattle.rules.proofs.Theory.Bridge.{has_cell}
use Rattle.rules.proofs.Theory.Cases.{by_eq}
use Rattle.rules.specs.Theory.CellLaws.{HasCell}
use Rattle.rules.proofs.Theory.CellLaws.{length_put, put_on, put_link, put_else, put_off}
use Rattle.rules.specs.Reachable.{All}
use Rattle.rules.proofs.Theory.Inv.{all_map}

-- a base is marked, a new version linked to its base, a row's head moved
pub data Store : Type 0 where
  mark : ℕ → Store
  link : ℕ → ℕ → Store
  move : ℕ → ℕ → Store

-- the stores of a write set, in order
abbrev pub stores : List Write → List Store
stores [] = []
stores (w ∷ l) = mark w.base ∷ link w.new w.base ∷ move w.row w.new ∷ stores l

-- ---- one cell's version changed, the rest of the arena kept

unfoldable touch : (Version → Version) → ℕ → List (List ℕ) → List (List ℕ)
touch f c cs = put_version cs c (f (version_at cs c))

put_put : (cs : List (List ℕ)) (c : ℕ) (v u : Version) (l k : ℕ) → put_cell (put_cell cs c v l) c u k ≡ put_cell cs c u k
unfolding put_cell
put_put cs c v u l k = set-set cs (c - 1) (words_of v l) (words_of u k)

put_swap : (cs : List (List ℕ)) (c d : ℕ) (v u : Version) (l k : ℕ) → 0 < c → 0 < d → c ≢ d → put_cell (put_cell cs c v l) d u k ≡ put_cell (put_cell cs d u k) c v l
unfolding put_cell
put_swap cs c d v u l k p q n = set_comm cs (c - 1) (d - 1) (words_of v l) (words_of u k) (λ e. n (omega arith))

touch_length : (f : Version → Version) (c : ℕ) (cs : List (List ℕ)) → length (touch f c cs) ≡ length cs
unfolding touch
touch_length f c cs = length_put cs c _ _

-- twice in one cell: the two changes in a row
touch_same : (f g h : Version → Version) (c : ℕ) (cs : List (List ℕ)) → HasCell cs c → ((v : Version) → g (f v) ≡ h v) → touch g c (touch f c cs) ≡ touch h c cs
unfolding touch
touch_same f g h c cs k e =
    let v = f (version_at cs c) in
    let l = link_at cs c in
    rw (put_on cs c v l k, put_link cs c v l k) (put_put cs c v (g v) l l ∙ ap (λ (u : Version). put_cell cs c u l) (e (version_at cs c)))

module _ (f g : Version → Version) (c d : ℕ) (cs : List (List ℕ)) (h : HasCell cs c) (k : HasCell cs d) where
  -- in two cells
  touch_other : c ≢ d → touch g d (touch f c cs) ≡ touch f c (touch g d cs)
  unfolding touch
  touch_other n =
      let v = f (version_at cs c) in
      let l = link_at cs c in
      let u = g (version_at cs d) in
      let j = link_at cs d in
      let dc : d ≢ c = λ e. n (sym e) in
      let a : link_at (put_cell cs c v l) d ≡ j = ap (λ (w : List ℕ). get_or w 7 0) (put_else cs c v l d h.low dc) in
      let b : link_at (put_cell cs d u j) c ≡ l = ap (λ (w : List ℕ). get_or w 7 0) (put_else cs d u j c k.low n) in
      rw (put_off cs c v l d h.low dc, a, put_off cs d u j c k.low n, b) (put_swap cs c d v u l j h.low k.low n)

  touch_settled : (((v : Version) → g (f v) ≡ g v) ⊎ ((v : Version) → g (f v) ≡ f (g v)))
      → (touch g d (touch f c cs) ≡ touch g d cs) ⊎ (touch g d (touch f c cs) ≡ touch f c (touch g d cs))
  touch_settled e = by_eq c d
      (λ q. rw (← q) (⊎_elim (λ cover. inl (touch_same f g g c cs h cover)) (λ turn. inr (touch_same f g (λ v. g (f v)) c cs h (λ v. refl) ∙ sym (touch_same g f (λ v. g (f v)) c cs h (λ v. sym (turn v))))) e))
      (λ n. inr (touch_other n))

-- ---- one store

marked : ℕ → Version → Version
marked id v = unlocked (with_xmax v id)

linked : ℕ → Version → Version
linked n v = with_next v n

unfoldable pub stored : {z : Sizes} → ℕ → Store → Mem z → Mem z
stored id (mark b) m = with_cells m (mark_base id b m.cells)
stored id (link c n) m = with_cells m (put_version m.cells c (with_next (version_at m.cells c) n))
stored id (move r h) m = with_head m r h

pub publish_stores : {z : Sizes} (id : ℕ) (ws : List Write) (m : Mem z) → publish_all id ws m ≡ fold (stored id) (stores ws) m
unfolding fold publish stored
publish_stores id [] m = refl
publish_stores id (w ∷ l) m = publish_stores id l (publish id w m)

-- a store of the sequence
abbrev In : Store → List Store → Type 0
In s [] = ⊥
In s (t ∷ l) = (s ≡ t) ⊎ In s l

among : (p q : List Store) → All (λ s. In s (p ++ q)) p
among [] q = tt
among (s ∷ p) q = (inl refl, all_map (λ x. In x (p ++ q)) (λ x. In x (s ∷ p ++ q)) p (λ x i. inr i) (among p q))

-- what a store of cells asks of an arena of k cells
abbrev Fits : ℕ → Store → Type 0
Fits k (mark b) = b ≤ k
Fits k (link c n) = (0 < c) × (c ≤ k)
Fits k (move r h) = Unit {0}

in_fits : (l : List Store) (s : Store) (k : ℕ) → All (Fits k) l → In s l → Fits k s
in_fits [] s k a i = absurd i
in_fits (t ∷ l) s k a (inl e) = rw e a.0
in_fits (t ∷ l) s k a (inr i) = in_fits l s k a.1 i

abbrev with_rows : {z : Sizes} → Mem z → List ℕ → Mem z
with_rows m l = mem m.meta l m.cells m.slots

same_mark : (id b : ℕ) (cs : List (List ℕ)) → length (mark_base id b cs) ≡ length cs
unfolding mark_base
same_mark id b cs = by_eq b 0 (λ z. rw (eq-eqb b 0 z)) (λ z. rw (ne_eqb b 0 z) (length_put cs b _ _))

module _ {z : Sizes} (id : ℕ) where
  mark_none : (b : ℕ) → b ≡ 0 → (m : Mem z) → stored id (mark b) m ≡ m
  unfolding stored mark_base
  mark_none b e m = rw (eq-eqb b 0 e)

  mark_some : (b : ℕ) → b ≢ 0 → (m : Mem z) → stored id (mark b) m ≡ with_cells m (touch (marked id) b m.cells)
  unfolding stored mark_base touch marked
  mark_some b n m = rw (ne_eqb b 0 n)

  link_some : (c n : ℕ) (m : Mem z) → stored id (link c n) m ≡ with_cells m (touch (linked n) c m.cells)
  unfolding stored touch linked
  link_some c n m = refl

  same_cells : (s : Store) (m : Mem z) → length (stored id s m).cells ≡ length m.cells
  unfolding stored
  same_cells (mark b) m = same_mark id b m.cells
  same_cells (link c n) m = length_put m.cells c _ _
  same_cells (move r h) m = refl

  -- the later covers the earlier, or the order does not matter
  abbrev Settled : Store → Store → Mem z → Type 0
  Settled s t m = (stored id t (stored id s m) ≡ stored id t m) ⊎ (stored id t (stored id s m) ≡ stored id s (stored id t m))

  module _ (s t : Store) (m : Mem z) where
    idle_first : stored id s m ≡ m → Settled s t m
    idle_first e = inl (ap (stored id t) e)

    idle_second : ((k : Mem z) → stored id t k ≡ k) → Settled s t m
    idle_second e = inr (e (stored id s m) ∙ ap (stored id s) (sym (e m)))

    both_touch : (f g : Version → Version) (c d : ℕ) → ((k : Mem z) → stored id s k ≡ with_cells k (touch f c k.cells)) → ((k : Mem z) → stored id t k ≡ with_cells k (touch g d k.cells))
        → HasCell m.cells c → HasCell m.cells d → (((v : Version) → g (f v) ≡ g v) ⊎ ((v : Version) → g (f v) ≡ f (g v))) → Settled s t m
    both_touch f g c d p q h k e =
        let a : stored id t (stored id s m) ≡ with_cells m (touch g d (touch f c m.cells)) = ap (stored id t) (p m) ∙ q (with_cells m (touch f c m.cells)) in
        let b : stored id s (stored id t m) ≡ with_cells m (touch f c (touch g d m.cells)) = ap (stored id s) (q m) ∙ p (with_cells m (touch g d m.cells)) in
        ⊎_elim (λ r. inl (a ∙ ap (with_cells m) r ∙ sym (q m))) (λ r. inr (a ∙ ap (with_cells m) r ∙ sym b)) (touch_settled f g c d m.cells h k e)

  has_link : (m : Mem z) (c n : ℕ) → Fits (length m.cells) (link c n) → HasCell m.cells c
  has_link m c n p = record { low = p.0; high = p.1 }

  settled : (s t : Store) (m : Mem z) → Fits (length m.cells) s → Fits (length m.cells) t → Settled s t m
  unfolding stored marked linked
  settled (mark b) (mark d) m p q = by_eq b 0 (λ e. idle_first (mark b) (mark d) m (mark_none b e m))
      (λ n. by_eq d 0 (λ e. idle_second (mark b) (mark d) m (mark_none d e))
      (λ k. both_touch (mark b) (mark d) m (marked id) (marked id) b d (mark_some b n) (mark_some d k) (has_cell m.cells b p n) (has_cell m.cells d q k) (inl (λ v. refl))))
  settled (mark b) (link d x) m p q = by_eq b 0 (λ e. idle_first (mark b) (link d x) m (mark_none b e m))
      (λ n. both_touch (mark b) (link d x) m (marked id) (linked x) b d (mark_some b n) (link_some d x) (has_cell m.cells b p n) (has_link m d x q) (inr (λ v. refl)))
  settled (link c x) (mark d) m p q = by_eq d 0 (λ e. idle_second (link c x) (mark d) m (mark_none d e))
      (λ n. both_touch (link c x) (mark d) m (linked x) (marked id) c d (link_some c x) (mark_some d n) (has_link m c x p) (has_cell m.cells d q n) (inr (λ v. refl)))
  settled (link c x) (link d y) m p q = both_touch (link c x) (link d y) m (linked x) (linked y) c d (link_some c x) (link_some d y) (has_link m c x p) (has_link m d y q) (inl (λ v. refl))
  settled (mark b) (move r h) m p q = inr refl
  settled (link c x) (move r h) m p q = inr refl
  settled (move r h) (mark d) m p q = inr refl
  settled (move r h) (link d y) m p q = inr refl
  settled (move r h) (move x y) m p q = by_eq r x (λ e. inl (rw e (ap (λ (l : List ℕ). with_rows m l) (set-set m.rows x h y)))) (λ n. inr (ap (λ (l : List ℕ). with_rows m l) (set_comm m.rows r x h y n)))

  twice : (s : Store) (m : Mem z) → Fits (length m.cells) s → stored id s (stored id s m) ≡ stored id s m
  unfolding stored marked linked
  twice (mark b) m p = by_eq b 0 (λ e. mark_none b e (stored id (mark b) m))
      (λ n. ap (stored id (mark b)) (mark_some b n m) ∙ mark_some b n (with_cells m (touch (marked id) b m.cells)) ∙ ap (with_cells m) (touch_same (marked id) (marked id) (marked id) b m.cells (has_cell m.cells b p n) (λ v. refl)) ∙ sym (mark_some b n m))
  twice (link c x) m p = ap (stored id (link c x)) (link_some c x m) ∙ link_some c x (with_cells m (touch (linked x) c m.cells)) ∙ ap (with_cells m) (touch_same (linked x) (linked x) (linked x) c m.cells (has_link m c x p) (λ v. refl)) ∙ sym (link_some c x m)
  twice (move r h) m p = ap (λ (l : List ℕ). with_rows m l) (set-set m.rows r h h)

  -- ---- a sequence of stores

  abbrev AllFit : Mem z → List Store → Type 0
  AllFit m l = All (Fits (length m.cells)) l

  still_fit : (s : Store) (m : Mem z) (l : List Store) → AllFit m l → AllFit (stored id s m) l
  still_fit s m l a = rw (same_cells s m) a

  -- a store that the sequence makes anyway leaves no trace
  absorbed : (l : List Store) (s : Store) (m : Mem z) → AllFit m l → In s l → fold (stored id) l (stored id s m) ≡ fold (stored id) l m
  unfolding fold
  absorbed [] s m a i = absurd i
  absorbed (t ∷ l) s m a (inl e) = rw e (ap (fold (stored id) l) (twice t m a.0))
  absorbed (t ∷ l) s m a (inr i) = ⊎_elim (λ e. ap (fold (stored id) l) e)
      (λ e. ap (fold (stored id) l) e ∙ absorbed l s (stored id t m) (still_fit t m l a.1) i)
      (settled s t m (in_fits l s (length m.cells) a.1 i) a.0)

  again : (p l : List Store) (m : Mem z) → AllFit m l → All (λ s. In s l) p → fold (stored id) l (fold (stored id) p m) ≡ fold (stored id) l m
  unfolding fold
  again [] l m a b = refl
  again (s ∷ p) l m a b = again p l (stored id s m) (still_fit s m l a) b.1 ∙ absorbed l s m a b.0

  fit_stores : (ws : List Write) (m : Mem z) → AllIn m ws → AllFit m (stores ws)
  fit_stores [] m a = tt
  fit_stores (w ∷ l) m a = (a.0.base_in, ((a.0.new_in.low, a.0.new_in.high), (tt, fit_stores l m a.1)))

  -- cut after the stores p, and then made again from the start
  pub cut_anywhere : (ws : List Write) (p q : List Store) (m : Mem z) → stores ws ≡ p ++ q → AllIn m ws → publish_all id ws (fold (stored id) p m) ≡ publish_all id ws m
  cut_anywhere ws p q m e a =
      publish_stores id ws (fold (stored id) p m)
      ∙ again p (stores ws) m (fit_stores ws m a) (subst (λ (l : List Store). All (λ s. In s l) p) (sym e) (among p q))
      ∙ sym (publish_stores id ws m)

  -- made twice
  pub made_twice : (ws : List Write) (m : Mem z) → AllIn m ws → publish_all id ws (publish_all id ws m) ≡ publish_all id ws m
  made_twice ws m a = ap (publish_all id ws) (publish_stores id ws m) ∙ cut_anywhere ws (stores ws) [] m (sym (append-nil (stores ws))) a
