-- A chain as a reader of the paper sees it: following next from the head passes these cells and comes to this pointer. What `look`
-- and `chain` come to, exactly, in these words.
use Prim.Native.Nat.{ℕ, zero, suc, ◌+◌, ◌-◌, ◌≤◌, ◌<◌}
use mathlib.Core.List.{List, [], ◌∷◌}
use Rattle.std.specs.Prelude.{◌≡◌, ◌≢◌, length}
use Rattle.std.proofs.Math.Path.{refl}
use Rattle.std.proofs.Common.{sym, ap, ◌∙◌}
use native.Mathlib.Omega.{arith}
use borrow.Author.Tests.{eq-eqb, ne_eqb, lt-ltb, le-ltb}
use Rattle.kinds.specs.declared.Version.{Version}
use Rattle.words.specs.Lists.{first}
use Rattle.rules.proofs.Theory.Cases.{by_bool, by_eq, by_le}
use Rattle.words.specs.Slots.{Slot}
use Rattle.kinds.specs.Visible.{visible}
use Rattle.rules.specs.Chain.{After, ends, goes_on, broken, Chain, chained, chain, Look, found, nothing, too_long, harmed, look}
use Rattle.rules.specs.Exactly.{All}
use Rattle.rules.proofs.Exactly.{holds_true, fails_false}
use Rattle.rules.specs.Terms.{CellOf, Sees}
use Rattle.rules.proofs.Terms.{is_seen}
use Rattle.rules.specs.Along.{Along, Way}

pub positive : (c : ℕ) → c ≢ 0 → 1 ≤ c
positive zero n = absurd (n refl)
positive (suc c) n = omega arith

-- how far k is from a
from : (k a : ℕ) → a ≤ k → (j : ℕ) × (k ≡ a + j)
from k a h = (k - a, omega arith)

above : (k a : ℕ) → a < k → (j : ℕ) × (k ≡ a + suc j)
above k a h = (k - suc a, omega arith)

module _ {n : ℕ} {f : ℕ → Version} where
  pub way_none : (h p : ℕ) → h ≡ p → Way n f h [] p
  way_none h p e = record { along = e; cells = tt }

  pub way_more : (h p : ℕ) (l : List ℕ) → CellOf n h → Way n f (f h).next.0 l p → Way n f h (h ∷ l) p
  way_more h p l c w = record { along = (refl, w.along); cells = (c, w.cells) }

module _ (n : ℕ) (f : ℕ → Version) where
  -- ---- the chain's list
  -- what l and what comes after it say of the chain from h, with a limit of k cells
  abbrev pub ChainIs : ℕ → ℕ → List ℕ → After → Type 0
  ChainIs k h l ends = Way n f h l 0 × (length l ≤ k)
  ChainIs k h l goes_on = (p : ℕ) × Way n f h l p × (length l ≡ k) × (p ≢ 0)
  ChainIs k h l broken = (p : ℕ) × Way n f h l p × (length l < k) × (n < p)

  more_chain : (k h : ℕ) (l : List ℕ) (a : After) → CellOf n h → ChainIs k (f h).next.0 l a → ChainIs (suc k) h (h ∷ l) a
  more_chain k h l ends c i = (way_more h 0 l c i.0, omega (arith, i.1))
  more_chain k h l goes_on c i = (i.0, way_more h i.0 l c i.1, omega (arith, i.2), i.3)
  more_chain k h l broken c i = (i.0, way_more h i.0 l c i.1, omega (arith, i.2), i.3)

  pub chain_is : (k h : ℕ) → ChainIs k h (chain n f k h).cells (chain n f k h).after
  unfolding chain
  chain_is zero h = by_eq h 0
      (λ e. rw (eq-eqb h 0 e) (way_none h 0 e, omega arith))
      (λ e. rw (ne_eqb h 0 e) (h, way_none h h refl, refl, e))
  chain_is (suc k) h = by_eq h 0
      (λ e. rw (eq-eqb h 0 e) (way_none h 0 e, omega arith))
      (λ e. by_le h n
      (λ b. rw (ne_eqb h 0 e, le-ltb n h b) (more_chain k h (chain n f k (f h).next.0).cells (chain n f k (f h).next.0).after (record { low = positive h e; high = b }) (chain_is k (f h).next.0)))
      (λ b. rw (ne_eqb h 0 e, lt-ltb n h b) (h, way_none h h refl, omega arith, b)))

  abbrev joined : List ℕ → Chain → Chain
  joined [] x = x
  joined (c ∷ l) x = let y = joined l x in chained (c ∷ y.cells) y.after

  -- the cells passed stand in front, and the rest is the chain from the pointer come to
  through_chain : (l : List ℕ) (k j h p : ℕ) → Along f h l p → All (CellOf n) l → k ≡ length l + j → chain n f k h ≡ joined l (chain n f j p)
  unfolding chain
  through_chain [] k j h p a c e =
      let g : k ≡ j = omega arith in
      rw (g, a)
  through_chain (d ∷ l) zero j h p a c e = absurd (omega arith)
  through_chain (d ∷ l) (suc k) j h p a c e =
      let g = through_chain l k j (f d).next.0 p a.1 c.1 (omega arith) in
      rw (a.0, ne_eqb d 0 (λ o. omega (arith, c.0.low)), le-ltb n d c.0.high) (ap (λ (x : Chain). chained (d ∷ x.cells) x.after) g)

  joined_cells : (l : List ℕ) (a : After) → joined l (chained [] a) ≡ chained l a
  joined_cells [] a = refl
  joined_cells (c ∷ l) a = rw (joined_cells l a)

  at_end_lem : (k p : ℕ) → p ≡ 0 → chain n f k p ≡ chained [] ends
  unfolding chain
  at_end_lem zero p e = rw (eq-eqb p 0 e)
  at_end_lem (suc k) p e = rw (eq-eqb p 0 e)

  at_limit : (p : ℕ) → p ≢ 0 → chain n f 0 p ≡ chained [] goes_on
  unfolding chain
  at_limit p e = rw (ne_eqb p 0 e)

  at_break : (k p : ℕ) → n < p → chain n f (suc k) p ≡ chained [] broken
  unfolding chain
  at_break k p b = rw (ne_eqb p 0 (λ e. omega arith), lt-ltb n p b)

  pub is_chain : (k h : ℕ) (l : List ℕ) (a : After) → ChainIs k h l a → chain n f k h ≡ chained l a
  is_chain k h l ends i = let r = from k (length l) i.1 in through_chain l k r.0 h 0 i.0.along i.0.cells r.1 ∙ rw (at_end_lem r.0 0 refl, joined_cells l ends)
  is_chain k h l goes_on i = through_chain l k 0 h i.0 i.1.along i.1.cells (omega (arith, i.2)) ∙ rw (at_limit i.0 i.3, joined_cells l goes_on)
  is_chain k h l broken i = let r = above k (length l) i.2 in through_chain l k (suc r.0) h i.0 i.1.along i.1.cells r.1 ∙ rw (at_break r.0 i.0 i.3, joined_cells l broken)

  -- ---- what a reader finds
  module _ (t : Slot) where
    -- the reader sees none of these cells
    abbrev pub Unseen : List ℕ → Type 0
    Unseen l = All (λ c. Sees t (f c) → ⊥) l

    -- the first seen version from pointer h, among the first k: cell c
    pub record FirstSeen (k h c : ℕ) : Type 0 where
      pub passed : List ℕ
      pub way : Way n f h passed c
      pub within : length passed < k
      pub unseen : Unseen passed
      pub cell : CellOf n c
      pub seen : Sees t (f c)

    -- the chain ends within k versions and none is seen
    pub record NoneSeen (k h : ℕ) : Type 0 where
      pub passed : List ℕ
      pub way : Way n f h passed 0
      pub within : length passed ≤ k
      pub unseen : Unseen passed

    -- k versions are there, none of them is seen, and a further pointer follows: the next version would be looked at
    pub record TooLong (k h : ℕ) : Type 0 where
      pub passed : List ℕ
      pub further : ℕ
      pub way : Way n f h passed further
      pub many : length passed ≡ k
      pub goes : further ≢ 0
      pub unseen : Unseen passed

    -- fewer than k versions, none of them seen, and then a pointer above N
    pub record Harmed (k h : ℕ) : Type 0 where
      pub passed : List ℕ
      pub further : ℕ
      pub way : Way n f h passed further
      pub within : length passed < k
      pub above : n < further
      pub unseen : Unseen passed

    abbrev pub LookIs : ℕ → ℕ → Look → Type 0
    LookIs k h (found c) = FirstSeen k h c
    LookIs k h nothing = NoneSeen k h
    LookIs k h too_long = TooLong k h
    LookIs k h harmed = Harmed k h

    more_look : (k h : ℕ) (a : Look) → CellOf n h → (Sees t (f h) → ⊥) → LookIs k (f h).next.0 a → LookIs (suc k) h a
    more_look k h (found c) o u i = record { passed = h ∷ i.passed; way = way_more h c i.passed o i.way; within = omega (arith, i.within); unseen = (u, i.unseen); cell = i.cell; seen = i.seen }
    more_look k h nothing o u i = record { passed = h ∷ i.passed; way = way_more h 0 i.passed o i.way; within = omega (arith, i.within); unseen = (u, i.unseen) }
    more_look k h too_long o u i = record { passed = h ∷ i.passed; further = i.further; way = way_more h i.further i.passed o i.way; many = omega (arith, i.many); goes = i.goes; unseen = (u, i.unseen) }
    more_look k h harmed o u i = record { passed = h ∷ i.passed; further = i.further; way = way_more h i.further i.passed o i.way; within = omega (arith, i.within); above = i.above; unseen = (u, i.unseen) }

    look_end : (k p : ℕ) → p ≡ 0 → look n t f k p ≡ nothing
    unfolding look first
    look_end k p e = rw (at_end_lem k p e)

    look_limit : (p : ℕ) → p ≢ 0 → look n t f 0 p ≡ too_long
    unfolding look first
    look_limit p e = rw (at_limit p e)

    look_break : (k p : ℕ) → n < p → look n t f (suc k) p ≡ harmed
    unfolding look first
    look_break k p b = rw (at_break k p b)

    look_seen : (k c : ℕ) → CellOf n c → Sees t (f c) → look n t f (suc k) c ≡ found c
    unfolding look first chain
    look_seen k c o v = rw (ne_eqb c 0 (λ e. omega (arith, o.low)), le-ltb n c o.high, holds_true _ (is_seen t (f c)) v)

    look_past : (k c : ℕ) → CellOf n c → (Sees t (f c) → ⊥) → look n t f (suc k) c ≡ look n t f k (f c).next.0
    unfolding look first chain
    look_past k c o u = rw (ne_eqb c 0 (λ e. omega (arith, o.low)), le-ltb n c o.high, fails_false _ (is_seen t (f c)) u)

    pub look_is : (k h : ℕ) → LookIs k h (look n t f k h)
    look_is zero h = by_eq h 0
        (λ e. rw (look_end 0 h e) (record { passed = []; way = way_none h 0 e; within = omega arith; unseen = tt }))
        (λ e. rw (look_limit h e) (record { passed = []; further = h; way = way_none h h refl; many = refl; goes = e; unseen = tt }))
    look_is (suc k) h = by_eq h 0
        (λ e. rw (look_end (suc k) h e) (record { passed = []; way = way_none h 0 e; within = omega arith; unseen = tt }))
        (λ e. by_le h n
        (λ b.
        let o : CellOf n h = record { low = positive h e; high = b } in
        by_bool (visible t (f h))
        (λ v. rw (look_seen k h o ((is_seen t (f h)).yes v)) (record { passed = []; way = way_none h h refl; within = omega arith; unseen = tt; cell = o; seen = (is_seen t (f h)).yes v }))
        (λ v. rw (look_past k h o ((is_seen t (f h)).no v)) (more_look k h (look n t f k (f h).next.0) o ((is_seen t (f h)).no v) (look_is k (f h).next.0))))
        (λ b. rw (look_break k h b) (record { passed = []; further = h; way = way_none h h refl; within = omega arith; above = b; unseen = tt })))

    through_look : (l : List ℕ) (k j h p : ℕ) → Along f h l p → All (CellOf n) l → Unseen l → k ≡ length l + j → look n t f k h ≡ look n t f j p
    through_look [] k j h p a c u e =
        let g : k ≡ j = omega arith in
        rw (g, a)
    through_look (d ∷ l) zero j h p a c u e = absurd (omega arith)
    through_look (d ∷ l) (suc k) j h p a c u e = rw a.0 (look_past k d c.0 u.0 ∙ through_look l k j (f d).next.0 p a.1 c.1 u.1 (omega arith))

    pub is_look : (k h : ℕ) (a : Look) → LookIs k h a → look n t f k h ≡ a
    is_look k h (found c) i = let r = above k (length i.passed) i.within in through_look i.passed k (suc r.0) h c i.way.along i.way.cells i.unseen r.1 ∙ look_seen r.0 c i.cell i.seen
    is_look k h nothing i = let r = from k (length i.passed) i.within in through_look i.passed k r.0 h 0 i.way.along i.way.cells i.unseen r.1 ∙ look_end r.0 0 refl
    is_look k h too_long i = through_look i.passed k 0 h i.further i.way.along i.way.cells i.unseen (omega (arith, i.many)) ∙ look_limit i.further i.goes
    is_look k h harmed i = let r = above k (length i.passed) i.within in through_look i.passed k (suc r.0) h i.further i.way.along i.way.cells i.unseen r.1 ∙ look_break r.0 i.further i.above

    -- two looks that cannot both be
    pub look_apart : (k h : ℕ) (a b : Look) → LookIs k h a → LookIs k h b → a ≡ b
    look_apart k h a b i j = sym (is_look k h a i) ∙ is_look k h b j
