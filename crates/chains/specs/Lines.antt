-- A chain that ends, cell by cell. What a walk finds before pointer 0 does not depend on its limits, so the cells from a pointer on are
-- named by the pointer alone; and no cell is passed twice, for behind it the walk would find as many cells as it did before.
use Prim.Native.Nat.{ℕ, zero, suc, ◌-◌, ◌≤◌, ◌<◌}
use Rattle.std.proofs.Common.{le_of_suc-le-suc, sym, subst, ◌∙◌}
use native.Mathlib.Omega.{arith}
use Rattle.std.specs.Prelude.{Bool, ◌≢◌, refl, length, eqb, ltb}
use mathlib.Core.List.{List, [], ◌∷◌}
use Rattle.std.proofs.Math.Path.{◌≡◌, ap}
use borrow.Author.Tests.{eq-eqb, ne_eqb, lt-ltb, le-ltb, ltb-false, eqb-false}
use Rattle.kinds.specs.declared.Version.{Version}
use Rattle.kinds.specs.Versions.{version_at}
use Rattle.rules.specs.Chain.{ends, goes_on, broken, Chain, chained, chain}
use Rattle.rules.proofs.Theory.Cases.{by_bool, by_eq}
use Rattle.words.specs.Lists.{keep}
use Rattle.rules.specs.Theory.CellLaws.{HasCell}
use Rattle.rules.specs.Theory.Bridge.{AllCells}
use Rattle.rules.specs.Theory.Counting.{cnt}
use Rattle.rules.proofs.Theory.Counting.{cnt_other}
use Rattle.rules.specs.Theory.Inv.{Spelled}
use Rattle.rules.proofs.Theory.Chains.{spelled_same}

-- ---- a walk, pointer by pointer

module _ (n : ℕ) (f : ℕ → Version) where
  pub chain_end : (k c : ℕ) → c ≡ 0 → chain n f k c ≡ chained [] ends
  unfolding chain
  chain_end zero c e = rw (eq-eqb c 0 e)
  chain_end (suc k) c e = rw (eq-eqb c 0 e)

  pub chain_limit : (k c : ℕ) → k ≡ 0 → c ≢ 0 → chain n f k c ≡ chained [] goes_on
  unfolding chain
  chain_limit k c z e = rw (z, ne_eqb c 0 e)

  pub chain_broken : (k c : ℕ) → k ≢ 0 → c ≢ 0 → n < c → chain n f k c ≡ chained [] broken
  unfolding chain
  chain_broken zero c z e h = absurd (z refl)
  chain_broken (suc k) c z e h = rw (ne_eqb c 0 e, lt-ltb n c h)

  pub chain_next : (k c : ℕ) → k ≢ 0 → c ≢ 0 → c ≤ n
      → chain n f k c ≡ chained (c ∷ (chain n f (k - 1) (f c).next.0).cells) (chain n f (k - 1) (f c).next.0).after
  unfolding chain
  chain_next zero c z e h = absurd (z refl)
  chain_next (suc k) c z e h =
      let q : suc k - 1 ≡ k = omega arith in
      rw (ne_eqb c 0 e, le-ltb n c h, q)

  -- where a nonzero pointer leads to an end, it is a cell, and the walk had room for it
  pub ended_cell : (k c : ℕ) → (chain n f k c).after ≡ ends → c ≢ 0 → (k ≢ 0) × (c ≤ n)
  unfolding chain
  ended_cell zero c e nz = absurd (let g = rw (ne_eqb c 0 nz) at e in let z : ◌≡◌ {A = ℕ} 0 1 = cc in omega arith)
  ended_cell (suc k) c e nz =
      by_bool (ltb n c)
      (λ b. absurd (let g = rw (ne_eqb c 0 nz, b) at e in let z : ◌≡◌ {A = ℕ} 0 1 = cc in omega arith))
      (λ b. (λ z. omega arith, ltb-false n c b))

-- wider limits change nothing of a walk that ends
pub chain_wider : (n n' : ℕ) (f : ℕ → Version) (k k' c : ℕ) → n ≤ n' → k ≤ k' → (chain n f k c).after ≡ ends → chain n' f k' c ≡ chain n f k c
unfolding chain
chain_wider n n' f zero k' c hn hk e =
    by_eq c 0
    (λ z. chain_end n' f k' c z ∙ sym (chain_end n f zero c z))
    (λ nz. absurd ((ended_cell n f zero c e nz).0 refl))
chain_wider n n' f (suc k) zero c hn hk e = absurd (omega arith)
chain_wider n n' f (suc k) (suc k') c hn hk e =
    by_eq c 0
    (λ z. chain_end n' f (suc k') c z ∙ sym (chain_end n f (suc k) c z))
    (λ nz.
    let b = (ended_cell n f (suc k) c e nz).1 in
    rw (ne_eqb c 0 nz, le-ltb n c b, le-ltb n' c (omega arith))
    (ap (λ (x : Chain). chained (c ∷ x.cells) x.after) (chain_wider n n' f k k' (f c).next.0 hn (le_of_suc-le-suc hk) (rw (ne_eqb c 0 nz, le-ltb n c b) at e))))

-- ---- the cells from a pointer on

unfoldable pub line : List (List ℕ) → ℕ → List ℕ
line cs c = (chain (length cs) (version_at cs) (length cs) c).cells

-- they come to pointer 0
pub record Ends (cs : List (List ℕ)) (c : ℕ) : Type 0 where
  pub ended : (chain (length cs) (version_at cs) (length cs) c).after ≡ ends

-- a walk of any limits that ends has found them
module _ (cs : List (List ℕ)) (n k c : ℕ) (hn : n ≤ length cs) (hk : k ≤ length cs) (e : (chain n (version_at cs) k c).after ≡ ends) where
  pub walk_ends : Ends cs c
  walk_ends = record { ended = rw (chain_wider n (length cs) (version_at cs) k (length cs) c hn hk e) e }

  pub walk_line : line cs c ≡ (chain n (version_at cs) k c).cells
  unfolding line
  walk_line = ap (λ (x : Chain). x.cells) (chain_wider n (length cs) (version_at cs) k (length cs) c hn hk e)

pub line_end : (cs : List (List ℕ)) (c : ℕ) → c ≡ 0 → line cs c ≡ []
unfolding line
line_end cs c e = ap (λ (x : Chain). x.cells) (chain_end (length cs) (version_at cs) (length cs) c e)

module _ (cs : List (List ℕ)) (c : ℕ) (e : Ends cs c) (nz : c ≢ 0) where
  abbrev next : ℕ
  next = (version_at cs c).next.0

  pub line_cell : HasCell cs c
  line_cell = record { low = omega arith; high = (ended_cell (length cs) (version_at cs) (length cs) c e.ended nz).1 }

  here : chain (length cs) (version_at cs) (length cs) c
      ≡ chained (c ∷ (chain (length cs) (version_at cs) (length cs - 1) next).cells) (chain (length cs) (version_at cs) (length cs - 1) next).after
  here = let b = ended_cell (length cs) (version_at cs) (length cs) c e.ended nz in chain_next (length cs) (version_at cs) (length cs) c b.0 nz b.1

  rest_ends : (chain (length cs) (version_at cs) (length cs - 1) next).after ≡ ends
  rest_ends = sym (ap (λ (x : Chain). x.after) here) ∙ e.ended

  pub ends_next : Ends cs next
  ends_next = walk_ends cs (length cs) (length cs - 1) next (omega arith) (omega arith) rest_ends

  pub line_next : line cs c ≡ c ∷ line cs next
  unfolding line
  line_next = ap (λ (x : Chain). x.cells) here ∙ ap (λ (l : List ℕ). c ∷ l) (sym (walk_line cs (length cs) (length cs - 1) next (omega arith) (omega arith) rest_ends))

-- ---- no cell twice

abbrev nexts : (ℕ → Version) → ℕ → ℕ
nexts f c = (f c).next.0

chain_spells : (n : ℕ) (f : ℕ → Version) (k c : ℕ) → (chain n f k c).after ≡ ends → Spelled (nexts f) c (chain n f k c).cells
unfolding chain
chain_spells n f zero c e =
    by_eq c 0
    (λ z. rw (eq-eqb c 0 z) z)
    (λ nz. absurd ((ended_cell n f zero c e nz).0 refl))
chain_spells n f (suc k) c e =
    by_eq c 0
    (λ z. rw (eq-eqb c 0 z) z)
    (λ nz.
    let b = (ended_cell n f (suc k) c e nz).1 in
    rw (ne_eqb c 0 nz, le-ltb n c b) (refl, nz, chain_spells n f k (f c).next.0 (rw (ne_eqb c 0 nz, le-ltb n c b) at e)))

-- from a member on, the pointers spell a list that is no longer
spelled_from : {C : Type 0} (g : ℕ → ℕ) (h : ℕ) (l : List ℕ) (x : ℕ) → Spelled g h l → cnt x l ≢ 0 → ((l' : List ℕ) → length l' ≤ length l → Spelled g x l' → C) → C
unfolding cnt
spelled_from g h [] x s nz k = absurd (nz refl)
spelled_from g h (c ∷ l) x s nz k =
    by_eq x c
    (λ e. k (c ∷ l) (omega arith) (e, s.1, s.2))
    (λ ne. spelled_from g (g c) l x s.2 (λ z. nz (cnt_other x c l ne ∙ z)) (λ l' le s'. k l' (omega arith) s'))

spelled_once : (g : ℕ → ℕ) (c : ℕ) (l : List ℕ) → Spelled g c (c ∷ l) → cnt c l ≡ 0
spelled_once g c l s =
    by_eq (cnt c l) 0
    (λ z. z)
    (λ nz. absurd (spelled_from g (g c) l c s.2 nz (λ l' le s'. let e : l' ≡ c ∷ l = spelled_same g c l' (c ∷ l) s' s in omega (arith, ap length e))))

-- a cell is not behind itself
pub line_once : (cs : List (List ℕ)) (c : ℕ) → Ends cs c → c ≢ 0 → cnt c (line cs (version_at cs c).next.0) ≡ 0
unfolding line
line_once cs c e nz =
    spelled_once (nexts (version_at cs)) c (line cs (version_at cs c).next.0)
    (subst (Spelled (nexts (version_at cs)) c) (line_next cs c e nz) (chain_spells (length cs) (version_at cs) (length cs) c e.ended))

-- ---- each is a cell

chain_cells : (cs : List (List ℕ)) (n : ℕ) (f : ℕ → Version) (k c : ℕ) → n ≤ length cs → AllCells cs (chain n f k c).cells
unfolding chain
chain_cells cs n f zero c h = by_bool (eqb c 0) (λ e. rw e tt) (λ e. rw e tt)
chain_cells cs n f (suc k) c h =
    by_bool (eqb c 0) (λ e. rw e tt)
    (λ e. by_bool (ltb n c) (λ b. rw (e, b) tt)
    (λ b.
    let nz = eqb-false c 0 e in
    let le = ltb-false n c b in
    rw (e, b) (record { low = omega arith; high = omega arith }, chain_cells cs n f k (f c).next.0 h)))

pub line_cells : (cs : List (List ℕ)) (c : ℕ) → AllCells cs (line cs c)
unfolding line
line_cells cs c = chain_cells cs (length cs) (version_at cs) (length cs) c (omega arith)

pub cells_kept : (cs : List (List ℕ)) (p : ℕ → Bool) (l : List ℕ) → AllCells cs l → AllCells cs (keep p l)
unfolding keep
cells_kept cs p [] a = tt
cells_kept cs p (c ∷ l) a = by_bool (p c) (λ e. rw e (a.0, cells_kept cs p l a.1)) (λ e. rw e (cells_kept cs p l a.1))
