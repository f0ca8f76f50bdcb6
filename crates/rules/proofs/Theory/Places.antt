-- Where a cell is not, from where it is.
use Rattle.std.specs.Prelude.{Bool, not, ◌&&◌, true, false, ◌≢◌, ◌≡◌, ℕ, ◌≤◌, ◌<◌, zero, suc, eqb, ltb, get_or, length}
use mathlib.Core.List.{[], List, ◌∷◌}
use Rattle.std.proofs.Math.Path.{refl}
use Rattle.std.proofs.Common.{ap, le_of_suc-le-suc, ltb-true, ltb-false}
use native.Mathlib.Omega.{arith}
use Rattle.std.proofs.lemmas.Bool.{eqb-false}
use Rattle.rules.proofs.Theory.Cases.{by_bool}
use Rattle.rules.specs.Theory.View.{View, empty_slot}
use Rattle.rules.specs.Theory.Effects.{slot_v}
use Rattle.rules.specs.Theory.Counting.{bit, cnt}
use Rattle.rules.proofs.Theory.Counting.{cnt_same, sum_at, sum_two, cnt_head}
use Rattle.rules.specs.Theory.Inv.{inb, Ghost, in_slot, Hist, Inv, Spelled, nexts}
use Rattle.rules.specs.Theory.Places.{Alone}

inb_bits : (n x : ℕ) (a b : Bool) → eqb x 0 ≡ a → ltb x n ≡ b → (bit (not a && b) ≤ 1) × (bit (not a && b) ≢ 0 → (x ≢ 0) × (x < n))
unfolding bit
inb_bits n x true b p q = (omega arith, λ h. absurd (h refl))
inb_bits n x false true p q = (omega arith, λ h. (eqb-false x 0 p, ltb-true x n q))
inb_bits n x false false p q = (omega arith, λ h. absurd (h refl))

pub inb_le : (n x : ℕ) → inb n x ≤ 1
unfolding inb
inb_le n x = (inb_bits n x (eqb x 0) (ltb x n) refl refl).0

pub inb_in : (n x : ℕ) → inb n x ≢ 0 → (x ≢ 0) × (x < n)
unfolding inb
inb_in n x = (inb_bits n x (eqb x 0) (ltb x n) refl refl).1

pub inb_zero : (n : ℕ) → inb n 0 ≡ 0
unfolding inb bit
inb_zero n = refl

module _ (R n : ℕ) (st : View) (g : Ghost) (h : Hist) where
  pub pend_alone : (c : ℕ) (pend : List ℕ) → Inv R n st g h (c ∷ pend) → Alone n st g c × (cnt c pend ≡ 0)
  unfolding cnt
  pend_alone c pend iv =
      let e = iv.once c in
      let s = cnt_same c pend in
      let b = inb_le n c in
      let w : inb n c ≢ 0 = omega arith in
      let v = inb_in n c w in
      (record { inside = v.1; real = v.0; unfree = omega arith; unrow = λ r. omega (arith, sum_at (cnt c) g.rows r [] refl); unslot = λ i. omega (arith, sum_at (in_slot c) st.slots i empty_slot refl) }, omega arith)

  -- a cell of row r's chain
  pub record Chained (pend : List ℕ) (c r : ℕ) : Type 0 where
    pub inside : c < n
    pub real : c ≢ 0
    pub unfree : cnt c g.fl ≡ 0
    pub single : cnt c (get_or g.rows r []) ≡ 1
    pub unrow : (r' : ℕ) → r ≢ r' → cnt c (get_or g.rows r' []) ≡ 0
    pub unslot : (i : ℕ) → in_slot c (slot_v st i) ≡ 0
    pub unpend : cnt c pend ≡ 0

  pub chain_cell : (pend : List ℕ) (c r : ℕ) → Inv R n st g h pend → cnt c (get_or g.rows r []) ≢ 0 → Chained pend c r
  unfolding cnt
  chain_cell pend c r iv here =
      let e = iv.once c in
      let a = sum_at (cnt c) g.rows r [] refl in
      let b = inb_le n c in
      let w : inb n c ≢ 0 = omega arith in
      let v = inb_in n c w in
      record { inside = v.1; real = v.0; unfree = omega arith; single = omega arith; unrow = λ r' ne. omega (arith, sum_two (cnt c) g.rows r r' [] refl ne); unslot = λ i. omega (arith, sum_at (in_slot c) st.slots i empty_slot refl); unpend = omega arith }

  -- cell 0 is nowhere
  pub zero_nowhere : (pend : List ℕ) → Inv R n st g h pend → ((r : ℕ) → cnt 0 (get_or g.rows r []) ≡ 0) × ((i : ℕ) → in_slot 0 (slot_v st i) ≡ 0) × (cnt 0 pend ≡ 0)
  unfolding cnt
  zero_nowhere pend iv =
      let e = iv.once 0 in
      let z = inb_zero n in
      (λ r. omega (arith, sum_at (cnt 0) g.rows r [] refl), λ i. omega (arith, sum_at (in_slot 0) st.slots i empty_slot refl), omega arith)

-- what a nonzero pointer spells is in the list
pub spelled_first : (nx : ℕ → ℕ) (c : ℕ) (l : List ℕ) → Spelled nx c l → c ≢ 0 → cnt c l ≢ 0
spelled_first nx c [] s nz = absurd (nz s)
spelled_first nx c (d ∷ l) s nz = λ z. cnt_head c d l z s.0

module _ (R n : ℕ) (st : View) (g : Ghost) (h : Hist) where
  pub head_among : (pend : List ℕ) (r : ℕ) → Inv R n st g h pend → r < R → st.heads r ≢ 0 → cnt (st.heads r) (get_or g.rows r []) ≢ 0
  head_among pend r iv lt nz = spelled_first (nexts st) (st.heads r) (get_or g.rows r []) (iv.chain r lt) nz

  -- a free cell stands in no chain and in no write set
  pub free_alone : (c : ℕ) → Inv R n st g h [] → cnt c g.fl ≢ 0 → (c ≢ 0) × (c < n) × ((r : ℕ) → cnt c (get_or g.rows r []) ≡ 0) × ((i : ℕ) → in_slot c (slot_v st i) ≡ 0)
  unfolding cnt
  free_alone c iv nz =
      let e = iv.once c in
      let b = inb_le n c in
      let v = inb_in n c (omega arith) in
      (v.0, v.1, λ r. omega (arith, sum_at (cnt c) g.rows r [] refl), λ i. omega (arith, sum_at (in_slot c) st.slots i empty_slot refl))

  -- a cell of a write set
  pub own_cell : (i c : ℕ) → Inv R n st g h [] → in_slot c (slot_v st i) ≢ 0 → (c ≢ 0) × (c < n)
  unfolding cnt
  own_cell i c iv a =
      let b = sum_at (in_slot c) st.slots i empty_slot refl in
      let once = iv.once c in
      inb_in n c (omega arith)

pub get_d_past : (l : List (List ℕ)) (i : ℕ) → length l ≤ i → get_or l i [] ≡ []
get_d_past [] i h = refl
get_d_past (x ∷ l) zero h = absurd (omega arith)
get_d_past (x ∷ l) (suc i) h = get_d_past l i (le_of_suc-le-suc h)

-- where a cell stands in a row's chain, there is that row
pub placed_row : (R n : ℕ) (st : View) (g : Ghost) (h : Hist) (pend : List ℕ) (r c : ℕ) → Inv R n st g h pend → cnt c (get_or g.rows r []) ≢ 0 → r < R
unfolding cnt
placed_row R n st g h pend r c iv nz = by_bool (ltb r R) (λ e. ltb-true r R e) (λ e. absurd (nz (ap (cnt c) (get_d_past g.rows r (omega (arith, ltb-false r R e, iv.rowed))))))
