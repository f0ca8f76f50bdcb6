-- The chain as the rules walk it, against the list that the pointers spell: a walk of k versions is the first k of the list.
use mathlib.Core.List.{List, [], ◌∷◌}
use Rattle.std.specs.Prelude.{◌≢◌, refl, ◌≡◌, ℕ, ◌<◌, zero, suc, ◌≤◌, ◌+◌, eqb, length, take, get_or}
use Rattle.std.proofs.Common.{ap, sym, ◌∙◌, subst, le_of_suc-le-suc, arith, eq-eqb, ne_eqb, le-ltb}
use Rattle.kinds.specs.declared.Version.{Version}
use Rattle.rules.specs.Chain.{ends, chain, chained, Chain}
use Rattle.rules.proofs.Theory.Cases.{by_eq}
use Rattle.rules.specs.Theory.View.{View}
use Rattle.rules.specs.Theory.Counting.{cnt, bit}
use Rattle.rules.proofs.Theory.Counting.{cnt_head, cnt_tail, sum_at}
use Rattle.rules.specs.Theory.Inv.{Spelled, inb, Ghost, Hist, Inv}
use Rattle.rules.proofs.Theory.Places.{inb_zero, inb_le, chain_cell}
use Rattle.rules.specs.Theory.Publish.{nexts_f}
use Rattle.rules.specs.Theory.Chains.{AllBelow, rest_of}

pub all_below : (n : ℕ) (l : List ℕ) → ((c : ℕ) → cnt c l ≢ 0 → c < n) → AllBelow n l
all_below n [] f = tt
all_below n (c ∷ l) f = (f c (λ z. cnt_head c c l z refl), all_below n l (λ d h. f d (λ z. h (cnt_tail d c l z))))

pub rest_ends : (k : ℕ) (l : List ℕ) → length l ≤ k → rest_of k l ≡ ends
unfolding rest_of
rest_ends zero [] h = refl
rest_ends zero (c ∷ l) h = absurd (omega arith)
rest_ends (suc k) [] h = refl
rest_ends (suc k) (c ∷ l) h = rest_ends k l (le_of_suc-le-suc h)

pub chain_spelled : (n k : ℕ) (f : ℕ → Version) (h : ℕ) (l : List ℕ) → AllBelow (suc n) l → Spelled (nexts_f f) h l → chain n f k h ≡ chained (take k l) (rest_of k l)
unfolding chain rest_of
chain_spelled n zero f h [] b s = rw (eq-eqb h 0 s)
chain_spelled n zero f h (c ∷ l) b s = rw (s.0, ne_eqb c 0 s.1)
chain_spelled n (suc k) f h [] b s = rw (eq-eqb h 0 s)
chain_spelled n (suc k) f h (c ∷ l) b s =
    rw (s.0, ne_eqb c 0 s.1, le-ltb n c (le_of_suc-le-suc b.0))
    (ap (λ (x : Chain). chained (c ∷ x.cells) x.after) (chain_spelled n k f (f c).next.0 l b.1 s.2))

-- the pointers spell one list
pub spelled_same : (f : ℕ → ℕ) (h : ℕ) (a b : List ℕ) → Spelled f h a → Spelled f h b → a ≡ b
spelled_same f h [] [] s t = refl
spelled_same f h [] (d ∷ b) s t = absurd (t.1 (sym t.0 ∙ s))
spelled_same f h (c ∷ a) [] s t = absurd (s.1 (sym s.0 ∙ t))
spelled_same f h (c ∷ a) (d ∷ b) s t =
    let e : c ≡ d = sym s.0 ∙ t.0 in
    let r = spelled_same f (f c) a b s.2 (subst (λ (x : ℕ). Spelled f (f x) b) (sym e) t.2) in
    rw (e, r)

pub take_whole : (k : ℕ) (l : List ℕ) → length l ≤ k → take k l ≡ l
take_whole zero [] h = refl
take_whole zero (c ∷ l) h = absurd (omega arith)
take_whole (suc k) [] h = refl
take_whole (suc k) (c ∷ l) h = ap (λ (x : List ℕ). c ∷ x) (take_whole k l (le_of_suc-le-suc h))

-- ---- a chain is no longer than the number of cells
-- f 0 + .. + f (n - 1)
unfoldable rsum : (ℕ → ℕ) → ℕ → ℕ
rsum f zero = 0
rsum f (suc n) = f n + rsum f n

rsum_add : (f g : ℕ → ℕ) (n : ℕ) → rsum (λ x. f x + g x) n ≡ rsum f n + rsum g n
unfolding rsum
rsum_add f g zero = omega arith
rsum_add f g (suc n) = omega (arith, rsum_add f g n)

rsum_le : (f g : ℕ → ℕ) (n : ℕ) → ((x : ℕ) → f x ≤ g x) → rsum f n ≤ rsum g n
unfolding rsum
rsum_le f g zero h = omega arith
rsum_le f g (suc n) h = omega (arith, rsum_le f g n h, h n)

-- one cell is counted once, below its bound
rsum_out : (c n : ℕ) → n ≤ c → rsum (λ x. bit (eqb x c)) n ≡ 0
unfolding rsum bit
rsum_out c zero h = refl
rsum_out c (suc n) h = rw (ne_eqb n c (omega arith)) (omega (arith, rsum_out c n (omega arith)))

rsum_in : (c n : ℕ) → c < n → rsum (λ x. bit (eqb x c)) n ≡ 1
unfolding rsum bit
rsum_in c zero h = absurd (omega arith)
rsum_in c (suc n) h = by_eq n c
    (λ e. rw (eq-eqb n c e) (omega (arith, rsum_out c n (omega arith))))
    (λ ne. rw (ne_eqb n c ne) (omega (arith, rsum_in c n (omega arith))))

rsum_nil : (n : ℕ) → rsum (λ x. cnt x []) n ≡ 0
unfolding rsum cnt
rsum_nil zero = refl
rsum_nil (suc n) = omega (arith, rsum_nil n)

-- the length is the sum of the counts
length_counts : (n : ℕ) (l : List ℕ) → AllBelow n l → length l ≡ rsum (λ x. cnt x l) n
unfolding cnt
length_counts n [] b = sym (rsum_nil n)
length_counts n (c ∷ l) b = omega (arith, length_counts n l b.1, rsum_in c n b.0, rsum_add (λ x. bit (eqb x c)) (λ x. cnt x l) n)

inb_sum : (n k : ℕ) → rsum (inb k) (suc n) ≤ n
unfolding rsum
inb_sum zero k = omega (arith, inb_zero k)
inb_sum (suc n) k = omega (arith, inb_sum n k, inb_le k (suc n))

rsum_ones : (n : ℕ) → rsum (λ _. 1) n ≡ n
unfolding rsum
rsum_ones zero = refl
rsum_ones (suc n) = omega (arith, rsum_ones n)

-- numbers below n, none twice: no more than n of them
pub distinct_short : (n : ℕ) (l : List ℕ) → AllBelow n l → ((x : ℕ) → cnt x l ≤ 1) → length l ≤ n
distinct_short n l b le = omega (arith, length_counts n l b, rsum_le (λ x. cnt x l) (λ _. 1) n le, rsum_ones n)

-- a list in which no cell stands twice is no longer than the number of cells
pub list_short : (N : ℕ) (l : List ℕ) → AllBelow (suc N) l → ((x : ℕ) → cnt x l ≤ inb (suc N) x) → length l ≤ N
list_short N l b le =
    let a = length_counts (suc N) l b in
    let c = rsum_le (λ x. cnt x l) (inb (suc N)) (suc N) le in
    omega (arith, inb_sum N (suc N))

module _ (R N : ℕ) (st : View) (g : Ghost) (h : Hist) (r : ℕ) (iv : Inv R (suc N) st g h []) where
  pub row_below : AllBelow (suc N) (get_or g.rows r [])
  row_below = all_below (suc N) (get_or g.rows r []) (λ c q. (chain_cell R (suc N) st g h [] c r iv q).inside)

  pub chain_short : length (get_or g.rows r []) ≤ N
  unfolding cnt
  chain_short = list_short N (get_or g.rows r []) row_below (λ x. omega (arith, iv.once x, sum_at (cnt x) g.rows r [] refl))

  -- so a walk of N versions comes to its end
  pub chain_ends : r < R → chain N st.vers N (st.heads r) ≡ chained (get_or g.rows r []) ends
  chain_ends lt =
      chain_spelled N N st.vers (st.heads r) (get_or g.rows r []) row_below (iv.chain r lt)
      ∙ rw (take_whole N (get_or g.rows r []) chain_short, rest_ends N (get_or g.rows r []) chain_short)
