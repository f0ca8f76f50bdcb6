-- Each cell in one place: the counting equation of the invariant, said of the lists that the memory spells.
use Rattle.std.specs.Prelude.{List, [], ◌∷◌, ◌≢◌, ◌≡◌, refl, ℕ, ◌<◌, ◌+◌, suc, ◌≤◌, eqb, length, get_or}
use Rattle.std.proofs.Math.Path.{ap}
use Rattle.std.proofs.Common.{◌∙◌, sym, subst, arith, ne_eqb, lt-ltb, le-ltb}
use Rattle.words.specs.Sizes.{Sizes}
use Rattle.words.specs.Lists.{from}
use Rattle.kinds.specs.Versions.{with_next, empty_version, link_at}
use Rattle.words.specs.Slots.{Slot}
use Rattle.rules.specs.Memory.{Mem, free, size_r, slot_at}
use Rattle.rules.specs.Chain.{chained, ends, Chain}
use Rattle.rules.specs.Abort.{news}
use Rattle.rules.specs.Reachable.{times, joined, free_at, chain_at, everywhere, NowhereElse}
use Rattle.rules.proofs.Theory.Cases.{by_bool}
use Rattle.rules.specs.Theory.View.{view_of, empty_slot}
use Rattle.rules.proofs.Theory.View.{get_slots}
use Rattle.rules.specs.Theory.Counting.{cnt, bit, sum}
use Rattle.rules.proofs.Theory.Counting.{cnt_append}
use Rattle.rules.specs.Theory.Inv.{Hist, in_slot, inb}
use Rattle.rules.proofs.Theory.Places.{free_alone, chain_cell}
use Rattle.rules.specs.Theory.Chains.{AllBelow}
use Rattle.rules.proofs.Theory.Chains.{all_below, list_short, chain_spelled, take_whole, rest_ends}
use Rattle.rules.proofs.Theory.Good.{Good}
use Rattle.rules.proofs.Theory.BeginCall.{slots_length}
use Rattle.rules.proofs.Theory.VacuumCall.{row_chain_lem}

pub times_is : (x : ℕ) (l : List ℕ) → times x l ≡ cnt x l
unfolding times cnt bit
times_is x [] = refl
times_is x (y ∷ l) = by_bool (eqb x y) (λ e. rw e (omega (arith, times_is x l))) (λ e. rw e (omega (arith, times_is x l)))

-- the count over the members of a list, told by index
joined_sum : {A : Type 0} (x : ℕ) (f : ℕ → List ℕ) (k : A → List ℕ) (l : List A) (d : A) (a : ℕ) → ((i : ℕ) → i < length l → f (a + i) ≡ k (get_or l i d)) → cnt x (joined f (from a (length l))) ≡ sum (λ (y : A). cnt x (k y)) l
unfolding joined from sum cnt
joined_sum x f k [] d a h = refl
joined_sum x f k (y ∷ l) d a h =
    let e : f a ≡ k y = ap f (let q : a ≡ a + 0 = omega arith in q) ∙ h 0 (omega arith) in
    let r = joined_sum x f k l d (suc a) (λ i lt. ap f (let q : suc a + i ≡ a + suc i = omega arith in q) ∙ h (suc i) (omega arith)) in
    cnt_append x (f a) (joined f (from (suc a) (length l))) ∙ rw (e, r)

module _ {z : Sizes} (R N : ℕ) (m : Mem z) (h : Hist) (gd : Good R N m h) where
  free_below : AllBelow (suc N) gd.ghost.fl
  free_below = all_below (suc N) gd.ghost.fl (λ c nz. (free_alone R (suc N) (view_of m) gd.ghost h c gd.inv nz).1)

  free_short : length gd.ghost.fl ≤ N
  free_short = list_short N gd.ghost.fl free_below (λ x. omega (arith, gd.inv.once x))

  -- the walk along the free links finds the free list, and its end
  pub free_chain : free_at m ≡ chained gd.ghost.fl ends
  free_chain =
      rw gd.cells
      (chain_spelled N N (λ c. with_next empty_version (link_at m.cells c)) (free m) gd.ghost.fl free_below gd.inv.frees
      ∙ rw (take_whole N gd.ghost.fl free_short, rest_ends N gd.ghost.fl free_short))

  rows_sum : (x : ℕ) → cnt x (joined (λ r. (chain_at m r).cells) (from 0 (size_r m))) ≡ sum (cnt x) gd.ghost.rows
  rows_sum x =
      let e = gd.inv.rowed in
      rw (gd.rows ∙ sym e)
      (joined_sum x (λ r. (chain_at m r).cells) (λ (y : List ℕ). y) gd.ghost.rows [] 0
      (λ i lt. let q : 0 + i ≡ i = omega arith in rw q (ap (λ (c : Chain). c.cells) (row_chain_lem R N m h gd i (omega arith)))))

  slots_sum : (x : ℕ) → cnt x (joined (λ s. news (slot_at m s).writes) (from 0 z.slots)) ≡ sum (in_slot x) (view_of m).slots
  slots_sum x =
      let e = slots_length z m.slots gd.shaped.slots.count in
      ap (λ (k : ℕ). cnt x (joined (λ s. news (slot_at m s).writes) (from 0 k))) (sym e)
      ∙ (joined_sum x (λ s. news (slot_at m s).writes) (λ (t : Slot). news t.writes) (view_of m).slots empty_slot 0
      (λ i lt. let q : 0 + i ≡ i = omega arith in rw q (ap (λ (t : Slot). news t.writes) (sym (get_slots z m.slots i (omega arith))))))

  pub once_everywhere : (x : ℕ) → times x (everywhere m) ≡ inb (suc N) x
  unfolding cnt
  once_everywhere x =
      times_is x (everywhere m)
      ∙ cnt_append x (free_at m).cells _
      ∙ ap (λ (k : ℕ). cnt x (free_at m).cells + k) (cnt_append x (joined (λ r. (chain_at m r).cells) (from 0 (size_r m))) _)
      ∙ rw (free_chain, rows_sum x, slots_sum x) (omega (arith, gd.inv.once x))

module _ {z : Sizes} (R N : ℕ) (m : Mem z) (h : Hist) (gd : Good R N m h) where
  chain_of : (r : ℕ) → r < R → get_or gd.ghost.rows r [] ≡ (chain_at m r).cells
  chain_of r lt = sym (ap (λ (c : Chain). c.cells) (row_chain_lem R N m h gd r lt))

  pub nowhere_else : (row c : ℕ) → row < R → times c (chain_at m row).cells ≢ 0 → NowhereElse m row c
  nowhere_else row c in_r nz =
      let in_row : cnt c (get_or gd.ghost.rows row []) ≢ 0 = λ y. nz (times_is c (chain_at m row).cells ∙ subst (λ (x : List ℕ). cnt c x ≡ 0) (chain_of row in_r) y) in
      let k = chain_cell R (suc N) (view_of m) gd.ghost h [] c row gd.inv in_row in
      record {
        once = times_is c (chain_at m row).cells ∙ subst (λ (x : List ℕ). cnt c x ≡ 1) (chain_of row in_r) k.single;
        others = λ r lt ne. times_is c (chain_at m r).cells ∙ subst (λ (x : List ℕ). cnt c x ≡ 0) (chain_of r (rw gd.rows at lt)) (k.unrow r (λ e. ne (sym e)));
        unfree = times_is c (free_at m).cells ∙ subst (λ (x : Chain). cnt c x.cells ≡ 0) (sym (free_chain R N m h gd)) k.unfree;
        unwritten = λ s lt. times_is c (news (slot_at m s).writes) ∙ subst (λ (t : Slot). cnt c (news t.writes) ≡ 0) (get_slots z m.slots s lt) (k.unslot s);
      }

pub inb_one : (N x : ℕ) → x ≢ 0 → x ≤ N → inb (suc N) x ≡ 1
unfolding inb bit
inb_one N x nz le = rw (ne_eqb x 0 nz, lt-ltb x (suc N) (omega arith))

pub inb_none : (N x : ℕ) → N < x → inb (suc N) x ≡ 0
unfolding inb bit
inb_none N x lt = rw (ne_eqb x 0 (omega arith), le-ltb x (suc N) (omega arith))
