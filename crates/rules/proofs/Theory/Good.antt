-- What holds of a memory and of the history that led to it: the shape, and of its view the invariant and the locks.
use Rattle.std.specs.Prelude.{false, not, [], List, ◌≢◌, ◌≡◌, ℕ, suc, ◌≤◌, eqb, leb, length}
use Rattle.std.proofs.Common.{ap, sym, ◌∙◌, arith, leb-false, eqb-true, leb-true}
use Rattle.std.proofs.lemmas.Bool.{eqb-false, not-false, not-true}
use Rattle.words.specs.Sizes.{Sizes}
use Rattle.words.specs.Lists.{nonzero}
use Rattle.words.specs.Slots.{slot_of, Slot}
use Rattle.rules.specs.Memory.{Mem, size_r, size_n, slot_at}
use Rattle.rules.specs.Outcome.{slot_tests, store_tests, is_cell}
use Rattle.rules.proofs.Theory.Cases.{or_false, and_true}
use Rattle.rules.specs.Theory.CellLaws.{HasCell}
use Rattle.rules.specs.Theory.Shape.{Shaped}
use Rattle.rules.specs.Theory.View.{view_of}
use Rattle.rules.proofs.Theory.View.{get_slots}
use Rattle.rules.specs.Theory.Effects.{slot_v}
use Rattle.rules.specs.Theory.Inv.{Hist, Ghost, Inv}
use Rattle.rules.proofs.Theory.Locks.{Locks}
use Rattle.rules.specs.Theory.Guard.{Passed}
use Rattle.rules.specs.Theory.Good.{Owner}

pub record Good {z : Sizes} (R N : ℕ) (m : Mem z) (h : Hist) : Type 0 where
  pub shaped : Shaped m
  pub rows : size_r m ≡ R
  pub cells : size_n m ≡ N
  pub ghost : Ghost
  pub inv : Inv R (suc N) (view_of m) ghost h []
  pub locks : Locks (suc N) (view_of m)

pub owner : {z : Sizes} (m : Mem z) (s id : ℕ) → Passed (slot_tests m s id) → Owner m s id
unfolding slot_tests store_tests
owner m s id p =
    let o = or_false (eqb id 0) _ p.1.1.0 in
    record { slot = leb-false _ _ p.1.0; real = eqb-false id 0 o.0; own = eqb-true _ _ (not-false _ o.1) }

pub slot_id : {z : Sizes} (m : Mem z) (s id : ℕ) → Owner m s id → (slot_at m s).id ≡ id
unfolding slot_of
slot_id m s id o = sym o.own

module _ {z : Sizes} (m : Mem z) (s id : ℕ) (o : Owner m s id) where
  pub view_id : (slot_v (view_of m) s).id ≡ id
  view_id = ap (λ (t : Slot). t.id) (get_slots z m.slots s o.slot) ∙ slot_id m s id o

  pub view_open : (slot_v (view_of m) s).id ≢ 0
  view_open = rw view_id o.real

pub cell_in : (n c : ℕ) (cs : List (List ℕ)) → n ≤ length cs → not (is_cell n c) ≡ false → HasCell cs c
cell_in n c cs le e =
    let a = and_true (nonzero c) (leb c n) (not-false _ e) in
    let nz : c ≢ 0 = eqb-false c 0 (not-true _ a.0) in
    let b : c ≤ n = leb-true c n a.1 in
    record { low = omega arith; high = omega arith }
