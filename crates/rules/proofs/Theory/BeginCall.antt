-- Begin keeps what holds; the history notes the slot, the id and the commits that stand.
use mathlib.Core.List.{List, [], ◌∷◌, map, ◌++◌}
use Rattle.std.specs.Prelude.{◌≡◌, ℕ, ◌<◌, suc, zero, ◌≤◌, ◌+◌, eqb, leb, length, get_or, take}
use Rattle.std.proofs.Math.Path.{refl}
use Rattle.std.proofs.Common.{ap, ◌∙◌, sym, le_of_suc-le-suc, arith, length-take, length-set, get_or-set_other}
use borrow.Author.Tests.{eqb-true, leb-false}
use Rattle.kinds.specs.Answer.{Answer}
use Rattle.words.specs.Sizes.{ID, Sizes, CLOCK, ROWS, CELLS, last_id}
use Rattle.rules.specs.Numbers.{no_free_slot, clock_spent}
use Rattle.words.specs.Slots.{slot_of}
use Rattle.rules.specs.Memory.{Mem, words_at, slot_at, clock}
use Rattle.rules.specs.Snapshot.{vacant}
use Rattle.rules.specs.Outcome.{test, Outcome, refuse, store_tests}
use Rattle.rules.specs.Begin.{begun, begin_words, begin_out}
use Rattle.rules.specs.History.{if_begun}
use Rattle.rules.proofs.Theory.Cases.{by_bool}
use Rattle.rules.proofs.Theory.Shape.{slots_ok}
use Rattle.rules.specs.Theory.View.{slots_of, view_of}
use Rattle.rules.proofs.Theory.View.{get_slots}
use Rattle.rules.specs.Theory.Effects.{slot_v}
use Rattle.rules.proofs.Theory.Bridge.{begin_ok, view_begin}
use Rattle.rules.specs.Theory.Inv.{Hist}
use Rattle.rules.specs.Theory.SlotSteps.{born_slot}
use Rattle.rules.proofs.Theory.SlotSteps.{begin_inv}
use Rattle.rules.proofs.Theory.Locks.{locks_put}
use Rattle.rules.proofs.Theory.Guard.{guard_case, passed_split}
use Rattle.rules.specs.Theory.Same.{Same}
use Rattle.rules.proofs.Theory.Same.{same_shaped}
use Rattle.rules.specs.Theory.Good.{hist_begin}
use Rattle.rules.proofs.Theory.Good.{Good}

vacant_empty : (l : List (List ℕ)) → vacant l < length l → get_or (get_or l (vacant l) []) ID 0 ≡ 0
unfolding vacant
vacant_empty [] h = refl
vacant_empty (t ∷ l) h = by_bool (eqb (get_or t ID 0) 0) (λ e. rw e (eqb-true _ _ e)) (λ e. rw e (vacant_empty l (le_of_suc-le-suc (rw e at h))))

get_take : (k : ℕ) (l : List (List ℕ)) (i : ℕ) → i < k → get_or (take k l) i [] ≡ get_or l i []
get_take zero l i h = absurd (omega arith)
get_take (suc k) [] i h = refl
get_take (suc k) (x ∷ l) zero h = refl
get_take (suc k) (x ∷ l) (suc i) h = get_take k l i (le_of_suc-le-suc h)

slot_zero : {z : Sizes} (m : Mem z) (s : ℕ) → get_or (words_at m s) ID 0 ≡ 0 → (slot_at m s).id ≡ 0
unfolding slot_of
slot_zero m s e = e

length_slots : (z : Sizes) (k : ℕ) (l : List (List ℕ)) → k ≤ length l → length (map (slot_of z) (take k l)) ≡ k
length_slots z zero l h = refl
length_slots z (suc k) [] h = absurd (omega arith)
length_slots z (suc k) (x ∷ l) h = ap suc (length_slots z k l (le_of_suc-le-suc h))

pub slots_length : (z : Sizes) (ss : List (List ℕ)) → z.slots ≤ length ss → length (slots_of z ss) ≡ z.slots
unfolding slots_of
slots_length z ss h = length_slots z z.slots ss h

module _ {z : Sizes} (R N : ℕ) (m : Mem z) (h : Hist) (gd : Good R N m h) where
  -- the slot that begin takes is empty
  pub vacant_slot : (s : ℕ) → s ≡ vacant (take z.slots m.slots) → s < z.slots → (slot_v (view_of m) s).id ≡ 0
  vacant_slot s e lt =
      let n : length (take z.slots m.slots) ≡ z.slots = length-take z.slots m.slots ∙ omega (arith, gd.shaped.slots.count) in
      let v : get_or (get_or (take z.slots m.slots) s []) ID 0 ≡ 0 = rw e (vacant_empty (take z.slots m.slots) (rw (n, sym e) lt)) in
      rw (get_slots z m.slots s lt) (slot_zero m s (ap (λ (t : List ℕ). get_or t ID 0) (sym (get_take z.slots m.slots s lt)) ∙ v))

  begun_good : (s : ℕ) → s < z.slots → (slot_v (view_of m) s).id ≡ 0 → Good R N (begun m s) (hist_begin h s (clock m))
  begun_good s lt vac =
      let sh = gd.shaped in
      let st = view_of m in
      let er = get_or-set_other m.meta CLOCK ROWS (clock m + 1) 0 (omega arith) in
      let en = get_or-set_other m.meta CLOCK CELLS (clock m + 1) 0 (omega arith) in
      let same : Same m (begun m s) = record { meta = length-set m.meta CLOCK (clock m + 1); rows = refl; cells = refl; sizer = er; sizen = en } in
      let within : s < length st.slots = rw (slots_length z m.slots sh.slots.count) lt in
      record {
        shaped = same_shaped m (begun m s) same sh (slots_ok m.slots s (begin_words m s) sh.slots lt (begin_ok m s sh lt));
        rows = er ∙ gd.rows;
        cells = en ∙ gd.cells;
        ghost = gd.ghost;
        inv = rw (view_begin m s sh lt) (begin_inv R (suc N) st gd.ghost h s gd.inv within vac);
        locks = rw (view_begin m s sh lt) (locks_put (suc N) st s (born_slot st s) (st.clock + 1) within (λ _. tt) (λ c nz cn l op. absurd (op vac)) gd.locks);
      }

  pub begin_good : Good R N (begin_out m).after (if_begun (begin_out m).answer (hist_begin h) h)
  unfolding begin_out
  begin_good =
      let s = vacant (take z.slots m.slots) in
      let ts = test (leb z.slots s) no_free_slot 0 ∷ test (eqb (clock m) last_id) clock_spent 0 ∷ [] in
      guard_case (λ (o : Outcome z Answer ℕ). Good R N o.after (if_begun o.answer (hist_begin h) h)) (refuse m) (store_tests m ++ ts) _ (λ k x. gd)
      (λ p.
      let lt : s < z.slots = leb-false _ _ (passed_split (store_tests m) ts p).1.0 in
      begun_good s lt (vacant_slot s refl lt))
