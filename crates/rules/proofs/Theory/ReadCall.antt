-- A read keeps what holds: it adds a right record, or none. The history stays.
use Rattle.std.specs.Prelude.{List, ◌++◌, [], ◌∷◌, ◌≡◌, refl, ℕ, ◌+◌, ◌≤◌, suc, ◌<◌, length, get_or}
use Rattle.std.proofs.Common.{subst, sym, length-append, leb-false}
use Rattle.kinds.specs.ReadAnswer.{ReadAnswer}
use Rattle.words.specs.Sizes.{Sizes, READS}
use Rattle.kinds.specs.Versions.{version_at}
use Rattle.words.specs.Slots.{Rec, Slot, add_recs}
use Rattle.rules.specs.Memory.{Mem, words_at, with_slot, size_r, slot_at, head_at}
use Rattle.rules.specs.Outcome.{Outcome, refuse_read, slot_tests, row_test}
use Rattle.rules.specs.Read.{Sight, read_end, blocked, sees, read_at, read_row, read_out}
use Rattle.rules.specs.Theory.SlotLaws.{with_recs}
use Rattle.rules.proofs.Theory.SlotLaws.{recs_length, slot_recs}
use Rattle.rules.proofs.Theory.Shape.{slots_ok}
use Rattle.rules.specs.Theory.View.{View, view_of}
use Rattle.rules.proofs.Theory.View.{get_slots}
use Rattle.rules.specs.Theory.Effects.{slot_v}
use Rattle.rules.proofs.Theory.Bridge.{view_recs}
use Rattle.rules.specs.Theory.Inv.{Hist}
use Rattle.rules.proofs.Theory.Inv.{all_map}
use Rattle.rules.proofs.Theory.SlotSteps.{open_in}
use Rattle.rules.proofs.Theory.Reslot.{reslot_inv}
use Rattle.rules.proofs.Theory.Locks.{locks_put, held_refilled}
use Rattle.rules.specs.Theory.Recording.{Rightly, Noted}
use Rattle.rules.proofs.Theory.Recording.{noted}
use Rattle.rules.proofs.Theory.Guard.{guard_case, passed_split}
use Rattle.rules.specs.Theory.Same.{Same}
use Rattle.rules.proofs.Theory.Same.{same_shaped}
use Rattle.rules.specs.Theory.Good.{Owner}
use Rattle.rules.proofs.Theory.Good.{Good, view_open, owner}

module _ {z : Sizes} (R N : ℕ) (m : Mem z) (h : Hist) (gd : Good R N m h) (s id : ℕ) (o : Owner m s id) where
  abbrev st : View
  st = view_of m

  pub recs_count : length (slot_v st s).recs ≡ get_or (words_at m s) (READS z) 0
  recs_count = rw (get_slots z m.slots s o.slot) (recs_length (words_at m s) (gd.shaped.slots.each s o.slot))

  pub recs_right : Rightly z st gd.ghost s (slot_v st s).recs
  recs_right =
      let q = gd.inv.opens s (view_open m s id o) in
      record { sound = q.records; single = q.apart; few = rw recs_count (gd.shaped.slots.each s o.slot).reads }

  -- records added
  pub recs_good : (l : List Rec) → Rightly z st gd.ghost s ((slot_v st s).recs ++ l) → Good R N (with_slot m s (add_recs z l (words_at m s))) h
  recs_good l a =
      let sh = gd.shaped in
      let iv = gd.inv in
      let op = view_open m s id o in
      let q = iv.opens s op in
      let within = open_in st.slots s op in
      let t = slot_v st s in
      let le : get_or (words_at m s) (READS z) 0 + length l ≤ z.reads = rw (length-append t.recs l, recs_count) at a.few in
      let vw = view_recs m s o.slot sh l le in
      let same : Same m (with_slot m s (add_recs z l (words_at m s))) = record { meta = refl; rows = refl; cells = refl; sizer = refl; sizen = refl } in
      record {
        shaped = same_shaped m _ same sh (slots_ok m.slots s (add_recs z l (words_at m s)) sh.slots o.slot (slot_recs l (words_at m s) (sh.slots.each s o.slot) le).1);
        rows = gd.rows;
        cells = gd.cells;
        ghost = gd.ghost;
        inv = rw vw (reslot_inv R (suc N) st gd.ghost h [] [] s t.writes (t.recs ++ l) h.own iv op (λ x. refl) q.owns (λ j r' ne. refl) q.entries a.sound a.single);
        locks = rw vw (locks_put (suc N) st s (with_recs t l) st.clock within (λ _. all_map _ _ t.writes (held_refilled st t t.writes (t.recs ++ l)) (gd.locks.held s op)) (λ c nz cn lk oj am. (oj, am)) gd.locks);
      }

  end_good : (g : Sight) → Noted z st gd.ghost s (slot_v st s).recs g → Good R N (read_end m s g).after h
  unfolding read_end
  end_good (blocked k x) a = gd
  end_good (sees c l) a = recs_good l a

  pub noted_at : (row : ℕ) → row < size_r m → Noted z st gd.ghost s (slot_v st s).recs (read_at m (slot_at m s) (slot_at m s).recs row)
  noted_at row lt =
      subst (λ (t : Slot). Noted z st gd.ghost s (slot_v st s).recs (read_at m t t.recs row)) (get_slots z m.slots s o.slot)
      (subst (λ (k : ℕ). Noted z st gd.ghost s (slot_v st s).recs (read_row z k (version_at m.cells) (head_at m row) (slot_v st s) (slot_v st s).recs row)) (sym gd.cells)
      (noted z R N st gd.ghost h s row gd.inv (view_open m s id o) (rw gd.rows at lt) (slot_v st s).recs recs_right))

  read_now : (row : ℕ) → row < size_r m → Good R N (read_end m s (read_at m (slot_at m s) (slot_at m s).recs row)).after h
  read_now row lt = end_good _ (noted_at row lt)

pub read_good : {z : Sizes} (R N : ℕ) (m : Mem z) (h : Hist) → Good R N m h → (s id row : ℕ) → Good R N (read_out m s id row).after h
unfolding read_out
read_good {z} R N m h gd s id row = guard_case (λ (o : Outcome z ReadAnswer ℕ). Good R N o.after h) (refuse_read m) (slot_tests m s id ++ row_test m row ∷ []) _ (λ k x. gd)
    (λ p.
    let q = passed_split (slot_tests m s id) (row_test m row ∷ []) p in
    read_now R N m h gd s id (owner m s id q.0) row (leb-false (size_r m) row q.1.0))
