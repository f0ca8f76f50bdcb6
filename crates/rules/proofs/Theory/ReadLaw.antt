-- A read on a store of which all holds, in the words of the memory and of the log.
use Rattle.std.specs.Prelude.{not, ◌≢◌, ◌⊎◌, refl, ℕ, ◌<◌, ◌≤◌, get_or, take, length}
use Rattle.std.proofs.Math.Bool.{true≢false}
use mathlib.Core.List.{◌∷◌, [], ◌++◌, List}
use Rattle.std.proofs.Common.{inl, inr, sym, ◌∙◌, arith, ne_eqb}
use Rattle.std.proofs.Math.Option.{some, Option, none}
use Rattle.std.proofs.Math.Path.{◌≡◌, ap, subst}
use Rattle.std.proofs.lemmas.Bool.{not-false, lt-leb}
use Rattle.kinds.specs.Answer.{Answer, Done}
use Rattle.kinds.specs.ReadAnswer.{ReadAnswer, None}
use Rattle.words.specs.Sizes.{Sizes, Roomy}
use Rattle.rules.specs.Numbers.{bad_size, chain_too_long, read_set_full, read_number}
use Rattle.words.specs.Lists.{first}
use Rattle.kinds.specs.Versions.{version_at}
use Rattle.words.specs.Slots.{Slot, Rec}
use Rattle.rules.specs.Memory.{Mem, slot_at, words_at, size_r}
use Rattle.rules.specs.Chain.{Chain}
use Rattle.rules.specs.Outcome.{Outcome, refuse, test, fits, slot_tests, row_test, refuse_read}
use Rattle.rules.specs.Create.{create_out}
use Rattle.rules.specs.Read.{sees, recorded, Sight, read_end, answer_at, read_out, read_at}
use Rattle.rules.specs.History.{made, Log, who_in, rows_in, cells_in, own_in, answer_of, value_in, view_in, key_answer, Val}
use Rattle.rules.specs.Reachable.{Reachable, chain_at, sees_at, walked_at, TooLong, ReadSetFull, says_at}
use Rattle.rules.proofs.Theory.SlotLaws.{recs_length}
use Rattle.rules.specs.Theory.View.{view_of}
use Rattle.rules.proofs.Theory.View.{get_slots}
use Rattle.rules.specs.Theory.Effects.{slot_v}
use Rattle.rules.specs.Theory.Inv.{vers, ver_of}
use Rattle.rules.proofs.Theory.Reading.{Beyond, full, Full, pick_cell, pick_visible, long, none_some, Right, own_write_lem, says_answer, no_version_lem, old_version, new_version_lem}
use Rattle.rules.specs.Theory.Guard.{Passed}
use Rattle.rules.proofs.Theory.Guard.{guard_case, passed_join, guard_passed}
use Rattle.rules.specs.Theory.Good.{Owner}
use Rattle.rules.proofs.Theory.VacuumCall.{row_chain_lem}
use Rattle.rules.specs.Theory.Steps.{hist_of}
use Rattle.rules.proofs.Theory.Steps.{Sound, create_starts, run_sound}
use Rattle.rules.proofs.Theory.Never.{open_slot, slot_passed, right_at}

some_same : (a b : ℕ) → ◌≡◌ {A = Option ℕ} (some a) (some b) → a ≡ b
some_same a b q = cc

module _ {z : Sizes} where
  guard_done : (m : Mem z) (n r : ℕ) → (create_out m n r).answer ≡ Done → Roomy z → Sound (create_out m n r).after (made n r ∷ [])
  unfolding create_out
  guard_done m n r e rm = go e
    where
      go : (create_out m n r).answer ≡ Done → Sound (create_out m n r).after (made n r ∷ [])
      go = guard_case (λ (o : Outcome z Answer ℕ). o.answer ≡ Done → Sound o.after (made n r ∷ [])) (refuse m) (test (not (fits m r n)) bad_size 0 ∷ []) _
          (λ k x q. let y : ◌≡◌ {A = ℕ} 0 1 = cc in absurd (omega arith))
          (λ p _. create_starts rm m n r (not-false _ p.0))

  pub reachable_sound : Roomy z → (m : Mem z) (l : Log) → Reachable m l → Sound m l
  reachable_sound rm m l rc =
      let s = run_sound rc.calls (create_out rc.lent rc.n rc.r).after (made rc.n rc.r ∷ []) (guard_done rc.lent rc.n rc.r rc.accepted rm) in
      rw (rc.memory, rc.log) at s

module _ {z : Sizes} (m : Mem z) (l : Log) (gd : Sound m l) (s row : ℕ) (op : who_in l s ≢ 0) (in_r : row < rows_in l) where
  abbrev o : Owner m s (who_in l s)
  o = open_slot (rows_in l) (cells_in l) m (hist_of l) gd s (who_in l s) op refl

  at_slot : slot_v (view_of m) s ≡ slot_at m s
  at_slot = get_slots z m.slots s o.slot

  at_row : get_or gd.ghost.rows row [] ≡ (chain_at m row).cells
  at_row = sym (ap (λ (c : Chain). c.cells) (row_chain_lem (rows_in l) (cells_in l) m (hist_of l) gd row in_r))

  abbrev BeyondHere : Type 0
  BeyondHere = Beyond z.walk (slot_v (view_of m) s) (vers (view_of m)) (get_or gd.ghost.rows row [])

  abbrev FullHere : Type 0
  FullHere = Full z (slot_v (view_of m) s) (vers (view_of m)) (get_or gd.ghost.rows row []) (slot_v (view_of m) s).recs

  abbrev looks : Option ℕ
  looks = pick_cell (slot_v (view_of m) s) (vers (view_of m)) (take z.walk (get_or gd.ghost.rows row []))

  -- the walk in the two languages
  pub walk_is : first (sees_at m s) (walked_at m row) ≡ looks
  walk_is = pick_visible (slot_at m s) (version_at m.cells) (walked_at m row) ∙ sym (rw (at_slot, at_row))

  to_long : own_in l s row ≡ none → BeyondHere → TooLong m l s row
  to_long e b = record { no_own = e; longer = rw at_row at b.0; unseen = walk_is ∙ b.1 }

  from_long : TooLong m l s row → BeyondHere
  from_long a = (rw at_row a.longer, sym walk_is ∙ a.unseen)

  few : length (slot_at m s).recs ≤ z.reads
  few = rw (recs_length (words_at m s) (gd.shaped.slots.each s o.slot)) (gd.shaped.slots.each s o.slot).reads

  to_full : own_in l s row ≡ none → FullHere → ReadSetFull m l s row
  to_full e b = record {
    no_own = e;
    cell = b.0;
    finds = walk_is ∙ b.1;
    unrecorded = rw at_slot at b.2;
    most = let ge : z.reads ≤ length (slot_at m s).recs = rw at_slot at b.3 in omega (arith, few);
  }

  pub from_full : ReadSetFull m l s row → FullHere
  from_full a = (a.cell, sym walk_is ∙ a.finds, rw at_slot a.unrecorded, rw at_slot (omega (arith, a.most)))

  -- a read's answer, each case exactly when
  pub data ReadIs : ReadAnswer → Type 0 where
    is_told : (a : ReadAnswer) → a ≡ answer_of (value_in l s row) → (TooLong m l s row → ⊥) → (ReadSetFull m l s row → ⊥) → ReadIs a
    is_long : TooLong m l s row → ReadIs (ReadAnswer.Refused chain_too_long row)
    is_full : ReadSetFull m l s row → ReadIs (ReadAnswer.Refused read_set_full row)

  -- no own write, and the walk finds c: neither too long, nor, where the record stands or there is room for it, full
  shown : own_in l s row ≡ none → (c : ℕ) → looks ≡ some c → (FullHere → ⊥) → (a : ReadAnswer) → a ≡ answer_of (view_in l s row) → ReadIs a
  shown e c p nf a q = is_told a (q ∙ rw e refl) (λ x. none_some _ c (from_long x).1 p) (λ x. nf (from_full x))

  sight_is : (g : Sight) → Right z (view_of m) gd.ghost (hist_of l) s row (slot_v (view_of m) s).recs g → ReadIs (read_end m s g).answer
  unfolding read_end answer_at
  sight_is _ (own_write_lem v e c q) = is_told _ (says_answer (view_of m) c (some v) q ∙ rw e refl) (λ a. none_some _ v a.no_own e) (λ a. none_some _ v a.no_own e)
  sight_is _ (no_version_lem e v le p) = is_told None (rw (e, v) refl) (λ a. omega (arith, (from_long a).0)) (λ a. none_some _ (from_full a).0 p (from_full a).1)
  sight_is _ (old_version e c p k q y) = shown e c p (λ b. true≢false (sym y ∙ ap (λ (x : ℕ). recorded x (slot_v (view_of m) s).recs) (some_same c b.0 (sym p ∙ b.1)) ∙ b.2)) _ (says_answer (view_of m) c (view_in l s row) q)
  sight_is _ (new_version_lem e c p k q y lt) = shown e c p (λ b. omega (arith, b.3)) _ (says_answer (view_of m) c (view_in l s row) q)
  sight_is _ (long e b) = is_long (to_long e b)
  sight_is _ (full e b) = is_full (to_full e b)

  pub read_is : ReadIs (read_out m s (who_in l s) row).answer
  unfolding read_out
  read_is =
      let id = who_in l s in
      let ts = slot_tests m s id ++ row_test m row ∷ [] in
      let p : Passed ts = passed_join (slot_tests m s id) (row_test m row ∷ []) (slot_passed (rows_in l) (cells_in l) m (hist_of l) gd s id o) (lt-leb (size_r m) row (rw gd.rows in_r), tt) in
      let a = right_at (rows_in l) (cells_in l) m (hist_of l) gd s id row (slot_v (view_of m) s).recs o in_r in
      rw (guard_passed (refuse_read m) ts (read_end m s (read_at m (slot_at m s) (slot_at m s).recs row)) p)
      (subst (λ (t : Slot). ReadIs (read_end m s (read_at m t t.recs row)).answer) at_slot (sight_is _ a))

  -- the version found, creator and all, is what history says
  sight_says : (g : Sight) → Right z (view_of m) gd.ghost (hist_of l) s row (slot_v (view_of m) s).recs g → (c : ℕ) (new : List Rec) → g ≡ sees c new → says_at m c ≡ value_in l s row
  unfolding says_at ver_of
  sight_says _ (own_write_lem v e c q) c' new y = let w : c ≡ c' = cc in subst (λ (x : ℕ). says_at m x ≡ value_in l s row) w (rw (ne_eqb c 0 q.0, e) (sym q.1))
  sight_says _ (no_version_lem e v le p) c' new y = let w : 0 ≡ c' = cc in subst (λ (x : ℕ). says_at m x ≡ value_in l s row) w (rw (e, v) refl)
  sight_says _ (old_version e c p k q r) c' new y = let w : c ≡ c' = cc in subst (λ (x : ℕ). says_at m x ≡ value_in l s row) w (rw (ne_eqb c 0 q.0, e) (sym q.1))
  sight_says _ (new_version_lem e c p k q r lt) c' new y = let w : c ≡ c' = cc in subst (λ (x : ℕ). says_at m x ≡ value_in l s row) w (rw (ne_eqb c 0 q.0, e) (sym q.1))
  sight_says _ (long e b) c' new y = let w : ◌≡◌ {A = ℕ} 0 1 = cc in absurd (omega arith)
  sight_says _ (full e b) c' new y = let w : ◌≡◌ {A = ℕ} 0 1 = cc in absurd (omega arith)

  pub found_says : (c : ℕ) (new : List Rec) → read_at m (slot_at m s) (slot_at m s).recs row ≡ sees c new → says_at m c ≡ value_in l s row
  found_says c new e =
      sight_says _ (right_at (rows_in l) (cells_in l) m (hist_of l) gd s (who_in l s) row (slot_v (view_of m) s).recs o in_r) c new
      (subst (λ (t : Slot). read_at m t t.recs row ≡ sees c new) (sym at_slot) e)

  -- ---- what the cases say
  pub tells : (a : ReadAnswer) → ReadIs a → (a ≡ answer_of (value_in l s row)) ⊎ (((a ≡ ReadAnswer.Refused chain_too_long row) × TooLong m l s row) ⊎ ((a ≡ ReadAnswer.Refused read_set_full row) × ReadSetFull m l s row))
  tells a (is_told _ e nl nf) = inl e
  tells _ (is_long t) = inr (inl (refl, t))
  tells _ (is_full f) = inr (inr (refl, f))

  -- a refusal is no value
  key_not : (k x : ℕ) (o : Option ℕ) → ReadAnswer.Refused k x ≡ key_answer o → ⊥
  key_not k x none e = let y : ◌≡◌ {A = ℕ} 0 1 = cc in omega arith
  key_not k x (some q) e = let y : ◌≡◌ {A = ℕ} 0 1 = cc in omega arith

  refused_not : (k x : ℕ) (v : Option Val) → ReadAnswer.Refused k x ≡ answer_of v → ⊥
  refused_not k x none e = let y : ◌≡◌ {A = ℕ} 0 1 = cc in omega arith
  refused_not k x (some v) e = key_not k x v.value e

  pub ten : (a : ReadAnswer) → ReadIs a → (a ≡ ReadAnswer.Refused chain_too_long row → TooLong m l s row) × (TooLong m l s row → a ≡ ReadAnswer.Refused chain_too_long row)
  ten a (is_told _ e nl nf) = ((λ q. absurd (refused_not chain_too_long row (value_in l s row) (sym q ∙ e))), λ t. absurd (nl t))
  ten _ (is_long t) = ((λ q. t), λ _. refl)
  ten _ (is_full f) = ((λ q. let y : read_set_full ≡ chain_too_long = ap read_number q in absurd (omega arith)), λ t. absurd (none_some _ f.cell t.unseen f.finds))

  pub thirteen : (a : ReadAnswer) → ReadIs a → (a ≡ ReadAnswer.Refused read_set_full row → ReadSetFull m l s row) × (ReadSetFull m l s row → a ≡ ReadAnswer.Refused read_set_full row)
  thirteen a (is_told _ e nl nf) = ((λ q. absurd (refused_not read_set_full row (value_in l s row) (sym q ∙ e))), λ f. absurd (nf f))
  thirteen _ (is_long t) = ((λ q. let y : chain_too_long ≡ read_set_full = ap read_number q in absurd (omega arith)), λ f. absurd (none_some _ f.cell t.unseen f.finds))
  thirteen _ (is_full f) = ((λ q. f), λ _. refl)

  pub answered : (a : ReadAnswer) → ReadIs a → read_number a ≡ 0 → a ≡ answer_of (value_in l s row)
  answered a (is_told _ e nl nf) q = e
  answered _ (is_long t) q = absurd (omega arith)
  answered _ (is_full f) q = absurd (omega arith)
