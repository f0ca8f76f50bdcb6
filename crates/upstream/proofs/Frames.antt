-- What upstream's lifecycle and initialization clauses say stays: other slots, and the versions that a reader may look at.
use Rattle.std.specs.Prelude.{ℕ, ◌<◌, suc, ◌≢◌, ◌≡◌, refl}
use mathlib.Core.List.{List, [], ◌++◌}
use Rattle.std.proofs.Common.{inl, sym, ◌∙◌, subst, arith, ne_eqb, le-leb}
use Rattle.std.proofs.Math.Option.{Option}
use Rattle.std.proofs.Math.Path.{ap}
use Rattle.std.proofs.Math.ListN.{get_or}
use Rattle.std.proofs.Math.Seq.{get_or-set_other}
use Rattle.kinds.specs.Answer.{Answer}
use Rattle.words.specs.Sizes.{Sizes, Roomy}
use Rattle.words.specs.Lists.{fold}
use Rattle.kinds.specs.Versions.{version_at, version_of, locked_for}
use Rattle.words.specs.Slots.{emptied}
use Rattle.rules.specs.Memory.{Mem, size_n, free, head_at, words_at, slot_at, with_cells}
use Rattle.rules.specs.Chain.{Chain}
use Rattle.rules.specs.Outcome.{Outcome, refuse, slot_tests, each}
use Rattle.rules.specs.Begin.{begun, begin_words}
use Rattle.rules.specs.Write.{lock_base, prepared, write_out}
use Rattle.rules.specs.Commit.{commit_out, commit_tests, publish_all}
use Rattle.rules.specs.Abort.{abort_out, abort_tests, news, give_back, unlock_base}
use Rattle.rules.specs.History.{Log, rows_in, cells_in}
use Rattle.rules.specs.Reachable.{Reachable, chain_at, free_at, times}
use Rattle.rules.specs.Exactly.{NoneOf}
use Rattle.rules.specs.Terms.{NoEntry}
use Rattle.rules.proofs.WriteRefuses.{write_lines}
use Rattle.rules.proofs.WritePrepares.{write_keeps_other_cells, write_locks_the_base}
use Rattle.rules.proofs.HandedOut.{write_takes_the_first_free}
use Rattle.rules.specs.Theory.Counting.{cnt}
use Rattle.rules.proofs.Theory.Guard.{guard_case}
use Rattle.rules.proofs.Theory.Same.{slots_publish_all, slots_give_all}
use Rattle.rules.proofs.Theory.Places.{spelled_first, free_alone, chain_cell}
use Rattle.rules.specs.Theory.View.{view_of}
use Rattle.rules.proofs.Theory.OnePlace.{times_is, free_chain}
use Rattle.rules.proofs.Theory.Facts.{at_row}
use Rattle.rules.specs.Theory.Steps.{hist_of}
use Rattle.rules.proofs.Theory.Steps.{Sound}
use Rattle.rules.proofs.Theory.ReadLaw.{reachable_sound}
use Rattle.upstream.proofs.Standing.{reachable_image_is_valid}
use Rattle.upstream.specs.Frames.{initialized, Permitted}

-- ---- `begin_transaction` and `end_transaction`: all other slots are unchanged, on any memory
module _ {z : Sizes} (m : Mem z) (s id j : ℕ) (ne : j ≢ s) where
  pub begin_transaction_keeps_other_slots : words_at (begun m s) j ≡ words_at m j
  begin_transaction_keeps_other_slots = get_or-set_other m.slots s j (begin_words m s) [] ne

  pub end_transaction_by_commit_keeps_other_slots : words_at (commit_out m s id).after j ≡ words_at m j
  unfolding commit_out
  end_transaction_by_commit_keeps_other_slots = guard_case (λ (o : Outcome z Answer ℕ). words_at o.after j ≡ words_at m j) (refuse m) (slot_tests m s id ++ commit_tests m (slot_at m s) (slot_at m s).writes) _ (λ k x. refl)
      (λ p. get_or-set_other (publish_all id (slot_at m s).writes m).slots s j (emptied z) [] ne ∙ ap (λ (ss : List (List ℕ)). get_or ss j []) (slots_publish_all id (slot_at m s).writes m))

  pub end_transaction_by_abort_keeps_other_slots : words_at (abort_out m s id).after j ≡ words_at m j
  unfolding abort_out
  end_transaction_by_abort_keeps_other_slots = guard_case (λ (o : Outcome z Answer ℕ). words_at o.after j ≡ words_at m j) (refuse m) (slot_tests m s id ++ each (abort_tests m) (slot_at m s).writes) _ (λ k x. refl)
      (λ p.
      let loosed = with_cells m (fold (unlock_base id) (slot_at m s).writes m.cells) in
      get_or-set_other (fold give_back (news (slot_at m s).writes) loosed).slots s j (emptied z) [] ne ∙ ap (λ (ss : List (List ℕ)). get_or ss j []) (slots_give_all (news (slot_at m s).writes) loosed))

module _ {z : Sizes} (rm : Roomy z) (m : Mem z) (l : Log) (rc : Reachable m l) where
  abbrev so : Sound m l
  so = reachable_sound rm m l rc

  is_free : free m ≢ 0 → cnt (free m) so.ghost.fl ≢ 0
  is_free nz = spelled_first _ (free m) so.ghost.fl so.inv.frees nz

  -- the cell that a write takes is `permitted`, with the next 0 that it is given
  pub first_free_cell_is_permitted : free m ≢ 0 → Permitted m (free m) 0
  first_free_cell_is_permitted nz =
      let k = free_alone (rows_in l) (suc (cells_in l)) (view_of m) so.ghost (hist_of l) (free m) so.inv (is_free nz) in
      let lt = k.1 in
      record {
        image = reachable_image_is_valid rm m l rc;
        cell = rw (ne_eqb (free m) 0 nz, le-leb (free m) (size_n m) (omega (arith, so.cells)));
        exclusive = λ e. is_free nz (ap (cnt (free m)) (sym (ap (λ (c : Chain). c.cells) (free_chain (rows_in l) (cells_in l) m (hist_of l) so))) ∙ sym (times_is (free m) (free_at m).cells) ∙ e);
        unprotected = λ row in_r.
            let e = at_row (rows_in l) (cells_in l) m (hist_of l) so row (rw so.rows at in_r) in
            times_is (free m) (chain_at m row).cells ∙ ap (cnt (free m)) (sym e) ∙ k.2 row;
        points = inl refl;
      }

  -- What a write leaves of the versions in chains: each as it was, but for the base's lock and owner. Upstream's initialization locks
  -- nothing; ours is part of a write, which locks the base for the writer.
  module _ (s id row : ℕ) (v : Option ℕ) (accepted : NoneOf (write_lines m s id row)) (new : NoEntry (slot_at m s).writes row) where
    abbrev after : Mem z
    after = (write_out m s id row v).after

    -- the cells after are `initialized` of those before, the base locked: the cell taken has the value, the writer as xmin, next 0
    pub initialize_row_ok_is_initialized : after.cells ≡ (initialized (with_cells m (lock_base m.cells (head_at m row) id)) (free m) v id 0).cells
    unfolding prepared
    initialize_row_ok_is_initialized = ap (λ (o : Outcome z Answer ℕ). o.after.cells) (write_takes_the_first_free m s id row v accepted new)

    not_taken : (r c : ℕ) → r < rows_in l → times c (chain_at m r).cells ≢ 0 → (c ≢ 0) × (c ≢ free m)
    not_taken r c in_r nz =
        let e = at_row (rows_in l) (cells_in l) m (hist_of l) so r in_r in
        let k = chain_cell (rows_in l) (suc (cells_in l)) (view_of m) so.ghost (hist_of l) [] c r so.inv (λ y. nz (times_is c (chain_at m r).cells ∙ subst (λ (x : List ℕ). cnt c x ≡ 0) e y)) in
        (k.real, λ q. is_free (λ y. k.real (q ∙ y)) (subst (λ (x : ℕ). cnt x so.ghost.fl ≡ 0) q k.unfree))

    pub initialize_row_keeps_chained_versions_but_the_base's_lock : (r c : ℕ) → r < rows_in l → times c (chain_at m r).cells ≢ 0
        → (c ≢ head_at m row → version_at after.cells c ≡ version_at m.cells c) × (c ≡ head_at m row → version_at after.cells c ≡ locked_for (version_at m.cells c) id)
    initialize_row_keeps_chained_versions_but_the_base's_lock r c in_r nz =
        let k = not_taken r c in_r nz in (
          λ ne. ap version_of (write_keeps_other_cells m s id row v accepted new c k.1 (λ _. ne)),
          λ e. subst (λ (x : ℕ). version_at after.cells x ≡ locked_for (version_at m.cells x) id) (sym e) (write_locks_the_base m s id row v accepted new (λ y. k.0 (e ∙ y)) (λ y. k.1 (e ∙ y))),
        )
