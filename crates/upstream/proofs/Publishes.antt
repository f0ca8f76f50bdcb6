-- 000, `publish_prepared_write_set`: an accepted commit leaves the image of phase 3, but for the base's lock and owner; a refused one
-- leaves the image of phase 0. Of any memory, and of one write, as 000 has it; what several leave stands in the rules
-- (CommitPublishes.antt, CommitAllOrNothing.antt).
use Rattle.std.specs.Prelude.{ℕ, List, [], ◌∷◌, ◌≡◌, refl, ◌≢◌, ◌⊎◌, get_or}
use Rattle.std.proofs.Common.{sym, ap, ◌∙◌, subst, inl, inr, ⊎_elim, arith, eq-eqb, ne_eqb}
use Rattle.kinds.specs.declared.Version.{Version}
use Rattle.kinds.specs.Answer.{Answer}
use Rattle.words.specs.Sizes.{Sizes, ROWS, CELLS}
use Rattle.kinds.specs.Versions.{with_xmax, with_next, unlocked, version_of, version_at}
use Rattle.words.specs.Slots.{Write}
use Rattle.rules.specs.Memory.{Mem, slot_at}
use Rattle.rules.specs.Outcome.{Outcome}
use Rattle.rules.specs.Commit.{commit_out}
use Rattle.rules.specs.Exactly.{In, NoneOf}
use Rattle.rules.proofs.Terms.{is_cell_lem}
use Rattle.rules.proofs.Theory.Cases.{by_eq}
use Rattle.rules.proofs.CommitRefuses.{commit_lines, commit_refuses_exactly}
use Rattle.rules.specs.Published.{Apart}
use Rattle.rules.proofs.CommitPublishes.{commit_moves_each_head, commit_keeps_other_heads, commit_marks_each_base, commit_links_each_new, commit_keeps_other_cells, commit_keeps_the_clock}
use Rattle.upstream.specs.Images.{Image, image_of}
use Rattle.upstream.specs.Publication.{publication_prefix, Same, SameButLock, AllowedPrefix}

-- ---- phase 3, head by head and cell by cell
module _ (s : Image) (w : Write) (id : ℕ) where
  pub phase_3_head : (r : ℕ) → r ≡ w.row → (publication_prefix s w id 3).heads r ≡ w.new
  phase_3_head r e = rw (eq-eqb r w.row e)

  pub phase_3_other_head : (r : ℕ) → r ≢ w.row → (publication_prefix s w id 3).heads r ≡ s.heads r
  phase_3_other_head r n = by_eq w.base 0 (λ e. rw (ne_eqb r w.row n, eq-eqb w.base 0 e)) (λ e. rw (ne_eqb r w.row n, ne_eqb w.base 0 e))

  pub phase_3_sizes : ((publication_prefix s w id 3).cells ≡ s.cells) × ((publication_prefix s w id 3).capacity ≡ s.capacity)
  phase_3_sizes = by_eq w.base 0 (λ e. rw (eq-eqb w.base 0 e) (refl, refl)) (λ e. rw (ne_eqb w.base 0 e) (refl, refl))

  pub phase_3_new : w.new ≢ w.base → (publication_prefix s w id 3).rows w.new ≡ with_next (s.rows w.new) w.base
  phase_3_new n = by_eq w.base 0
      (λ e. rw (eq-eqb w.new w.new refl, eq-eqb w.base 0 e))
      (λ e. rw (eq-eqb w.new w.new refl, ne_eqb w.base 0 e, ne_eqb w.new w.base n))

  pub phase_3_base : w.new ≢ w.base → w.base ≢ 0 → (publication_prefix s w id 3).rows w.base ≡ with_xmax (s.rows w.base) id
  phase_3_base n e = rw (ne_eqb w.base w.new (λ q. n (sym q)), ne_eqb w.base 0 e, eq-eqb w.base w.base refl)

  pub phase_3_else : (c : ℕ) → c ≢ w.new → (w.base ≢ 0 → c ≢ w.base) → (publication_prefix s w id 3).rows c ≡ s.rows c
  phase_3_else c n b = by_eq w.base 0
      (λ e. rw (ne_eqb c w.new n, eq-eqb w.base 0 e))
      (λ e. rw (ne_eqb c w.new n, ne_eqb w.base 0 e, ne_eqb c w.base (b e)))

-- ---- a commit of one write. Of all that `prepared` asks only this is left: the new cell is not the base
module _ {z : Sizes} (m : Mem z) (s id : ℕ) (w : Write) (one : (slot_at m s).writes ≡ w ∷ []) (differ : w.new ≢ w.base) where
  abbrev after : Mem z
  after = (commit_out m s id).after

  module _ (accepted : NoneOf (commit_lines m s id)) where
    apart : Apart (slot_at m s).writes
    apart = rw one ((λ e. differ (sym e)), tt, tt)

    here : In w (slot_at m s).writes
    here = rw one (inl refl)

    -- the base marked, the new cell linked, the head moved: "held but for the base's lock and owner, which commit clears"
    pub publish_prepared_write_set_prefix_is_whole : SameButLock w.base (publication_prefix (image_of m) w id 3) (image_of after)
    publish_prepared_write_set_prefix_is_whole =
        record {
          heads = λ r b. by_eq r w.row
              (λ e. phase_3_head (image_of m) w id r e ∙ sym (commit_moves_each_head m s id accepted r w (record { before = []; after = []; parts = one; of_row = sym e; none = tt })))
              (λ n. phase_3_other_head (image_of m) w id r n ∙ sym (commit_keeps_other_heads m s id accepted r (rw one ((λ e. n (sym e)), tt))));
          rows = λ c n. by_eq c w.new
              (λ e. rw e (phase_3_new (image_of m) w id differ ∙ sym (commit_links_each_new m s id accepted apart w here)))
              (λ o. phase_3_else (image_of m) w id c o (λ q. n) ∙ sym (ap version_of (commit_keeps_other_cells m s id accepted c (rw one ((o, λ q. n), tt)))));
          base = λ n. commit_marks_each_base m s id accepted apart w here n ∙ ap unlocked (sym (phase_3_base (image_of m) w id differ n));
          cells = (phase_3_sizes (image_of m) w id).0 ∙ ap (λ (y : List ℕ). get_or y CELLS 0) (sym (commit_keeps_the_clock m s id accepted));
          capacity = (phase_3_sizes (image_of m) w id).1 ∙ ap (λ (y : List ℕ). get_or y ROWS 0) (sym (commit_keeps_the_clock m s id accepted));
        }

    -- so it is 000's image exactly where the base was not locked
    pub publish_prepared_write_set_exact_without_lock : (w.base ≢ 0 → unlocked (version_at m.cells w.base) ≡ version_at m.cells w.base) → (p : ℕ) → p ≢ 0 → (publication_prefix (image_of m) w id 3).rows p ≡ (image_of after).rows p
    publish_prepared_write_set_exact_without_lock free p real = by_eq p w.base
        (λ e.
        let b : w.base ≢ 0 = λ q. real (e ∙ q) in
        rw e (phase_3_base (image_of m) w id differ b ∙ ap (λ (v : Version). with_xmax v id) (sym (free b)) ∙ sym (commit_marks_each_base m s id accepted apart w here b)))
        (λ n. publish_prepared_write_set_prefix_is_whole.rows p n)

  -- refused, nothing is changed: phase 0, never phase 1
  pub publish_prepared_write_set_err_is_phase_0 : (k x : ℕ) → (commit_out m s id).answer ≡ Answer.Refused k x → after ≡ m
  publish_prepared_write_set_err_is_phase_0 k x e =
      let h = commit_refuses_exactly m s id in
      ap (λ (o : Outcome z Answer ℕ). o.after) (h.when k x (h.only k x e))

  -- gap 2: phase 3 whole, but for the base's lock and owner, or phase 0; never phase 1 or 2
  pub publish_prepared_write_set_all_or_nothing : SameButLock w.base (publication_prefix (image_of m) w id 3) (image_of after) ⊎ (after ≡ m)
  publish_prepared_write_set_all_or_nothing = ⊎_elim
      (λ a. inl (publish_prepared_write_set_prefix_is_whole a))
      (λ q. inr (ap (λ (o : Outcome z Answer ℕ). o.after) ((commit_refuses_exactly m s id).when q.0 q.1 q.2)))
      (commit_refuses_exactly m s id).decided

  -- .4: so 000's `allowed_prefix` holds as it stands where the base was not locked
  pub publish_prepared_write_set_is_an_allowed_prefix : (w.base ≢ 0 → unlocked (version_at m.cells w.base) ≡ version_at m.cells w.base) → AllowedPrefix (image_of m) (image_of after) w id
  publish_prepared_write_set_is_an_allowed_prefix free = ⊎_elim
      (λ a.
      let q = publish_prepared_write_set_prefix_is_whole a in
      inr (inr (inr (record { heads = q.heads; rows = λ p st. publish_prepared_write_set_exact_without_lock a free p (λ e. omega (arith, ((is_cell_lem _ p).yes st).low, e)); cells = q.cells; capacity = q.capacity }))))
      (λ q.
      let e : after ≡ m = ap (λ (o : Outcome z Answer ℕ). o.after) ((commit_refuses_exactly m s id).when q.0 q.1 q.2) in
      inl (subst (λ (b : Mem z). Same (image_of m) (image_of b)) (sym e) (record { heads = λ r b. refl; rows = λ p st. refl; cells = refl; capacity = refl })))
      (commit_refuses_exactly m s id).decided
