-- What publication leaves, entry by entry: "for each write: base xmax = id and unlocked, new next = base, head = new". Heads on any
-- memory; cells where the cells of the write set are apart, as they are in every store that our calls have made.
use Rattle.std.specs.Prelude.{ℕ, ◌≤◌, ◌<◌, ◌≡◌, ◌≢◌, set}
use mathlib.Core.List.{List, [], ◌∷◌, ◌++◌}
use Rattle.std.proofs.Math.Path.{refl, ap, subst}
use Rattle.std.proofs.Common.{sym, ◌∙◌, inl, inr, arith, get_or-set_same, eq-eqb, ne_eqb}
use Rattle.std.proofs.Math.ListN.{length, get_or, length-set}
use Rattle.std.proofs.Math.Seq.{get_or-set_other}
use Rattle.words.specs.Sizes.{Sizes}
use Rattle.words.specs.Lists.{fold}
use Rattle.rules.proofs.Theory.Cases.{by_eq}
use Rattle.kinds.specs.Versions.{with_xmax, with_next, unlocked, version_of, cell_at, version_at, link_at, put_version}
use Rattle.words.specs.Slots.{Write}
use Rattle.rules.specs.Memory.{Mem, head_at}
use Rattle.rules.specs.Commit.{mark_base, publish, publish_all}
use Rattle.rules.specs.Exactly.{In, All}
use Rattle.rules.proofs.Exactly.{all_map}
use Rattle.rules.specs.Terms.{LastEntry, NoEntry}
use Rattle.rules.proofs.Along.{positive}
use Rattle.rules.proofs.Theory.CellLaws.{length_put, put_on, put_else}
use Rattle.rules.proofs.Members.{all_in}
use Rattle.rules.specs.Published.{From, Apart, HasCells}

fold_append : {A S : Type 0} (f : A → S → S) (a b : List A) (s : S) → fold f (a ++ b) s ≡ fold f b (fold f a s)
unfolding fold
fold_append f [] b s = refl
fold_append f (x ∷ a) b s = fold_append f a b (f x s)

-- ---- cells, one write
module _ (id : ℕ) (w : Write) (cs : List (List ℕ)) where
  mark_length : length (mark_base id w.base cs) ≡ length cs
  unfolding mark_base
  mark_length = by_eq w.base 0 (λ e. rw (eq-eqb w.base 0 e)) (λ n. rw (ne_eqb w.base 0 n) (length_put cs w.base (unlocked (with_xmax (version_at cs w.base) id)) (link_at cs w.base)))

  mark_else : (c : ℕ) → (w.base ≢ 0 → c ≢ w.base) → cell_at (mark_base id w.base cs) c ≡ cell_at cs c
  unfolding mark_base
  mark_else c h = by_eq w.base 0 (λ e. rw (eq-eqb w.base 0 e)) (λ n. rw (ne_eqb w.base 0 n) (put_else cs w.base (unlocked (with_xmax (version_at cs w.base) id)) (link_at cs w.base) c (positive w.base n) (h n)))

  mark_on : w.base ≢ 0 → w.base ≤ length cs → version_at (mark_base id w.base cs) w.base ≡ unlocked (with_xmax (version_at cs w.base) id)
  unfolding mark_base
  mark_on n b = rw (ne_eqb w.base 0 n) (put_on cs w.base (unlocked (with_xmax (version_at cs w.base) id)) (link_at cs w.base) (record { low = positive w.base n; high = b }))

module _ {z : Sizes} (id : ℕ) where
  -- ---- heads
  publish_rows : (w : Write) (m : Mem z) → (publish id w m).rows ≡ set m.rows w.row w.new
  unfolding publish
  publish_rows w m = refl

  publish_meta : (w : Write) (m : Mem z) → (publish id w m).meta ≡ m.meta
  unfolding publish
  publish_meta w m = refl

  publish_slots : (w : Write) (m : Mem z) → (publish id w m).slots ≡ m.slots
  unfolding publish
  publish_slots w m = refl

  pub publish_all_meta : (ws : List Write) (m : Mem z) → (publish_all id ws m).meta ≡ m.meta
  unfolding fold
  publish_all_meta [] m = refl
  publish_all_meta (w ∷ ws) m = publish_all_meta ws (publish id w m) ∙ publish_meta w m

  pub publish_all_slots : (ws : List Write) (m : Mem z) → (publish_all id ws m).slots ≡ m.slots
  unfolding fold
  publish_all_slots [] m = refl
  publish_all_slots (w ∷ ws) m = publish_all_slots ws (publish id w m) ∙ publish_slots w m

  rows_length : (ws : List Write) (m : Mem z) → length (publish_all id ws m).rows ≡ length m.rows
  unfolding fold
  rows_length [] m = refl
  rows_length (w ∷ ws) m = rows_length ws (publish id w m) ∙ ap length (publish_rows w m) ∙ length-set m.rows w.row w.new

  -- a row without an entry keeps its head
  pub published_keeps_other_heads : (ws : List Write) (m : Mem z) (r : ℕ) → NoEntry ws r → head_at (publish_all id ws m) r ≡ head_at m r
  unfolding fold
  published_keeps_other_heads [] m r n = refl
  published_keeps_other_heads (w ∷ ws) m r n =
      published_keeps_other_heads ws (publish id w m) r n.1 ∙ ap (λ (y : List ℕ). get_or y r 0) (publish_rows w m) ∙ get_or-set_other m.rows w.row r w.new 0 (λ e. n.0 (sym e))

  -- "head = new": of the last entry of the row
  pub published_moves_each_head : (ws : List Write) (m : Mem z) (r : ℕ) (w : Write) → LastEntry ws r w → r < length m.rows → head_at (publish_all id ws m) r ≡ w.new
  unfolding fold
  published_moves_each_head ws m r w i b =
      let m' = publish_all id i.before m in
      let h : w.row < length m'.rows = rw (rows_length i.before m) (omega (arith, i.of_row)) in
      rw (i.parts, fold_append (publish id) i.before (w ∷ i.after) m)
      (published_keeps_other_heads i.after (publish id w m') r i.none
      ∙ ap (λ (y : List ℕ). get_or y r 0) (publish_rows w m')
      ∙ rw (← i.of_row) (get_or-set_same m'.rows w.row w.new 0 h))

  -- ---- cells
  module _ (w : Write) (m : Mem z) (low : 1 ≤ w.new) where
    abbrev marked : List (List ℕ)
    marked = mark_base id w.base m.cells

    publish_cells : (publish id w m).cells ≡ put_version marked w.new (with_next (version_at marked w.new) w.base)
    unfolding publish
    publish_cells = refl

    publish_length : length (publish id w m).cells ≡ length m.cells
    publish_length = ap length publish_cells ∙ length_put marked w.new (with_next (version_at marked w.new) w.base) (link_at marked w.new) ∙ mark_length id w m.cells

    past_new : (c : ℕ) → c ≢ w.new → cell_at (publish id w m).cells c ≡ cell_at marked c
    past_new c n = ap (λ (y : List (List ℕ)). cell_at y c) publish_cells ∙ put_else marked w.new (with_next (version_at marked w.new) w.base) (link_at marked w.new) c low n

    publish_else : (c : ℕ) → c ≢ w.new → (w.base ≢ 0 → c ≢ w.base) → cell_at (publish id w m).cells c ≡ cell_at m.cells c
    publish_else c n h = past_new c n ∙ mark_else id w m.cells c h

    publish_base : w.base ≢ 0 → w.base ≤ length m.cells → w.base ≢ w.new → version_at (publish id w m).cells w.base ≡ unlocked (with_xmax (version_at m.cells w.base) id)
    publish_base n b d = ap version_of (past_new w.base d) ∙ mark_on id w m.cells n b

    publish_new : w.new ≤ length m.cells → w.base ≢ w.new → version_at (publish id w m).cells w.new ≡ with_next (version_at m.cells w.new) w.base
    publish_new b d =
        ap (λ (y : List (List ℕ)). version_at y w.new) publish_cells
        ∙ put_on marked w.new (with_next (version_at marked w.new) w.base) (link_at marked w.new) (record { low = low; high = rw (mark_length id w m.cells) b })
        ∙ ap (λ (y : List ℕ). with_next (version_of y) w.base) (mark_else id w m.cells w.new (λ n e. d (sym e)))

  has_still : (q y : Write) (m : Mem z) → 1 ≤ q.new → HasCells m.cells y → HasCells (publish id q m).cells y
  has_still q y m l k = record { base = rw (publish_length q m l) k.base; new = record { low = k.new.low; high = rw (publish_length q m l) k.new.high } }

  -- a cell that is neither a base nor a new cell of the write set is as it was
  pub published_keeps_other_cells : (ws : List Write) (m : Mem z) (c : ℕ) → All (λ (w : Write). 1 ≤ w.new) ws → All (λ (w : Write). (c ≢ w.new) × (w.base ≢ 0 → c ≢ w.base)) ws → cell_at (publish_all id ws m).cells c ≡ cell_at m.cells c
  unfolding fold
  published_keeps_other_cells [] m c l h = refl
  published_keeps_other_cells (w ∷ ws) m c l h = published_keeps_other_cells ws (publish id w m) c l.1 h.1 ∙ publish_else w m l.0 c h.0.0 h.0.1

  -- the base of each write, if there is one: "base xmax = id and unlocked"
  pub published_marks_each_base : (ws : List Write) (m : Mem z) (w : Write) → Apart ws → All (HasCells m.cells) ws → In w ws → w.base ≢ 0 → version_at (publish_all id ws m).cells w.base ≡ unlocked (with_xmax (version_at m.cells w.base) id)
  unfolding fold
  published_marks_each_base [] m w a h i n = absurd i
  published_marks_each_base (q ∷ ws) m w a h (inl e) n =
      let n' : q.base ≢ 0 = subst (λ (y : Write). y.base ≢ 0) e n in
      rw e
      (ap version_of (published_keeps_other_cells ws (publish id q m) q.base (all_map (HasCells m.cells) (λ (y : Write). 1 ≤ y.new) (λ y k. k.new.low) ws h.1) (all_map (From q) (λ (y : Write). (q.base ≢ y.new) × (y.base ≢ 0 → q.base ≢ y.base)) (λ y k. (k.new_base, λ o. k.bases n')) ws a.1))
      ∙ publish_base q m h.0.new.low n' h.0.base a.0)
  published_marks_each_base (q ∷ ws) m w a h (inr i) n =
      let f = all_in (From q) ws a.1 w i in
      published_marks_each_base ws (publish id q m) w a.2 (all_map (HasCells m.cells) (HasCells (publish id q m).cells) (λ y k. has_still q y m h.0.new.low k) ws h.1) i n
      ∙ ap (λ (y : List ℕ). unlocked (with_xmax (version_of y) id)) (publish_else q m h.0.new.low w.base f.base_new (λ o e. f.bases o (sym e)))

  -- the new cell of each write: "new next = base"
  pub published_links_each_new : (ws : List Write) (m : Mem z) (w : Write) → Apart ws → All (HasCells m.cells) ws → In w ws → version_at (publish_all id ws m).cells w.new ≡ with_next (version_at m.cells w.new) w.base
  unfolding fold
  published_links_each_new [] m w a h i = absurd i
  published_links_each_new (q ∷ ws) m w a h (inl e) =
      rw e
      (ap version_of (published_keeps_other_cells ws (publish id q m) q.new (all_map (HasCells m.cells) (λ (y : Write). 1 ≤ y.new) (λ y k. k.new.low) ws h.1) (all_map (From q) (λ (y : Write). (q.new ≢ y.new) × (y.base ≢ 0 → q.new ≢ y.base)) (λ y k. (k.news, λ o b. k.base_new (sym b))) ws a.1))
      ∙ publish_new q m h.0.new.low h.0.new.high a.0)
  published_links_each_new (q ∷ ws) m w a h (inr i) =
      let f = all_in (From q) ws a.1 w i in
      published_links_each_new ws (publish id q m) w a.2 (all_map (HasCells m.cells) (HasCells (publish id q m).cells) (λ y k. has_still q y m h.0.new.low k) ws h.1) i
      ∙ ap (λ (y : List ℕ). with_next (version_of y) w.base) (publish_else q m h.0.new.low w.new (λ e. f.news (sym e)) (λ o e. f.new_base (sym e)))
