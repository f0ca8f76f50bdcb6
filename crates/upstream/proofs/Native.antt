-- 001's `native_` functions over our calls, of any memory that shows the picture: publication, vacuum, reuse, the old reader, validation,
-- the release of the anchor. `seeded` is asked for but for the base's lock and the prepared cell's next, which our calls set otherwise.
use Prim.Native.Nat.{ℕ, suc, ◌-◌, ◌≤◌}
use Rattle.std.specs.Prelude.{Bool, false, not, ◌&&◌, ◌||◌, cond, List, [], ◌∷◌, ◌≡◌, refl, ◌≢◌, ◌⊎◌, get_or, eqb, ltb, leb}
use Rattle.std.proofs.Math.Bool.{true}
use Rattle.std.proofs.Math.Option.{Option, some, none}
use Rattle.std.proofs.Common.{sym, ap, ◌∙◌, inl, inr, ⊎_elim, arith, eq-eqb, ne_eqb, lt-ltb, le-leb}
use Rattle.std.proofs.Math.Path.{subst}
use Rattle.kinds.specs.declared.Version.{Version}
use Rattle.kinds.specs.Answer.{Answer}
use Rattle.words.specs.Sizes.{Sizes}
use Rattle.words.specs.Lists.{first, has}
use Rattle.kinds.specs.Versions.{version, new_version, with_xmax, with_next, unlocked, version_of, version_at}
use Rattle.words.specs.Slots.{Slot}
use Rattle.rules.specs.Memory.{Mem, size_n, head_at, slot_at}
use Rattle.rules.specs.Outcome.{Outcome}
use Rattle.rules.specs.Commit.{commit_out}
use Rattle.rules.proofs.Theory.Cases.{or_true}
use Rattle.rules.specs.Exactly.{In, NoneOf}
use Rattle.rules.proofs.Exactly.{holds_true, fails_false, is_in}
use Rattle.rules.specs.Terms.{CellOf, CreatorSeen, Sees}
use Rattle.rules.proofs.Terms.{is_cell_lem, is_seen}
use Rattle.rules.proofs.Members.{all_in}
use Rattle.rules.proofs.CommitRefuses.{commit_lines, commit_refuses_exactly}
use Rattle.rules.specs.Published.{Apart}
use Rattle.rules.proofs.CommitPublishes.{commit_moves_each_head, commit_marks_each_base, commit_links_each_new, commit_keeps_other_cells, commit_keeps_the_clock}
use Rattle.upstream.specs.Images.{Image, image_of, stored, Snapshot, snapshot}
use Rattle.upstream.specs.Seen.{creator_visible, visible, along}
use Rattle.upstream.specs.Transactions.{value_of, key_at, stored_snapshot_key}
use Rattle.upstream.specs.RetentionTerms.{first_seen}
use Rattle.upstream.proofs.Chains.{first_visible_is_first_seen}
use Rattle.upstream.specs.Protected.{sees01, sees000}
use Rattle.upstream.specs.Story.{Layout, Distinct, write, OldReader, seeded, published, pruned, Agree}
use Rattle.upstream.specs.Native.{SeesTheBirth, ReadsTheAnchor, Inside}

-- ---- what the pictures hold
module _ (l : Layout) (ok : Distinct l) (birth writer before after n : ℕ) where
  pub seeded_tail : (seeded l birth writer before after n).rows l.tail ≡ version 1 birth 0 0 0 0 0
  seeded_tail = rw (ne_eqb l.tail l.fresh ok.tail_fresh, ne_eqb l.tail l.anchor ok.tail_anchor, eq-eqb l.tail l.tail refl)

  seeded_anchor : (seeded l birth writer before after n).rows l.anchor ≡ version birth 0 l.tail 1 before 0 0
  seeded_anchor = rw (ne_eqb l.anchor l.fresh ok.anchor_fresh, eq-eqb l.anchor l.anchor refl)

  seeded_fresh : (seeded l birth writer before after n).rows l.fresh ≡ version writer 0 l.anchor 1 after 0 0
  seeded_fresh = rw (eq-eqb l.fresh l.fresh refl)

  pub published_tail : (published l birth writer before after n).rows l.tail ≡ version 1 birth 0 0 0 0 0
  published_tail = rw (ne_eqb l.tail l.fresh ok.tail_fresh, ne_eqb l.anchor 0 ok.anchor, ne_eqb l.tail l.anchor ok.tail_anchor, eq-eqb l.tail l.tail refl, ne_eqb l.tail l.fresh ok.tail_fresh)

  pub published_anchor : (published l birth writer before after n).rows l.anchor ≡ version birth writer l.tail 1 before 0 0
  published_anchor = rw (ne_eqb l.anchor l.fresh ok.anchor_fresh, ne_eqb l.anchor 0 ok.anchor, eq-eqb l.anchor l.anchor refl)

  pub published_fresh : (published l birth writer before after n).rows l.fresh ≡ version writer 0 l.anchor 1 after 0 0
  published_fresh = rw (eq-eqb l.fresh l.fresh refl, ne_eqb l.anchor 0 ok.anchor, ne_eqb l.fresh l.anchor (λ e. ok.anchor_fresh (sym e)), eq-eqb l.fresh l.fresh refl)

  published_head : (published l birth writer before after n).heads 0 ≡ l.fresh
  published_head = refl

  pub pruned_anchor : (pruned l birth writer before after n).rows l.anchor ≡ version birth writer 0 1 before 0 0
  pruned_anchor =
      let v : Version = (published l birth writer before after n).rows l.anchor in
      ap (λ (b : Bool). cond b (with_next v 0) v) (eq-eqb l.anchor l.anchor refl) ∙ ap (λ (v : Version). with_next v 0) published_anchor

  pub pruned_fresh : (pruned l birth writer before after n).rows l.fresh ≡ version writer 0 l.anchor 1 after 0 0
  pruned_fresh = rw (ne_eqb l.fresh l.anchor (λ e. ok.anchor_fresh (sym e))) published_fresh

-- native_constructor_clears_metadata: the given value, creator and next, and nothing else set
pub native_constructor_clears_metadata : (o : Option ℕ) (writer next : ℕ) → (value_of (new_version o writer next) ≡ o) × ((new_version o writer next).xmin.0 ≡ writer) × ((new_version o writer next).xmax.0 ≡ 0) × ((new_version o writer next).next.0 ≡ next) × ((new_version o writer next).locked ≡ 0) × ((new_version o writer next).owner.0 ≡ 0)
native_constructor_clears_metadata none writer next = (refl, refl, refl, refl, refl, refl)
native_constructor_clears_metadata (some k) writer next = (refl, refl, refl, refl, refl, refl)

-- ---- what the old reader sees
module _ (t : Slot) (birth writer : ℕ) (old : OldReader (snapshot t) birth writer) where
  not_seen_writer : CreatorSeen t writer → ⊥
  not_seen_writer (n, inl e) = old.foreign e
  not_seen_writer (n, inr b) = ⊎_elim (λ h. omega (arith, b.0, h)) b.1 old.later

  -- a version of the anchor's birth, standing or superseded by the writer
  pub old_reader_sees_the_birth : (v : Version) → v.xmin.0 ≡ birth → (v.xmax.0 ≡ 0) ⊎ (v.xmax.0 ≡ writer) → Sees t v
  old_reader_sees_the_birth v e x =
      record {
        made = rw e ((λ o. omega (arith, old.born, o)), inr (omega (arith, old.early, old.lowest, old.inside), λ i. omega (arith, old.early, all_in (λ (y : ℕ). t.low ≤ y) t.active old.active birth i)));
        standing = λ n s. ⊎_elim (λ o. n o) (λ o. not_seen_writer (subst (CreatorSeen t) o s)) x;
      }

  -- and no version of the writer
  pub old_reader_misses_the_writer : (v : Version) → v.xmin.0 ≡ writer → Sees t v → ⊥
  old_reader_misses_the_writer v e s = not_seen_writer (subst (CreatorSeen t) e s.made)

-- the old reader, under 01's rule and under 000's
pub old_reader_sees : (t : Slot) (birth writer : ℕ) → OldReader (snapshot t) birth writer → SeesTheBirth (sees01 t) birth writer
old_reader_sees t birth writer old = record {
  seen = λ v e x. holds_true _ (is_seen t v) (old_reader_sees_the_birth t birth writer old v e x);
  unseen = λ v e. fails_false _ (is_seen t v) (old_reader_misses_the_writer t birth writer old v e);
}

pub old_reader_sees_under_000 : (t : Snapshot) (birth writer : ℕ) → OldReader t birth writer → SeesTheBirth (sees000 t) birth writer
unfolding visible creator_visible
old_reader_sees_under_000 t birth writer old = record {
  seen = λ v e x. rw e (
      rw (ne_eqb birth t.txid (λ o. omega (arith, old.early, old.lowest, o)), lt-ltb birth t.xmin old.early)
      (⊎_elim (λ o. rw (eq-eqb v.xmax.0 0 o)) (λ o. rw o (superseded writer old.foreign old.later)) x));
  unseen = λ v e. rw e (rw (ne_eqb writer t.txid old.foreign, hides));
}
  where
    superseded : (w : ℕ) → w ≢ t.txid → (t.xmax ≤ w) ⊎ In w t.active → (eqb w 0 || (not (eqb w t.txid) && (leb t.xmax w || has w t.active))) ≡ true
    superseded w n (inl b) = rw (ne_eqb w t.txid n, le-leb t.xmax w b) (or_true (eqb w 0))
    superseded w n (inr i) = rw (ne_eqb w t.txid n, holds_true _ (is_in w t.active) i, or_true (leb t.xmax w)) (or_true (eqb w 0))

    hides : (ltb writer t.xmin || (ltb writer t.xmax && not (has writer t.active))) ≡ false
    hides = rw (ne_eqb writer t.txid old.foreign) at old.hidden

-- ---- the first seen of one cell, and of two
module _ (see : Version → Bool) (s : Image) where
  pub seen_at_once : (c : ℕ) → CellOf s.cells c → see (s.rows c) ≡ true → first_seen see s c ≡ some c
  unfolding along first
  seen_at_once c o v =
      let e : s.cells ≡ suc (s.cells - 1) = omega (arith, o.low, o.high) in
      let st : stored s c ≡ true = holds_true _ (is_cell_lem s.cells c) o in
      subst (λ (k : ℕ). first (λ x. see (s.rows x)) (along k s c) ≡ some c) (sym e) (rw (st, v))

  seen_next : (a c : ℕ) → CellOf s.cells a → CellOf s.cells c → a ≢ c → see (s.rows a) ≡ false → (s.rows a).next.0 ≡ c → see (s.rows c) ≡ true → first_seen see s a ≡ some c
  unfolding along first
  seen_next a c oa oc n u e v =
      let k : s.cells ≡ suc (suc (s.cells - 2)) = two s.cells a c oa oc n in
      let sa : stored s a ≡ true = holds_true _ (is_cell_lem s.cells a) oa in
      let sc : stored s c ≡ true = holds_true _ (is_cell_lem s.cells c) oc in
      subst (λ (k : ℕ). first (λ x. see (s.rows x)) (along k s a) ≡ some c) (sym k) (rw (sa, u, e, sc, v))
    where
      two : (k a c : ℕ) → CellOf k a → CellOf k c → a ≢ c → k ≡ suc (suc (k - 2))
      two k a c oa oc n = omega (arith, oa.low, oa.high, oc.low, oc.high, n)

-- under 000's rule that is 000's `stored_snapshot_key`
pub reads_the_anchor_is_stored_snapshot_key : (l : Layout) (before : ℕ) (s : Image) (t : Slot) → ReadsTheAnchor (sees000 (snapshot t)) l before s → stored_snapshot_key s t 0 ≡ some before
reads_the_anchor_is_stored_snapshot_key l before s t r = ap (key_at s) (first_visible_is_first_seen s (s.heads 0) (snapshot t) ∙ r.first) ∙ r.key

-- ---- who reads the anchor
module _ {z : Sizes} (m : Mem z) (l : Layout) (ok : Distinct l) (inside : Inside (size_n m) l) (birth writer before : ℕ) (see : Version → Bool) (old : SeesTheBirth see birth writer) where
  abbrev at : ℕ → Version
  at c = version_at m.cells c

  -- the anchor is the head, and the writer has not superseded it
  pub reads_the_anchor_at_the_head : head_at m 0 ≡ l.anchor → (at l.anchor).xmin.0 ≡ birth → (at l.anchor).xmax.0 ≡ 0 → value_of (at l.anchor) ≡ some before → ReadsTheAnchor see l before (image_of m)
  reads_the_anchor_at_the_head h x y k =
      record {
        first = rw h (seen_at_once see (image_of m) l.anchor inside.anchor (old.seen (at l.anchor) x (inl y)));
        key = k;
      }

  -- the writer's version is the head, the anchor behind it
  pub reads_the_anchor_behind_the_writer : head_at m 0 ≡ l.fresh → (at l.fresh).xmin.0 ≡ writer → (at l.fresh).next.0 ≡ l.anchor → (at l.anchor).xmin.0 ≡ birth → (at l.anchor).xmax.0 ≡ writer → value_of (at l.anchor) ≡ some before → ReadsTheAnchor see l before (image_of m)
  reads_the_anchor_behind_the_writer h w e x y k =
      record {
        first = rw h (seen_next see (image_of m) l.fresh l.anchor inside.fresh inside.anchor (λ q. ok.anchor_fresh (sym q)) (old.unseen (at l.fresh) w) e (old.seen (at l.anchor) x (inr y)));
        key = k;
      }

-- ---- native_publication_derives_history
module _ {z : Sizes} (m : Mem z) (l : Layout) (ok : Distinct l) (birth writer before after : ℕ) where
  abbrev N : ℕ
  N = size_n m

  abbrev picture_seeded : Image
  picture_seeded = seeded l birth writer before after N

  -- `seeded`, but for the base's lock and the prepared cell's next
  pub record Seeded : Type 0 where
    pub head : head_at m 0 ≡ l.anchor
    pub tail : version_at m.cells l.tail ≡ picture_seeded.rows l.tail
    pub anchor : unlocked (version_at m.cells l.anchor) ≡ picture_seeded.rows l.anchor
    pub fresh : with_next (version_at m.cells l.fresh) l.anchor ≡ picture_seeded.rows l.fresh

  -- 000's picture itself is such a memory
  pub seeded_is_seeded : Agree l picture_seeded (image_of m) → Seeded
  seeded_is_seeded a =
      record {
        head = sym a.head;
        tail = sym a.tail;
        anchor = ap unlocked (sym a.anchor) ∙ ap unlocked (seeded_anchor l ok birth writer before after N) ∙ sym (seeded_anchor l ok birth writer before after N);
        fresh = ap (λ (v : Version). with_next v l.anchor) (sym a.fresh) ∙ ap (λ (v : Version). with_next v l.anchor) (seeded_fresh l ok birth writer before after N) ∙ sym (seeded_fresh l ok birth writer before after N);
      }

  module _ (seed : Seeded) (s : ℕ) (one : (slot_at m s).writes ≡ write l ∷ []) where
    abbrev next : Mem z
    next = (commit_out m s writer).after

    -- .11: if accepted, the image after is `published`, at the row and the three cells
    pub native_publication_leaves_published : NoneOf (commit_lines m s writer) → Agree l (published l birth writer before after N) (image_of next)
    native_publication_leaves_published accepted =
        let apart : Apart (slot_at m s).writes = rw one (ok.anchor_fresh, tt, tt) in
        let here : In (write l) (slot_at m s).writes = rw one (inl refl) in
        record {
          head = sym (commit_moves_each_head m s writer accepted 0 (write l) (record { before = []; after = []; parts = one; of_row = refl; none = tt }));
          tail = published_tail l ok birth writer before after N ∙ sym (seeded_tail l ok birth writer before after N) ∙ sym seed.tail ∙ sym (ap version_of (commit_keeps_other_cells m s writer accepted l.tail (rw one ((ok.tail_fresh, λ q. ok.tail_anchor), tt))));
          anchor =
              published_anchor l ok birth writer before after N
              ∙ ap (λ (v : Version). with_xmax v writer) (sym (seed.anchor ∙ seeded_anchor l ok birth writer before after N))
              ∙ sym (commit_marks_each_base m s writer accepted apart (write l) here ok.anchor);
          fresh = published_fresh l ok birth writer before after N ∙ sym (seeded_fresh l ok birth writer before after N) ∙ sym seed.fresh ∙ sym (commit_links_each_new m s writer accepted apart (write l) here);
        }

    -- .9, .10: the old reader finds the anchor and the key of before, whatever the answer
    pub native_publication_derives_history : Inside N l → (see : Version → Bool) → SeesTheBirth see birth writer → ReadsTheAnchor see l before (image_of next)
    native_publication_derives_history inside see old = ⊎_elim
        (λ a.
        let p = native_publication_leaves_published a in
        let n : size_n next ≡ N = ap (λ (y : List ℕ). get_or y 1 0) (commit_keeps_the_clock m s writer a) in
        let pa = sym p.anchor ∙ published_anchor l ok birth writer before after N in
        let pf = sym p.fresh ∙ published_fresh l ok birth writer before after N in
        reads_the_anchor_behind_the_writer next l ok (subst (λ (k : ℕ). Inside k l) (sym n) inside) birth writer before see old (sym p.head)
        (ap (λ (v : Version). v.xmin.0) pf) (ap (λ (v : Version). v.next.0) pf) (ap (λ (v : Version). v.xmin.0) pa) (ap (λ (v : Version). v.xmax.0) pa) (ap value_of pa))
        (λ q.
        let e : next ≡ m = ap (λ (o : Outcome z Answer ℕ). o.after) ((commit_refuses_exactly m s writer).when q.0 q.1 q.2) in
        let a = seed.anchor ∙ seeded_anchor l ok birth writer before after N in
        subst (λ (b : Mem z). ReadsTheAnchor see l before (image_of b)) (sym e)
        (reads_the_anchor_at_the_head m l ok inside birth writer before see old seed.head (ap (λ (v : Version). v.xmin.0) a) (ap (λ (v : Version). v.xmax.0) a) (ap value_of a)))
        (commit_refuses_exactly m s writer).decided
