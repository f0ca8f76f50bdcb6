-- 001's vacuum, reuse, read and validation, over our calls: what each leaves of the picture, and that the old reader reads the anchor on.
use Rattle.std.specs.Prelude.{ℕ, ◌<◌, ◌≤◌, Bool, true, List, [], ◌∷◌, ◌≡◌, refl, ◌≢◌, ◌⊎◌, length, get_or}
use Rattle.std.proofs.Math.Option.{some}
use Rattle.std.proofs.Common.{sym, ap, ◌∙◌, subst, inl, inr, ⊎_elim, arith}
use Rattle.kinds.specs.declared.Version.{Version}
use Rattle.kinds.specs.Answer.{Answer, Vacuumed}
use Rattle.kinds.specs.ReadAnswer.{Key}
use Rattle.words.specs.Sizes.{Sizes, CELLS}
use Rattle.kinds.specs.Versions.{version, new_version, with_next, locked_for, empty_version, version_of, version_at}
use Rattle.words.specs.Slots.{Slot, rec, add_recs}
use Rattle.rules.specs.Memory.{Mem, size_n, free, head_at, words_at, slot_at, with_slot}
use Rattle.kinds.specs.Visible.{conflict}
use Rattle.rules.specs.Snapshot.{horizon}
use Rattle.rules.specs.Outcome.{Outcome, out}
use Rattle.rules.specs.Read.{answer_at, read_out}
use Rattle.rules.specs.Write.{write_out}
use Rattle.rules.specs.Commit.{commit_out}
use Rattle.rules.specs.Vacuum.{vacuum_out}
use Rattle.rules.proofs.Theory.Cases.{by_eq}
use Rattle.rules.specs.Exactly.{In, NoneOf}
use Rattle.rules.proofs.Exactly.{holds_true}
use Rattle.rules.specs.Terms.{CellOf, NoEntry}
use Rattle.rules.proofs.Terms.{is_conflicting}
use Rattle.rules.specs.Along.{Way}
use Rattle.rules.proofs.Members.{all_in}
use Rattle.rules.proofs.ChainOnce.{along_one}
use Rattle.rules.specs.HandedOut.{FreeList}
use Rattle.rules.specs.VacuumRefuses.{Reclaimable}
use Rattle.rules.proofs.VacuumRefuses.{WholeChain, DeadOf, vacuum_lines, ended_chain, vacuum_refuses_exactly}
use Rattle.rules.proofs.OneOutcome.{KeptOf, vacuum_walks, read_meets}
use Rattle.rules.proofs.ReadRefuses.{newly, read_lines}
use Rattle.rules.proofs.ReadAnswers.{a_key, is_answer}
use Rattle.rules.proofs.WriteRefuses.{write_lines}
use Rattle.rules.proofs.WritePrepares.{write_prepares_the_cell, write_locks_the_base, write_keeps_other_cells, write_moves_no_head}
use Rattle.rules.proofs.CommitRefusedWhen.{Validating, commit_refused_9_names_first_conflicting_record}
use Rattle.upstream.specs.Images.{image_of, snapshot}
use Rattle.upstream.specs.Transactions.{value_of}
use Rattle.upstream.specs.RetentionTerms.{first_seen}
use Rattle.upstream.proofs.Vacuums.{vacuum_row_acquired_recycles, vacuum_row_acquired_counts_its_reports}
use Rattle.upstream.specs.Story.{Layout, Distinct, OldReader, published, pruned, Agree, AgreeButTail}
use Rattle.upstream.specs.Native.{Inside, SeesTheBirth, ReadsTheAnchor}
use Rattle.upstream.proofs.Native.{seen_at_once, reads_the_anchor_behind_the_writer, published_tail, published_anchor, published_fresh, pruned_anchor, pruned_fresh, old_reader_sees_the_birth, old_reader_misses_the_writer}
use Rattle.rules.proofs.VacuumRemoves as W

-- ---- a memory that shows `pruned`, whatever its tail holds
module _ {z : Sizes} (m : Mem z) (l : Layout) (ok : Distinct l) (n birth writer before after : ℕ) (agree : AgreeButTail l (pruned l birth writer before after n) (image_of m)) where
  pruned_at_anchor : version_at m.cells l.anchor ≡ version birth writer 0 1 before 0 0
  pruned_at_anchor = sym agree.anchor ∙ pruned_anchor l ok birth writer before after n

  pruned_at_fresh : version_at m.cells l.fresh ≡ version writer 0 l.anchor 1 after 0 0
  pruned_at_fresh = sym agree.fresh ∙ pruned_fresh l ok birth writer before after n

  pub old_reader_reads_the_anchor : Inside (size_n m) l → (see : Version → Bool) → SeesTheBirth see birth writer → ReadsTheAnchor see l before (image_of m)
  old_reader_reads_the_anchor inside see old =
      reads_the_anchor_behind_the_writer m l ok inside birth writer before see old (sym agree.head)
      (ap (λ (v : Version). v.xmin.0) pruned_at_fresh) (ap (λ (v : Version). v.next.0) pruned_at_fresh) (ap (λ (v : Version). v.xmin.0) pruned_at_anchor) (ap (λ (v : Version). v.xmax.0) pruned_at_anchor) (ap value_of pruned_at_anchor)

-- ---- native_vacuum_derives_history
module _ {z : Sizes} (m : Mem z) (l : Layout) (ok : Distinct l) (inside : Inside (size_n m) l) (birth writer before after : ℕ) (agree : Agree l (published l birth writer before after (size_n m)) (image_of m)) (t : Slot) (old : OldReader (snapshot t) birth writer) (request room : ℕ) where
  abbrev hz : ℕ
  hz = horizon m request

  abbrev at : ℕ → Version
  at c = version_at m.cells c

  abbrev next : Mem z
  next = (vacuum_out m 0 request room).after

  at_tail : at l.tail ≡ version 1 birth 0 0 0 0 0
  at_tail = sym agree.tail ∙ published_tail l ok birth writer before after (size_n m)

  at_anchor : at l.anchor ≡ version birth writer l.tail 1 before 0 0
  at_anchor = sym agree.anchor ∙ published_anchor l ok birth writer before after (size_n m)

  at_fresh : at l.fresh ≡ version writer 0 l.anchor 1 after 0 0
  at_fresh = sym agree.fresh ∙ published_fresh l ok birth writer before after (size_n m)

  abbrev cells : List ℕ
  cells = l.fresh ∷ l.anchor ∷ l.tail ∷ []

  way : Way (size_n m) (version_at m.cells) (head_at m 0) cells 0
  way = record {
    along = (sym agree.head, (ap (λ (v : Version). v.next.0) at_fresh, (ap (λ (v : Version). v.next.0) at_anchor, ap (λ (v : Version). v.next.0) at_tail)));
    cells = (inside.fresh, (inside.anchor, (inside.tail, tt)));
  }

  module _ (accepted : NoneOf (vacuum_lines m 0 request room)) where
    whole : WholeChain m 0 cells
    whole =
        let w = vacuum_walks m 0 request room accepted in
        let e : w.0 ≡ cells = along_one (size_n m) (version_at m.cells) w.0 cells (head_at m 0) w.1.way.along way.along w.1.way.cells way.cells in
        record { way = way; within = subst (λ (y : List ℕ). length y ≤ size_n m) e w.1.within }

    module _ (born : birth < hz) (under : hz ≤ t.low) where
      -- the writer is not below the horizon
      writer_is_late : hz ≤ writer
      writer_is_late = ⊎_elim (λ h. omega (arith, h, old.inside, old.lowest)) (λ i. omega (arith, all_in (λ (y : ℕ). t.low ≤ y) t.active old.active writer i)) old.later

      anchor_stays : Reclaimable hz (at l.anchor) → ⊥
      anchor_stays r = omega (arith, r.below, ap (λ (v : Version). v.xmax.0) at_anchor, writer_is_late)

      tail_goes : Reclaimable hz (at l.tail)
      tail_goes =
          record {
            superseded = λ e. omega (arith, old.born, e, ap (λ (v : Version). v.xmax.0) at_tail);
            below = omega (arith, ap (λ (v : Version). v.xmax.0) at_tail);
            free = ap (λ (v : Version). v.locked) at_tail;
          }

      dead : DeadOf m hz (l.anchor ∷ l.tail ∷ []) (l.tail ∷ [])
      dead = inr (anchor_stays, inl (tail_goes, ([], refl, refl)))

      kept : KeptOf m 0 request room (l.anchor ∷ l.tail ∷ []) (l.anchor ∷ [])
      kept = inl (anchor_stays, (([], refl, inr ((λ n. n tail_goes), refl))))

      -- .15: exactly one report; and the answer: one removed, the writer's key at the head
      pub native_vacuum_reports_one : (length (vacuum_out m 0 request room).front ≡ 1) × ((vacuum_out m 0 request room).answer ≡ Vacuumed 1 (Key after))
      native_vacuum_reports_one = (
        vacuum_row_acquired_counts_its_reports m 0 request room accepted l.fresh (l.anchor ∷ l.tail ∷ []) (l.tail ∷ []) (l.anchor ∷ []) whole dead kept,
        W.vacuum_answers_their_count_and_the_head's_value m 0 request room accepted l.fresh (l.anchor ∷ l.tail ∷ []) (l.tail ∷ []) (l.anchor ∷ []) whole dead kept ∙ rw at_fresh,
      )

      -- .14: the tail is recycled, before what was free already, and no other cell
      pub native_vacuum_recycles_the_tail : (fl : List ℕ) → FreeList m fl → ((x : ℕ) → In x fl → In x cells → ⊥) → FreeList next (l.tail ∷ fl)
      native_vacuum_recycles_the_tail fl f n = vacuum_row_acquired_recycles m 0 request room accepted l.fresh (l.anchor ∷ l.tail ∷ []) (l.tail ∷ []) (l.anchor ∷ []) whole dead kept fl f n

      -- .13: the image after is `pruned`, but for the tail, which is cleared
      pub native_vacuum_leaves_pruned : AgreeButTail l (pruned l birth writer before after (size_n m)) (image_of next) × (version_at next.cells l.tail ≡ empty_version)
      native_vacuum_leaves_pruned =
          let e = W.vacuum_leaves_the_chain_without_them m 0 request room accepted l.fresh (l.anchor ∷ l.tail ∷ []) (l.tail ∷ []) (l.anchor ∷ []) whole dead kept in
          let w = (ended_chain next 0 (l.fresh ∷ l.anchor ∷ []) e).way.along in
          let ka = W.vacuum_keeps_all_but_next m 0 request room accepted l.fresh (l.anchor ∷ l.tail ∷ []) (l.tail ∷ []) (l.anchor ∷ []) whole dead kept l.anchor (inr (inl refl)) in
          let kf = W.vacuum_keeps_all_but_next m 0 request room accepted l.fresh (l.anchor ∷ l.tail ∷ []) (l.tail ∷ []) (l.anchor ∷ []) whole dead kept l.fresh (inl refl) in
          let ya : ka.0 ≡ 0 = sym (ap (λ (v : Version). v.next.0) ka.1) ∙ w.1.1 in
          let yf : kf.0 ≡ l.anchor = sym (ap (λ (v : Version). v.next.0) kf.1) ∙ w.1.0 in (
            record {
              head = sym w.0;
              anchor = pruned_anchor l ok birth writer before after (size_n m) ∙ ap (λ (v : Version). with_next v 0) (sym at_anchor) ∙ sym (ka.1 ∙ ap (with_next (at l.anchor)) ya);
              fresh = pruned_fresh l ok birth writer before after (size_n m) ∙ ap (λ (v : Version). with_next v l.anchor) (sym at_fresh) ∙ sym (kf.1 ∙ ap (with_next (at l.fresh)) yf);
            },
            W.vacuum_clears_what_it_removes m 0 request room accepted l.fresh (l.anchor ∷ l.tail ∷ []) (l.tail ∷ []) (l.anchor ∷ []) whole dead kept l.tail (inl refl),
          )

  before_it : (see : Version → Bool) → SeesTheBirth see birth writer → ReadsTheAnchor see l before (image_of m)
  before_it see sb =
      reads_the_anchor_behind_the_writer m l ok inside birth writer before see sb (sym agree.head)
      (ap (λ (v : Version). v.xmin.0) at_fresh) (ap (λ (v : Version). v.next.0) at_fresh) (ap (λ (v : Version). v.xmin.0) at_anchor) (ap (λ (v : Version). v.xmax.0) at_anchor) (ap value_of at_anchor)

  -- .10: the old reader finds the anchor and the key of before, whatever the answer
  pub native_vacuum_derives_history : birth < hz → hz ≤ t.low → (see : Version → Bool) → SeesTheBirth see birth writer → ReadsTheAnchor see l before (image_of next)
  native_vacuum_derives_history born under see sb = ⊎_elim
      (λ a.
      let n : size_n next ≡ size_n m = (W.vacuum_keeps_the_rest m 0 request room a l.fresh (l.anchor ∷ l.tail ∷ []) (l.tail ∷ []) (l.anchor ∷ []) (whole a) (dead a born under) (kept a born under)).3 CELLS (λ e. omega arith) in
      old_reader_reads_the_anchor next l ok (size_n m) birth writer before after (native_vacuum_leaves_pruned a born under).0 (subst (λ (k : ℕ). Inside k l) (sym n) inside) see sb)
      (λ q.
      let e : next ≡ m = ap (λ (o : Outcome z Answer (List ℕ)). o.after) ((vacuum_refuses_exactly m 0 request room).when q.0 q.1 q.2) in
      subst (λ (b : Mem z). ReadsTheAnchor see l before (image_of b)) (sym e) (before_it see sb))
      (vacuum_refuses_exactly m 0 request room).decided

-- ---- native_vacuum_releases_anchor
module _ {z : Sizes} (m : Mem z) (l : Layout) (ok : Distinct l) (n birth writer before after : ℕ) (agree : AgreeButTail l (pruned l birth writer before after n) (image_of m)) (request room : ℕ) (accepted : NoneOf (vacuum_lines m 0 request room)) (anchorIn : CellOf (size_n m) l.anchor) (freshIn : CellOf (size_n m) l.fresh) (old : 0 < writer) (late : writer < horizon m request) where
  abbrev two : List ℕ
  two = l.fresh ∷ l.anchor ∷ []

  way_of_two : Way (size_n m) (version_at m.cells) (head_at m 0) two 0
  way_of_two = record {
    along = (sym agree.head, (ap (λ (v : Version). v.next.0) (pruned_at_fresh m l ok n birth writer before after agree), ap (λ (v : Version). v.next.0) (pruned_at_anchor m l ok n birth writer before after agree)));
    cells = (freshIn, (anchorIn, tt));
  }

  whole_two : WholeChain m 0 two
  whole_two =
      let w = vacuum_walks m 0 request room accepted in
      let e : w.0 ≡ two = along_one (size_n m) (version_at m.cells) w.0 two (head_at m 0) w.1.way.along way_of_two.along w.1.way.cells way_of_two.cells in
      record { way = way_of_two; within = subst (λ (y : List ℕ). length y ≤ size_n m) e w.1.within }

  anchor_goes : Reclaimable (horizon m request) (version_at m.cells l.anchor)
  anchor_goes =
      let e = pruned_at_anchor m l ok n birth writer before after agree in
      record {
        superseded = λ o. omega (arith, old, o, ap (λ (v : Version). v.xmax.0) e);
        below = omega (arith, late, ap (λ (v : Version). v.xmax.0) e);
        free = ap (λ (v : Version). v.locked) e;
      }

  -- .10, .11: the anchor is recycled, before what was free already; the fresh cell is not
  pub native_vacuum_releases_anchor : (fl : List ℕ) → FreeList m fl → ((x : ℕ) → In x fl → In x two → ⊥) → FreeList (vacuum_out m 0 request room).after (l.anchor ∷ fl) × (In l.fresh (l.anchor ∷ fl) → ⊥)
  native_vacuum_releases_anchor fl f d = (
    vacuum_row_acquired_recycles m 0 request room accepted l.fresh (l.anchor ∷ []) (l.anchor ∷ []) [] whole_two (inl (anchor_goes, ([], refl, refl))) (inr ((λ k. k anchor_goes), refl)) fl f d,
    λ i. ⊎_elim (λ e. ok.anchor_fresh (sym e)) (λ j. d l.fresh j (inl refl)) i,
  )

-- ---- native_initialize_preserves_reader: the write that takes the tail's cell
module _ {z : Sizes} (m : Mem z) (l : Layout) (ok : Distinct l) (n birth writer before after reuser key : ℕ) (agree : AgreeButTail l (pruned l birth writer before after n) (image_of m)) (s row : ℕ) (accepted : NoneOf (write_lines m s reuser row)) (new : NoEntry (slot_at m s).writes row) (next-free : free m ≡ l.tail) (off : head_at m row ≢ l.anchor) where
  abbrev reusing : Mem z
  reusing = (write_out m s reuser row (some key)).after

  -- .9: the image after is `reused`, but for the lock of the fresh version where it is the base of that write
  pub native_initialize_leaves_reused : (version_at reusing.cells l.tail ≡ new_version (some key) reuser 0) × (version_at reusing.cells l.anchor ≡ version_at m.cells l.anchor) × (head_at reusing 0 ≡ head_at m 0)
      × ((version_at reusing.cells l.fresh ≡ version_at m.cells l.fresh) ⊎ ((head_at m row ≡ l.fresh) × (version_at reusing.cells l.fresh ≡ locked_for (version_at m.cells l.fresh) reuser)))
  native_initialize_leaves_reused = (
    subst (λ (c : ℕ). version_at reusing.cells c ≡ new_version (some key) reuser 0) next-free (write_prepares_the_cell m s reuser row (some key) accepted new).0,
    ap version_of (write_keeps_other_cells m s reuser row (some key) accepted new l.anchor (λ e. ok.tail_anchor (sym (e ∙ next-free))) (λ q e. off (sym e))),
    ap (λ (y : List ℕ). get_or y 0 0) (write_moves_no_head m s reuser row (some key)),
    by_eq (head_at m row) l.fresh
        (λ e. inr (e, subst (λ (c : ℕ). version_at reusing.cells c ≡ locked_for (version_at m.cells c) reuser) e (write_locks_the_base m s reuser row (some key) accepted new (λ o. ok.fresh (sym e ∙ o)) (λ o. ok.tail_fresh (sym (sym e ∙ o ∙ next-free))))))
        (λ d. inl (ap version_of (write_keeps_other_cells m s reuser row (some key) accepted new l.fresh (λ e. ok.tail_fresh (sym (e ∙ next-free))) (λ q e. d (sym e))))),
  )

  -- .10, .11: the old reader reads the anchor on
  pub native_initialize_preserves_reader : Inside (size_n reusing) l → (see : Version → Bool) → SeesTheBirth see birth writer → ReadsTheAnchor see l before (image_of reusing)
  native_initialize_preserves_reader inside see old =
      let r = native_initialize_leaves_reused in
      let a = r.1 ∙ pruned_at_anchor m l ok n birth writer before after agree in
      let f = pruned_at_fresh m l ok n birth writer before after agree in
      let same : ((version_at reusing.cells l.fresh).xmin.0 ≡ writer) × ((version_at reusing.cells l.fresh).next.0 ≡ l.anchor) = ⊎_elim
      (λ e. (ap (λ (v : Version). v.xmin.0) (e ∙ f), ap (λ (v : Version). v.next.0) (e ∙ f)))
      (λ e. (ap (λ (v : Version). v.xmin.0) e.1 ∙ ap (λ (v : Version). v.xmin.0) f, ap (λ (v : Version). v.next.0) e.1 ∙ ap (λ (v : Version). v.next.0) f))
      r.3 in
      reads_the_anchor_behind_the_writer reusing l ok inside birth writer before see old (r.2 ∙ sym agree.head) same.0 same.1 (ap (λ (v : Version). v.xmin.0) a) (ap (λ (v : Version). v.xmax.0) a) (ap value_of a)

  -- .11: and from the anchor itself it finds the anchor
  pub native_initialize_keeps_the_anchor_seen : CellOf (size_n reusing) l.anchor → (see : Version → Bool) → SeesTheBirth see birth writer → first_seen see (image_of reusing) l.anchor ≡ some l.anchor
  native_initialize_keeps_the_anchor_seen o see old =
      let a = native_initialize_leaves_reused.1 ∙ pruned_at_anchor m l ok n birth writer before after agree in
      seen_at_once see (image_of reusing) l.anchor o (old.seen (version_at reusing.cells l.anchor) (ap (λ (v : Version). v.xmin.0) a) (inr (ap (λ (v : Version). v.xmax.0) a)))

-- ---- native_read_after_reuse and native_validation_rejects_invisible_writer
module _ {z : Sizes} (m : Mem z) (l : Layout) (ok : Distinct l) (n birth writer before after : ℕ) (agree : AgreeButTail l (pruned l birth writer before after n) (image_of m)) (inside : Inside (size_n m) l) (s id : ℕ) (old : OldReader (snapshot (slot_at m s)) birth writer) where
  abbrev t : Slot
  t = slot_at m s

  abbrev v_anchor : version_at m.cells l.anchor ≡ version birth writer 0 1 before 0 0
  v_anchor = pruned_at_anchor m l ok n birth writer before after agree

  abbrev v_fresh : version_at m.cells l.fresh ≡ version writer 0 l.anchor 1 after 0 0
  v_fresh = pruned_at_fresh m l ok n birth writer before after agree

  -- .9, .10: an accepted read answers the key of before, and records row 0, the anchor and the birth
  pub native_read_after_reuse : 1 < z.walk → NoEntry t.writes 0 → t.recs ≡ [] → NoneOf (read_lines m s id 0) → read_out m s id 0 ≡ out (Key before) [] (with_slot m s (add_recs z (rec 0 l.anchor birth ∷ []) (words_at m s)))
  native_read_after_reuse far no_own noRecs accepted =
      let e = (read_meets m s id 0).accepted accepted l.anchor _
      (newly l.anchor no_own
      (record {
        passed = l.fresh ∷ [];
        way = record { along = (sym agree.head, ap (λ (v : Version). v.next.0) v_fresh); cells = (inside.fresh, tt) };
        within = far;
        unseen = (old_reader_misses_the_writer t birth writer old (version_at m.cells l.fresh) (ap (λ (v : Version). v.xmin.0) v_fresh), tt);
        cell = inside.anchor;
        seen = old_reader_sees_the_birth t birth writer old (version_at m.cells l.anchor) (ap (λ (v : Version). v.xmin.0) v_anchor) (inr (ap (λ (v : Version). v.xmax.0) v_anchor));
      })
      (rw noRecs (λ x. x))) in
      let x : (version_at m.cells l.anchor).xmin.0 ≡ birth = ap (λ (v : Version). v.xmin.0) v_anchor in
      let k : answer_at (version_at m.cells) l.anchor ≡ Key (version_at m.cells l.anchor).key = is_answer (version_at m.cells) l.anchor _ (a_key ok.anchor (λ o. omega (arith, o, ap (λ (v : Version). v.keyed) v_anchor))) in
      let b : Key (version_at m.cells l.anchor).key ≡ Key before = ap Key (ap (λ (v : Version). v.key) v_anchor) in
      e ∙ rw (k, b, x)

  -- .7: the record of the anchor conflicts
  pub native_validation_rejects_invisible_writer : 0 < writer → conflict t (version_at m.cells l.anchor) birth ≡ true
  native_validation_rejects_invisible_writer real =
      holds_true _ (is_conflicting t (version_at m.cells l.anchor) birth)
      (rw v_anchor (inr ((λ o. omega (arith, real, o)), (old.foreign, old.later))))

  -- so a commit that has only this record, and writes, is refused with 9 and row 0
  pub native_validation_refuses_the_commit : 0 < writer → t.recs ≡ rec 0 l.anchor birth ∷ [] → Validating m s id → (commit_out m s id).answer ≡ Answer.Refused 9 0
  native_validation_refuses_the_commit real recs v =
      (commit_refused_9_names_first_conflicting_record m s id 0).1 (
        v,
        record { before = []; conflicting = rec 0 l.anchor birth; after = []; parts = recs; stand = tt; cell = inside.anchor; conflicts = (is_conflicting t (version_at m.cells l.anchor) birth).yes (native_validation_rejects_invisible_writer real); names = refl },
      )
