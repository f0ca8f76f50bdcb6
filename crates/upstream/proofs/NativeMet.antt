-- Each lemma on 001's `native_` functions put to the run: what it asks is met together.
use Rattle.std.specs.Prelude.{ℕ, ◌<◌, ◌≤◌, true, [], ◌∷◌, ◌≡◌, refl, ◌≢◌, length}
use Rattle.std.proofs.Math.Option.{some}
use Rattle.std.proofs.Common.{sym, ap, ◌∙◌, subst, inl, inr, arith}
use Rattle.kinds.specs.Answer.{Answer, Wrote, Vacuumed}
use Rattle.kinds.specs.ReadAnswer.{ReadAnswer, Key}
use Rattle.words.specs.Sizes.{base, last_id}
use Rattle.kinds.specs.Versions.{at, empty_version, version_at}
use Rattle.words.specs.Slots.{Slot, rec, add_recs}
use Rattle.rules.specs.Memory.{size_n, words_at, slot_at, with_slot}
use Rattle.kinds.specs.Visible.{conflict}
use Rattle.rules.specs.Outcome.{out}
use Rattle.rules.specs.Read.{read_out}
use Rattle.rules.specs.Exactly.{In, NoneOf}
use Rattle.rules.proofs.Exactly.{in_answer, in_read, accepted_none, not_refused}
use Rattle.rules.proofs.CommitRefuses.{commit_lines}
use Rattle.rules.proofs.CommitAllOrNothing.{commit_accepted_when}
use Rattle.rules.proofs.CommitRefusedWhen.{commit_refused_9_names_first_conflicting_record}
use Rattle.rules.specs.HandedOut.{FreeList}
use Rattle.rules.specs.Commit.{commit_out}
use Rattle.rules.specs.Vacuum.{vacuum_out}
use Rattle.rules.specs.Snapshot.{horizon}
use Rattle.rules.proofs.VacuumRefuses.{vacuum_lines, vacuum_refuses_exactly}
use Rattle.rules.proofs.WriteRefuses.{write_lines, write_refuses_exactly}
use Rattle.rules.proofs.ReadRefuses.{read_lines, read_refuses_exactly}
use Rattle.upstream.specs.Images.{image_of, snapshot}
use Rattle.upstream.specs.Protected.{sees01}
use Rattle.upstream.specs.Story.{OldReader, published, pruned, Agree, AgreeButTail}
use Rattle.upstream.specs.Native.{Inside, ReadsTheAnchor}
use Rattle.upstream.proofs.Native.{old_reader_sees, native_publication_leaves_published, native_publication_derives_history}
use Rattle.upstream.proofs.NativeVacuum.{native_vacuum_reports_one, native_vacuum_recycles_the_tail, native_vacuum_leaves_pruned, native_vacuum_derives_history, native_vacuum_releases_anchor, native_validation_refuses_the_commit, native_initialize_preserves_reader, native_read_after_reuse, native_validation_rejects_invisible_writer}
use Rattle.upstream.specs.NativeRun.{written, after_commit, after_vacuum, reusing, after_reuse, after_write, at_end, layout}
use Rattle.upstream.proofs.NativeRun.{story, layout_is_distinct, layout_is_inside, reader_is_old, pictures}

abbrev reader : Slot
reader = slot_at after_commit 0

inside : (n : ℕ) → n ≡ 4 → Inside n layout
inside n e = subst (λ (k : ℕ). Inside k layout) (sym e) layout_is_inside

-- the writer publishes: the reader finds the anchor
committed : NoneOf (commit_lines written 1 4)
committed = commit_accepted_when written 1 4 story.commits

pub the_run_publishes : Agree layout (published layout 2 4 70 75 (size_n written)) (image_of after_commit)
the_run_publishes = native_publication_leaves_published written layout layout_is_distinct 2 4 70 75 pictures.is_seeded 1 story.entry committed

pub the_reader_keeps_the_anchor : ReadsTheAnchor (sees01 reader) layout 70 (image_of after_commit)
the_reader_keeps_the_anchor = native_publication_derives_history written layout layout_is_distinct 2 4 70 75 pictures.is_seeded 1 story.entry (inside (size_n written) story.sizes.0) (sees01 reader) (old_reader_sees reader 2 4 reader_is_old)

-- vacuum takes the tail
swept : NoneOf (vacuum_lines after_commit 0 last_id 1)
swept = accepted_none in_answer after_commit _ _ _ (vacuum_refuses_exactly after_commit 0 last_id 1) (λ k x e. not_refused (Vacuumed 1 (Key 75)) refl k x (sym story.sweeps ∙ e))

low_of : reader.low ≡ 3
low_of = ap (λ (t : Slot). t.low) story.reader

shows_published : Agree layout (published layout 2 4 70 75 (size_n after_commit)) (image_of after_commit)
shows_published = subst (λ (k : ℕ). Agree layout (published layout 2 4 70 75 k) (image_of after_commit)) (sym story.sizes.1) pictures.is_published

pub the_run_prunes : AgreeButTail layout (pruned layout 2 4 70 75 (size_n after_commit)) (image_of after_vacuum) × (version_at after_vacuum.cells 1 ≡ empty_version)
the_run_prunes = native_vacuum_leaves_pruned after_commit layout layout_is_distinct (inside (size_n after_commit) story.sizes.1) 2 4 70 75 shows_published reader reader_is_old last_id 1 swept (omega (arith, story.horizon_then)) (omega (arith, story.horizon_then, low_of))

pub the_vacuum_keeps_the_reader : ReadsTheAnchor (sees01 reader) layout 70 (image_of after_vacuum)
the_vacuum_keeps_the_reader = native_vacuum_derives_history after_commit layout layout_is_distinct (inside (size_n after_commit) story.sizes.1) 2 4 70 75 shows_published reader reader_is_old last_id 1 (omega (arith, story.horizon_then)) (omega (arith, story.horizon_then, low_of)) (sees01 reader) (old_reader_sees reader 2 4 reader_is_old)

-- of the cells of the layout none is 4
not_4 : (x a b c : ℕ) → a ≢ 4 → b ≢ 4 → c ≢ 4 → In x (4 ∷ []) → In x (a ∷ b ∷ c ∷ []) → ⊥
not_4 x a b c p q r (inl e) (inl f) = p (sym f ∙ e)
not_4 x a b c p q r (inl e) (inr (inl f)) = q (sym f ∙ e)
not_4 x a b c p q r (inl e) (inr (inr (inl f))) = r (sym f ∙ e)
not_4 x a b c p q r (inl e) (inr (inr (inr f))) = f
not_4 x a b c p q r (inr i) j = i

pub the_vacuum_recycles_the_tail : FreeList after_vacuum (1 ∷ 4 ∷ []) × (length (vacuum_out after_commit 0 last_id 1).front ≡ 1)
the_vacuum_recycles_the_tail =
    let k = story.free_links in
    let i = inside (size_n after_commit) story.sizes.1 in
    let born : 2 < horizon after_commit last_id = omega (arith, story.horizon_then) in
    let under : horizon after_commit last_id ≤ reader.low = omega (arith, story.horizon_then, low_of) in (
      native_vacuum_recycles_the_tail after_commit layout layout_is_distinct i 2 4 70 75 shows_published reader reader_is_old last_id 1 swept born under (4 ∷ []) (k.0, ((λ e. omega (arith, e)), k.1))
          (λ x a b. not_4 x 3 2 1 (λ e. omega (arith, e)) (λ e. omega (arith, e)) (λ e. omega (arith, e)) a b),
      (native_vacuum_reports_one after_commit layout layout_is_distinct i 2 4 70 75 shows_published reader reader_is_old last_id 1 swept born under).0,
    )

-- the reuser takes its cell, and the reader reads the anchor
wrote : NoneOf (write_lines reusing 1 5 1)
wrote = accepted_none in_answer reusing _ _ _ (write_refuses_exactly reusing 1 5 1 (some 5)) (λ k x e. not_refused (Wrote (at 1)) refl k x (sym story.reuser_writes ∙ e))

pub the_reuse_keeps_the_reader : ReadsTheAnchor (sees01 reader) layout 70 (image_of after_reuse)
the_reuse_keeps_the_reader =
    native_initialize_preserves_reader reusing layout layout_is_distinct 4 2 4 70 75 5 5 pictures.is_pruned_before_reuse 1 1 wrote (rw story.reuser_slot tt) story.reuser_heads.2 (λ e. omega (arith, story.reuser_heads.1, e))
    (inside (size_n after_reuse) story.sizes.2) (sees01 reader) (old_reader_sees reader 2 4 reader_is_old)

old_then : OldReader (snapshot (slot_at after_reuse 0)) 2 4
old_then = rw story.reader_then (rw story.reader at reader_is_old)

answered : NoneOf (read_lines after_reuse 0 3 0)
answered = accepted_none in_read after_reuse _ _ _ (read_refuses_exactly after_reuse 0 3 0) (λ k x e. not_key k x (sym story.reads ∙ e))
  where
    not_key : (k x : ℕ) → Key 70 ≡ ReadAnswer.Refused k x → ⊥
    not_key k x e = let q : ◌≡◌ {A = ℕ} 0 1 = cc in omega arith

pub the_reader_reads_the_anchor : read_out after_reuse 0 3 0 ≡ out (Key 70) [] (with_slot after_reuse 0 (add_recs base (rec 0 2 2 ∷ []) (words_at after_reuse 0)))
the_reader_reads_the_anchor =
    native_read_after_reuse after_reuse layout layout_is_distinct 4 2 4 70 75 pictures.is_pruned_after_reuse (inside (size_n after_reuse) story.sizes.2) 0 3 old_then (omega arith)
    (rw story.reader_then tt) (ap (λ (t : Slot). t.recs) story.reader_then) answered

-- its record conflicts
old_writing : OldReader (snapshot (slot_at after_write 0)) 2 4
old_writing = rw story.reader_stands (rw story.reader at reader_is_old)

pub the_record_conflicts : conflict (slot_at after_write 0) (version_at after_write.cells 2) 2 ≡ true
the_record_conflicts = native_validation_rejects_invisible_writer after_write layout layout_is_distinct 4 2 4 70 75 pictures.is_pruned_while_writing (inside (size_n after_write) story.sizes.3) 0 3 old_writing (omega arith)

-- and its commit is refused with 9 and row 0
pub the_commit_is_refused : (commit_out after_write 0 3).answer ≡ Answer.Refused 9 0
the_commit_is_refused =
    native_validation_refuses_the_commit after_write layout layout_is_distinct 4 2 4 70 75 pictures.is_pruned_while_writing (inside (size_n after_write) story.sizes.3) 0 3 old_writing (omega arith)
    (ap (λ (t : Slot). t.recs) story.reader_stands) ((commit_refused_9_names_first_conflicting_record after_write 0 3 0).0 story.reader_refused).0

-- once the reader is gone, vacuum takes the anchor
released : NoneOf (vacuum_lines at_end 0 last_id 1)
released = accepted_none in_answer at_end _ _ _ (vacuum_refuses_exactly at_end 0 last_id 1) (λ k x e. not_refused (Vacuumed 1 (Key 75)) refl k x (sym story.releases ∙ e))

pub the_vacuum_releases_the_anchor : FreeList (vacuum_out at_end 0 last_id 1).after (2 ∷ 4 ∷ []) × (In {A = ℕ} 3 (2 ∷ 4 ∷ []) → ⊥)
the_vacuum_releases_the_anchor =
    let i = inside (size_n at_end) story.sizes.4 in
    let k = story.free_links in
    native_vacuum_releases_anchor at_end layout layout_is_distinct 4 2 4 70 75 pictures.is_pruned_still last_id 1 released i.anchor i.fresh (omega arith) (omega (arith, story.horizon_end))
    (4 ∷ []) (k.2, ((λ e. omega (arith, e)), k.3)) apart
  where
    apart : (x : ℕ) → In x (4 ∷ []) → In x (3 ∷ 2 ∷ []) → ⊥
    apart x (inl e) (inl f) = omega (arith, e, f)
    apart x (inl e) (inr (inl f)) = omega (arith, e, f)
    apart x (inl e) (inr (inr f)) = f
    apart x (inr i) j = i
