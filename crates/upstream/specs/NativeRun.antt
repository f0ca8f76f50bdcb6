-- The story of 001 by our calls, computed: two commits of row 0, then the reader (slot 0, id 3) begins; a writer (slot 1, id 4) commits over
-- it; vacuum takes the tail; its cell is handed out again; the reader reads the anchor, its commit is refused with 9; once it is gone, vacuum
-- takes the anchor. The layout is tail 1, anchor 2, fresh 3; the birth is 2, the writer 4, the reuser 5.
use Rattle.std.specs.Prelude.{List, [], ◌∷◌, ◌≡◌, replicate}
use Rattle.std.proofs.Math.Option.{some, none}
use Rattle.kinds.specs.Answer.{Done, Begun, Wrote, Vacuumed, Refused}
use Rattle.kinds.specs.ReadAnswer.{Key}
use Rattle.words.specs.Sizes.{base, last_id}
use Rattle.kinds.specs.Versions.{at, tx, version, new_version, empty_version, version_at, link_at}
use Rattle.words.specs.Slots.{words, threes, slot_of, push, opened}
use Rattle.rules.specs.Memory.{Mem, mem, size_n, free, head_at, slot_at}
use Rattle.rules.specs.Snapshot.{horizon}
use Rattle.rules.specs.Create.{create_out}
use Rattle.rules.specs.Begin.{begin_out}
use Rattle.rules.specs.Read.{read_out}
use Rattle.rules.specs.Write.{write_out}
use Rattle.rules.specs.Commit.{commit_out}
use Rattle.rules.specs.Vacuum.{vacuum_out}
use Rattle.rules.specs.Run.{Call, begin, write, commit, abort, gave, run}
use Rattle.rules.specs.Reachable.{free_at}
use Rattle.upstream.specs.Story.{Layout}
use Rattle.words.specs.Slots as S

abbrev pub lent : Mem base
lent = mem (replicate 4 0) (replicate 2 0) (replicate 4 (replicate 8 0)) (replicate base.slots (replicate base.width 0))

abbrev pub fresh : Mem base
fresh = (create_out lent 4 2).after

-- up to the writer's prepared write
abbrev pub to_written : List Call
to_written = begin ∷ write 0 1 0 none ∷ commit 0 1 ∷ begin ∷ write 0 2 0 (some 70) ∷ commit 0 2 ∷ begin ∷ begin ∷ write 1 4 0 (some 75) ∷ []

abbrev pub written : Mem base
written = (run to_written fresh).1

abbrev pub after_commit : Mem base
after_commit = (commit_out written 1 4).after

abbrev pub after_vacuum : Mem base
after_vacuum = (vacuum_out after_commit 0 last_id 1).after

-- the reuser takes the tail's cell for row 1
abbrev pub reusing : Mem base
reusing = (begin_out after_vacuum).after

abbrev pub after_reuse : Mem base
after_reuse = (write_out reusing 1 5 1 (some 5)).after

abbrev pub after_read : Mem base
after_read = (read_out after_reuse 0 3 0).after

-- the reader writes
abbrev pub after_write : Mem base
after_write = (write_out after_read 0 3 1 (some 9)).after

-- its commit is refused, it aborts; the reuser commits, and another reader (slot 0, id 6) begins
abbrev pub to_end : List Call
to_end = commit 0 3 ∷ abort 0 3 ∷ commit 1 5 ∷ begin ∷ []

abbrev pub at_end : Mem base
at_end = (run to_end after_write).1

abbrev pub layout : Layout
layout = record { tail = 1; anchor = 2; fresh = 3 }

pub record Told : Type 0 where
  pub created : (create_out lent 4 2).answer ≡ Done
  pub start : (run to_written fresh).0 ≡ gave (Begun 0 (tx 1)) [] ∷ gave (Wrote (at 1)) [] ∷ gave Done [] ∷ gave (Begun 0 (tx 2)) [] ∷ gave (Wrote (at 2)) [] ∷ gave Done [] ∷ gave (Begun 0 (tx 3)) [] ∷ gave (Begun 1 (tx 4)) [] ∷ gave (Wrote (at 3)) [] ∷ []
  -- the prepared write, and its base, locked by the writer
  pub entry : (slot_at written 1).writes ≡ S.write 0 2 3 ∷ []
  pub locked_base : version_at written.cells 2 ≡ version 2 0 1 1 70 1 4
  pub prepared : version_at written.cells 3 ≡ version 4 0 0 1 75 0 0
  pub commits : (commit_out written 1 4).answer ≡ Done
  -- the reader's snapshot
  pub reader : slot_at after_commit 0 ≡ record { id = 3; low = 3; top = 4; active = 3 ∷ []; writes = []; recs = [] }
  pub sweeps : (vacuum_out after_commit 0 last_id 1).answer ≡ Vacuumed 1 (Key 75)
  pub reports : (vacuum_out after_commit 0 last_id 1).front ≡ (1 ∷ 0 ∷ 0 ∷ []) ∷ []
  pub horizon_then : horizon after_commit last_id ≡ 3
  pub free_links : (free after_commit ≡ 4) × (link_at after_commit.cells 4 ≡ 0) × (free at_end ≡ 4) × (link_at at_end.cells 4 ≡ 0)
  pub free_before : (free_at after_commit).cells ≡ 4 ∷ []
  pub reuser_writes : (write_out reusing 1 5 1 (some 5)).answer ≡ Wrote (at 1)
  pub reuser_slot : (slot_at reusing 1).writes ≡ []
  pub reuser_heads : (head_at reusing 0 ≡ 3) × (head_at reusing 1 ≡ 0) × (free reusing ≡ 1)
  pub sizes : (size_n written ≡ 4) × (size_n after_commit ≡ 4) × (size_n after_reuse ≡ 4) × (size_n after_write ≡ 4) × (size_n at_end ≡ 4)
  pub free_after : (free_at after_vacuum).cells ≡ 1 ∷ 4 ∷ []
  pub cleared : version_at after_vacuum.cells 1 ≡ empty_version
  pub reuses : version_at after_reuse.cells 1 ≡ new_version (some 5) 5 0
  pub reader_then : slot_at after_reuse 0 ≡ record { id = 3; low = 3; top = 4; active = 3 ∷ []; writes = []; recs = [] }
  pub reads : (read_out after_reuse 0 3 0).answer ≡ Key 70
  pub records : (slot_at after_read 0).recs ≡ S.rec 0 2 2 ∷ []
  pub reader_writes : (write_out after_read 0 3 1 (some 9)).answer ≡ Wrote (at 4)
  pub reader_refused : (commit_out after_write 0 3).answer ≡ Refused 9 0
  pub reader_stands : slot_at after_write 0 ≡ record { id = 3; low = 3; top = 4; active = 3 ∷ []; writes = S.write 1 0 4 ∷ []; recs = S.rec 0 2 2 ∷ [] }
  pub end : (run to_end after_write).0 ≡ gave (Refused 9 0) [] ∷ gave Done [] ∷ gave Done [] ∷ gave (Begun 0 (tx 6)) [] ∷ []
  pub horizon_end : horizon at_end last_id ≡ 6
  pub releases : (vacuum_out at_end 0 last_id 1).answer ≡ Vacuumed 1 (Key 75)
  pub released : (vacuum_out at_end 0 last_id 1).front ≡ (2 ∷ 1 ∷ 70 ∷ []) ∷ []
  pub free_end : (free_at (vacuum_out at_end 0 last_id 1).after).cells ≡ 2 ∷ 4 ∷ []
