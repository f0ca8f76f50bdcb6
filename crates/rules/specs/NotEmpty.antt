-- Each theorem with a premise has a store that meets it. The stores are states of short runs, computed from memory in which every word is
-- 0, and one that is lent damaged.
use Rattle.std.specs.Prelude.{◌+◌, true, ◌≡◌, length, set, replicate}
use mathlib.Core.List.{List, [], ◌∷◌}
use Rattle.std.proofs.Math.Option.{some}
use Rattle.kinds.specs.ReadAnswer.{ReadAnswer, None, Key}
use Rattle.kinds.specs.Answer.{Done, Begun, Wrote, Vacuumed, Listed, Refused}
use Rattle.words.specs.Sizes.{base, last_id, WRITES}
use Rattle.kinds.specs.Versions.{tx, at, version_at, link_at}
use Rattle.words.specs.Slots.{words, threes, slot_of, push, opened}
use Rattle.words.specs.Slots as S
use Rattle.rules.specs.Memory.{Mem, mem, size_r, size_n, free, head_at, words_at, slot_at, with_slot}
use Rattle.rules.specs.Outcome.{fits}
use Rattle.rules.specs.Begin.{begin_out}
use Rattle.rules.specs.Read.{read_out}
use Rattle.rules.specs.Write.{write_out}
use Rattle.rules.specs.Commit.{commit_out}
use Rattle.rules.specs.Abort.{give_back, abort_out}
use Rattle.rules.specs.Vacuum.{vacuum_out}
use Rattle.rules.specs.Lookup.{lookup_out, lookup_all_out}
use Rattle.rules.specs.Run.{Call, create, begin, write, commit, reply_number, step, run}
use Rattle.rules.specs.LongerWalk.{lent}

abbrev pub zero_mem : Mem base
zero_mem = mem (replicate 4 0) (replicate 2 0) (replicate 4 (replicate 8 0)) (replicate base.slots (replicate base.width 0))

abbrev pub after : List Call → Mem base
after cs = (run cs zero_mem).1

-- one write, not committed
abbrev pub writing : Mem base
writing = after (create 4 2 ∷ begin ∷ write 0 1 0 (some 70) ∷ [])

-- a committed row, an update of it, and nobody open: the older version is reclaimable
abbrev pub updated : Mem base
updated = after (create 4 2 ∷ begin ∷ write 0 1 0 (some 70) ∷ commit 0 1 ∷ begin ∷ write 0 2 0 (some 75) ∷ commit 0 2 ∷ [])

-- a row committed, and an open transaction that has locked it
abbrev pub locking : Mem base
locking = after (create 4 2 ∷ begin ∷ write 0 1 0 (some 70) ∷ commit 0 1 ∷ begin ∷ write 0 2 0 (some 75) ∷ [])

-- two writes on empty rows; another transaction has committed the second row meanwhile
abbrev pub overtaken : Mem base
overtaken = after (create 4 2 ∷ begin ∷ begin ∷ write 0 1 0 (some 70) ∷ write 0 1 1 (some 71) ∷ write 1 2 1 (some 72) ∷ commit 1 2 ∷ [])

-- two writes, the new cell of the second one lost
abbrev pub harmed : Mem base
harmed = let m = after (create 4 2 ∷ begin ∷ write 0 1 0 (some 70) ∷ write 0 1 1 (some 71) ∷ []) in with_slot m 0 (set (words_at m 0) (WRITES base + 1 + 3 + 2) 0)

-- a reader whose version lies behind a newer one that it does not see
abbrev pub behind : Mem base
behind = after (create 4 2 ∷ begin ∷ write 0 1 0 (some 70) ∷ commit 0 1 ∷ begin ∷ begin ∷ write 1 3 0 (some 75) ∷ commit 1 3 ∷ [])

-- one open transaction that has done nothing
abbrev pub idle : Mem base
idle = after (create 4 2 ∷ begin ∷ [])

-- a row committed, and an open transaction that has done nothing yet
abbrev pub ready : Mem base
ready = after (create 4 2 ∷ begin ∷ write 0 1 0 (some 70) ∷ commit 0 1 ∷ begin ∷ [])

-- ---- what comes out by computation
pub record Computed : Type 0 where
  pub refused_begin : reply_number (step begin zero_mem).reply ≡ 15
  pub fits_creation : fits zero_mem 2 4 ≡ true
  pub commits : (commit_out writing 0 1).answer ≡ Done
  -- vacuum of the updated row, and of the empty one
  pub sweeps : (vacuum_out updated 0 last_id 1).answer ≡ Vacuumed 1 (Key 75)
  pub live : head_at updated 0 ≡ 2
  pub sweeps_none : (vacuum_out updated 1 last_id 0).answer ≡ Vacuumed 0 None
  pub bare : head_at updated 1 ≡ 0
  -- abort of the transaction that has locked a base
  pub aborts : (abort_out locking 0 2).answer ≡ Done
  pub locking_writes : (slot_at locking 0).writes ≡ S.write 0 1 2 ∷ []
  pub locking_owner : (version_at locking.cells 1).owner.0 ≡ 2
  pub locking_free : free locking ≡ 3
  pub locking_links : (link_at locking.cells 3 ≡ 4) × (link_at locking.cells 4 ≡ 0)
  -- the commit whose second write was overtaken
  pub overtakes : (commit_out overtaken 0 1).answer ≡ Refused 8 1
  pub overtaken_writes : (slot_at overtaken 0).writes ≡ S.write 0 0 1 ∷ S.write 1 0 2 ∷ []
  pub overtaken_recs : (slot_at overtaken 0).recs ≡ []
  pub overtaken_rows : size_r overtaken ≡ 2
  pub overtaken_heads : (head_at overtaken 0 ≡ 0) × (head_at overtaken 1 ≡ 3)
  -- the commit whose second entry is damaged
  pub harmed_reads : (read_out harmed 0 1 0).answer ≡ Key 70
  pub harmed_writes : (slot_at harmed 0).writes ≡ S.write 0 0 1 ∷ S.write 1 0 0 ∷ []
  pub harmed_recs : (slot_at harmed 0).recs ≡ []
  pub harmed_sizes : (size_r harmed ≡ 2) × (size_n harmed ≡ 4)
  pub harmed_heads : (head_at harmed 0 ≡ 0) × (head_at harmed 1 ≡ 0)
  -- a read under three walk limits
  pub one_step : (read_out (lent 1 behind) 0 2 0).answer ≡ ReadAnswer.Refused 10 0
  pub two_steps : (read_out (lent 2 behind) 0 2 0).answer ≡ Key 70
  pub behind_size : size_n behind ≡ 4
  pub behind_chain : (head_at behind 0 ≡ 2) × ((version_at behind.cells 2).next.0 ≡ 1) × ((version_at behind.cells 1).next.0 ≡ 0)
  -- the commit of a row that was there before, and a lookup before it
  pub commits_over : (commit_out locking 0 2).answer ≡ Done
  pub looks_up : (lookup_all_out locking 0 2 75 1).answer ≡ Listed 1
  pub looks_up_some : (lookup_out locking 0 2 75 (1 ∷ 0 ∷ 1 ∷ []) 1).answer ≡ Listed 1
  -- a write over a committed row
  pub overwrites : (write_out ready 0 2 0 (some 75)).answer ≡ Wrote (at 2)
  pub ready_writes : (slot_at ready 0).writes ≡ []
  pub ready_head : head_at ready 0 ≡ 1
  pub ready_free : free ready ≡ 2
  -- a write that takes a cell
  pub begins : (begin_out idle).answer ≡ Begun 1 (tx 2)
  pub idle_free : free idle ≡ 1
  pub idle_links : (link_at idle.cells 1 ≡ 2) × (link_at idle.cells 2 ≡ 3) × (link_at idle.cells 3 ≡ 4) × (link_at idle.cells 4 ≡ 0)
  pub writes : (write_out idle 0 1 0 (some 5)).answer ≡ Wrote (at 1)
  pub idle_writes : (slot_at idle 0).writes ≡ []
  pub writes_back : (write_out (give_back 2 idle) 0 1 0 (some 5)).answer ≡ Wrote (at 2)
  pub back_writes : (slot_at (give_back 2 idle) 0).writes ≡ []
  pub idle_meta : length idle.meta ≡ 4
