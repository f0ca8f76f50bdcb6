-- What the changes of a vacuum ask for, and what holds between them: the buffer names the cells that go, and each is a cell.
use Rattle.std.specs.Prelude.{ℕ, ◌-◌, ◌≤◌, ◌<◌, List, ◌∷◌, ◌≢◌, ◌≡◌, length, take}
use Rattle.std.proofs.Common.{arith, ap, ◌∙◌}
use Rattle.std.proofs.lemmas.List.Edits.{sets}
use Rattle.std.proofs.Math.Seq.{length-sets}
use Rattle.kinds.specs.declared.Version.{Version}
use Rattle.words.specs.Sizes.{Sizes}
use Rattle.words.specs.Lists.{keep, fold}
use Rattle.kinds.specs.Versions.{version_at}
use Rattle.rules.specs.Chain.{Chain, ends, chain}
use Rattle.rules.specs.Memory.{Mem, mem}
use Rattle.rules.specs.Abort.{give_back}
use Rattle.rules.specs.Vacuum.{reports, relink}
use Rattle.rules.specs.Theory.CellLaws.{HasCell}
use Rattle.rules.specs.Theory.Bridge.{AllCells}
use Rattle.rules.proofs.Theory.Bridge.{all_cells}
use Rattle.rules.specs.Theory.Counting.{cnt}
use Rattle.rules.proofs.Theory.Same.{same_relink}
use Rattle.std.specs.Prelude.{Ok}
use Rattle.chains.specs.Lines.{Ends, line, chain_next, walk_ends, walk_line, line_once, line_cells, cells_kept}
use Rattle.chains.specs.Tallies.{dead, alive, tally, sound}
use Rattle.chains.specs.Fronts.{fronts, fronts_reports, fronts_take}

-- the cells behind the head, those of them that go, and those that stay
abbrev pub behind : List (List ℕ) → ℕ → List ℕ
behind cs h = line cs (version_at cs h).next.0

abbrev pub gone : List (List ℕ) → ℕ → ℕ → List ℕ
gone cs hz h = keep (dead cs hz) (behind cs h)

abbrev pub stays : List (List ℕ) → ℕ → ℕ → List ℕ
stays cs hz h = keep (alive cs hz) (behind cs h)

pub record Sweepable (cs : List (List ℕ)) (hz h count room : ℕ) : Type 0 where
  pub has_head : HasCell cs h
  pub ended : Ends cs (version_at cs h).next.0
  pub apart : cnt h (behind cs h) ≡ 0
  pub counted : count ≡ length (gone cs hz h)
  pub fit : count ≤ room

-- ---- the judge has shown it

module _ (cs : List (List ℕ)) (n hz h count : ℕ) (some : 0 < n) (lent : n ≤ length cs) (nz : h ≢ 0) (le : h ≤ n)
    (e : tally (dead cs hz) 0 (chain n (version_at cs) (n - 1) (version_at cs h).next.0) ≡ Ok count) where
  abbrev walked : Chain
  walked = chain n (version_at cs) (n - 1) (version_at cs h).next.0

  pub judged_ends : walked.after ≡ ends
  judged_ends = (sound (dead cs hz) count walked e).0

  pub judged_line : behind cs h ≡ walked.cells
  judged_line = walk_line cs n (n - 1) (version_at cs h).next.0 lent (omega arith) judged_ends

  pub judged_count : count ≡ length (gone cs hz h)
  judged_count = rw judged_line (sound (dead cs hz) count walked e).1

  head_ends : Ends cs h
  head_ends = walk_ends cs n n h lent lent (ap (λ (x : Chain). x.after) (chain_next n (version_at cs) n h (λ z. omega arith) nz le) ∙ judged_ends)

  pub judged : (room : ℕ) → count ≤ room → Sweepable cs hz h count room
  judged room f = record {
    has_head = record { low = omega arith; high = omega arith };
    ended = walk_ends cs n (n - 1) (version_at cs h).next.0 lent (omega arith) judged_ends;
    apart = line_once cs h head_ends nz;
    counted = judged_count;
    fit = f;
  }

-- ---- between the changes

module _ (cs buf : List (List ℕ)) (hz h count : ℕ) (s : Sweepable cs hz h count (length buf)) (v : Version) (ev : v ≡ version_at cs h) where
  pub sweep_report : record { ends : Ends cs v.next.0; first_in_bounds : length (keep (dead cs hz) (line cs v.next.0)) ≤ length buf }
  sweep_report = rw ev record { ends = s.ended; first_in_bounds = omega (arith, s.counted, s.fit) }

  pub sweep_relink : record { has_cell : HasCell cs h; ends : Ends cs v.next.0; first_value : cnt h (line cs v.next.0) ≡ 0 }
  sweep_relink = rw ev record { has_cell = s.has_head; ends = s.ended; first_value = s.apart }

  module _ (rs : List (List ℕ)) (er : rs ≡ sets buf 0 (reports cs (keep (dead cs hz) (line cs v.next.0)))) where
    pub sweep_reported : rs ≡ sets buf 0 (reports cs (gone cs hz h))
    sweep_reported = rw ev at er

    pub sweep_room : count ≤ length rs
    sweep_room = rw (sweep_reported, length-sets buf 0 (reports cs (gone cs hz h))) s.fit

    -- the first words of the reports that were stored
    abbrev given : List ℕ
    given = fronts (take count rs) 0 (length (take count rs))

    sweep_fronts : given ≡ gone cs hz h
    sweep_fronts =
        let c = s.counted in
        let f = s.fit in
        fronts_take rs count sweep_room ∙ rw (sweep_reported, c) (fronts_reports cs buf 0 (gone cs hz h) (omega arith))

    module _ (ds : List (List ℕ)) (ed : ds ≡ relink (h ∷ keep (alive cs hz) (line cs v.next.0)) cs) where
      linked : ds ≡ relink (h ∷ stays cs hz h) cs
      linked = rw ev at ed

      pub sweep_cells : AllCells ds given
      sweep_cells =
          rw sweep_fronts
          (all_cells cs ds (ap length linked ∙ same_relink (h ∷ stays cs hz h) cs) (gone cs hz h) (cells_kept cs (dead cs hz) (behind cs h) (line_cells cs (version_at cs h).next.0)))

      pub sweep_done : {z : Sizes} (meta : List ℕ) (r : List ℕ) (t : List (List ℕ)) (after : Mem z)
          → after ≡ fold give_back given (mem meta r ds t) → after ≡ fold give_back (gone cs hz h) (mem meta r (relink (h ∷ stays cs hz h) cs) t)
      sweep_done meta r t after e = rw (sweep_fronts, linked) at e
