-- What is left of a vacuum once the store is tested, and its ways out.
use Rattle.std.specs.Prelude.{ℕ, ◌-◌, ◌≤◌, ◌<◌, ◌≢◌, length}
use Rattle.std.proofs.Common.{arith, ap, ◌∙◌, le-leb, lt-ltb, le-ltb}
use mathlib.Core.List.{List, [], ◌∷◌}
use Rattle.std.proofs.Math.Path.{◌≡◌, refl, sym}
use Rattle.std.proofs.lemmas.List.Edits.{sets}
use Rattle.std.proofs.lemmas.Bool.{lt-leb}
use Rattle.kinds.specs.Answer.{Answer, Vacuumed}
use Rattle.kinds.specs.ReadAnswer.{None}
use Rattle.kinds.specs.Results.{number, about}
use Rattle.kinds.specs.declared.Version.{Version}
use Rattle.words.specs.Sizes.{Sizes}
use Rattle.rules.specs.Numbers.{bad_row, result_full, damaged}
use Rattle.words.specs.Lists.{keep, fold}
use Rattle.kinds.specs.Versions.{value_of, version_at}
use Rattle.rules.specs.Memory.{Mem, size_r, size_n, head_at, with_cells}
use Rattle.rules.specs.Chain.{After, ends, goes_on, broken, Chain, chained, chain}
use Rattle.rules.specs.Snapshot.{horizon}
use Rattle.rules.specs.Outcome.{Outcome, out, guard, refuse, store_tests, row_test}
use Rattle.rules.proofs.Verdicts.{guard_append}
use Rattle.rules.specs.Abort.{give_back}
use Rattle.rules.specs.Vacuum.{relink, reports, swept, vacuum_now, vacuum_out}
use Rattle.rules.proofs.Theory.Cases.{by_eq}
use Rattle.kinds.specs.declared.refusals.Refusal.{Refusal}
use Rattle.std.specs.Prelude.{Result, Ok, Err}
use Rattle.kinds.specs.declared.refusals.Refusal.TheVariants.{Damaged}
use Rattle.chains.specs.Lines.{chain_end, chain_broken, chain_next}
use Rattle.chains.specs.Tallies.{dead, tally, sound}
use Rattle.vacuum.specs.Sweeping.{gone, stays, Sweepable, judged, judged_line}

-- An outcome o is told in two equations: one has the answer and the memory, the other the caller's buffer.
pub comes : {z : Sizes} (o : Outcome z Answer (List ℕ)) (a : Answer) (l : List (List ℕ)) (after : Mem z) (buf buf' : List (List ℕ))
    → buf' ≡ sets buf 0 l → out a l after ≡ o → record { outcome : out a o.front after ≡ o; reports_after : buf' ≡ sets buf 0 o.front }
comes {z} o a l after buf buf' eb e = record {
  outcome = ap (λ (x : List (List ℕ)). out a x after) (sym (ap (λ (x : Outcome z Answer (List ℕ)). x.front) e)) ∙ e;
  reports_after = eb ∙ ap (λ (x : Outcome z Answer (List ℕ)). sets buf 0 x.front) e;
}

-- a refusal leaves the buffer as it was
pub refuses : {z : Sizes} (o : Outcome z Answer (List ℕ)) (m : Mem z) (k x : ℕ) (buf : List (List ℕ))
    → refuse m k x ≡ o → record { outcome : out (Answer.Refused k x) o.front m ≡ o; reports_after : buf ≡ sets buf 0 o.front }
refuses o m k x buf e = comes o (Answer.Refused k x) [] m buf buf refl e

module _ {z : Sizes} (m : Mem z) (row request room : ℕ) where
  abbrev whole : Chain
  whole = chain (size_n m) (version_at m.cells) (size_n m) (head_at m row)

  unfoldable pub vacuum_rest : Outcome z Answer (List ℕ)
  vacuum_rest = guard (refuse m) (row_test m row ∷ []) (vacuum_now m (horizon m request) room whole.cells whole.after)

  pub vacuum_split : vacuum_out m row request room ≡ guard (refuse m) (store_tests m) vacuum_rest
  unfolding vacuum_out vacuum_rest
  vacuum_split = guard_append (refuse m) (store_tests m) (row_test m row ∷ []) _

  pub vacuum_bad_row : size_r m ≤ row → refuse m bad_row row ≡ vacuum_rest
  unfolding vacuum_rest guard
  vacuum_bad_row h = rw (le-leb (size_r m) row h)

  module _ (in_r : row < size_r m) where
    in_row : (a : Chain) → whole ≡ a → vacuum_now m (horizon m request) room a.cells a.after ≡ vacuum_rest
    unfolding vacuum_rest guard
    in_row a e = rw (lt-leb (size_r m) row in_r) (ap (λ (x : Chain). vacuum_now m (horizon m request) room x.cells x.after) (sym e))

    pub vacuum_bare : head_at m row ≡ 0 → out (Vacuumed 0 None) [] m ≡ vacuum_rest
    unfolding vacuum_now
    vacuum_bare e = in_row (chained [] ends) (chain_end (size_n m) (version_at m.cells) (size_n m) (head_at m row) e)

    module _ (some : 0 < size_n m) (nz : head_at m row ≢ 0) where
      pub vacuum_no_head : size_n m < head_at m row → refuse m damaged 0 ≡ vacuum_rest
      unfolding vacuum_now
      vacuum_no_head h = in_row (chained [] broken) (chain_broken (size_n m) (version_at m.cells) (size_n m) (head_at m row) (λ e. omega arith) nz h)

      module _ (le : head_at m row ≤ size_n m) (hz : ℕ) (ez : (version_at m.cells (head_at m row)).next.0 ≢ 0 → hz ≡ horizon m request) where
        abbrev next : ℕ
        next = (version_at m.cells (head_at m row)).next.0

        abbrev rest : Chain
        rest = chain (size_n m) (version_at m.cells) (size_n m - 1) next

        abbrev come : Result ℕ Refusal
        come = tally (dead m.cells hz) 0 rest

        -- where nothing stands behind the head the horizon counts for nothing
        bare_horizon : vacuum_now m hz room (head_at m row ∷ []) ends ≡ vacuum_now m (horizon m request) room (head_at m row ∷ []) ends
        unfolding vacuum_now swept keep
        bare_horizon = refl

        horizons : vacuum_now m hz room (head_at m row ∷ rest.cells) rest.after ≡ vacuum_now m (horizon m request) room (head_at m row ∷ rest.cells) rest.after
        horizons =
            by_eq next 0
            (λ e. rw (chain_end (size_n m) (version_at m.cells) (size_n m - 1) next e) bare_horizon)
            (λ n. rw (ez n) refl)

        headed : vacuum_now m hz room (head_at m row ∷ rest.cells) rest.after ≡ vacuum_rest
        headed = horizons ∙ in_row (chained (head_at m row ∷ rest.cells) rest.after) (chain_next (size_n m) (version_at m.cells) (size_n m) (head_at m row) (λ e. omega arith) nz le)

        harmed_now : (r : Refusal) (l : List ℕ) (a : After) → tally (dead m.cells hz) 0 (chained l a) ≡ Err r → refuse m (number r) (about r) ≡ vacuum_now m hz room (head_at m row ∷ l) a
        unfolding vacuum_now tally
        harmed_now r l ends e = absurd (let q : ◌≡◌ {A = ℕ} 0 1 = cc in omega arith)
        harmed_now r l goes_on e = let q : Damaged ≡ r = cc in rw (sym q) refl
        harmed_now r l broken e = let q : Damaged ≡ r = cc in rw (sym q) refl

        now_harmed : (r : Refusal) → come ≡ Err r → refuse m (number r) (about r) ≡ vacuum_rest
        now_harmed r e = harmed_now r rest.cells rest.after e ∙ headed

        module _ (lent : size_n m ≤ length m.cells) (count : ℕ) (e : come ≡ Ok count) where
          sweeps : swept m hz room (head_at m row) rest.cells ≡ vacuum_rest
          unfolding vacuum_now
          sweeps = sym (ap (vacuum_now m hz room (head_at m row ∷ rest.cells)) (sound (dead m.cells hz) count rest e).0) ∙ headed

          counts : count ≡ length (keep (dead m.cells hz) rest.cells)
          counts = (sound (dead m.cells hz) count rest e).1

          now_full : room < count → refuse m result_full 0 ≡ vacuum_rest
          unfolding swept guard
          now_full h = let c = counts in sym (rw (lt-ltb room (length (keep (dead m.cells hz) rest.cells)) (omega arith)) refl) ∙ sweeps

          now_done : count ≤ room → (after : Mem z)
              → after ≡ fold give_back (gone m.cells hz (head_at m row)) (with_cells m (relink (head_at m row ∷ stays m.cells hz (head_at m row)) m.cells))
              → out (Vacuumed count (value_of (version_at m.cells (head_at m row)))) (reports m.cells (gone m.cells hz (head_at m row))) after ≡ vacuum_rest
          unfolding swept guard
          now_done h after ea =
              let c = counts in
              rw (ea, judged_line m.cells (size_n m) hz (head_at m row) count some lent nz le e, c)
              (sym (rw (le-ltb room (length (keep (dead m.cells hz) rest.cells)) (omega arith)) refl) ∙ sweeps)

      -- the judge's verdict, as the code has it: of the head's version, with the horizon that was taken
      module _ (le : head_at m row ≤ size_n m) (v : Version) (ev : v ≡ version_at m.cells (head_at m row)) (hz : ℕ) (ez : v.next.0 ≢ 0 → hz ≡ horizon m request) where
        abbrev verdict : Result ℕ Refusal
        verdict = tally (dead m.cells hz) 0 (chain (size_n m) (version_at m.cells) (size_n m - 1) v.next.0)

        horizon_is : (version_at m.cells (head_at m row)).next.0 ≢ 0 → hz ≡ horizon m request
        horizon_is = rw ev at ez

        pub vacuum_harmed : (r : Refusal) → Err r ≡ verdict → refuse m (number r) (about r) ≡ vacuum_rest
        vacuum_harmed r e = now_harmed le hz horizon_is r (sym (rw ev at e))

        module _ (lent : size_n m ≤ length m.cells) (count : ℕ) (e : Ok count ≡ verdict) where
          come_is : tally (dead m.cells hz) 0 (chain (size_n m) (version_at m.cells) (size_n m - 1) (version_at m.cells (head_at m row)).next.0) ≡ Ok count
          come_is = sym (rw ev at e)

          pub vacuum_full : room < count → refuse m result_full 0 ≡ vacuum_rest
          vacuum_full h = now_full le hz horizon_is lent count come_is h

          pub vacuum_sweeps : count ≤ room → Sweepable m.cells hz (head_at m row) count room
          vacuum_sweeps h = judged m.cells (size_n m) hz (head_at m row) count some lent nz le come_is room h

          pub vacuum_done : count ≤ room → (a : Answer) → a ≡ Vacuumed count (value_of (version_at m.cells (head_at m row)))
              → (after : Mem z) → after ≡ fold give_back (gone m.cells hz (head_at m row)) (with_cells m (relink (head_at m row ∷ stays m.cells hz (head_at m row)) m.cells))
              → out a (reports m.cells (gone m.cells hz (head_at m row))) after ≡ vacuum_rest
          vacuum_done h a ea after em = rw ea (now_done le hz horizon_is lent count come_is h after em)
