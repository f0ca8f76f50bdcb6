-- Where the loop of reports stands: what is left of the chain, reported from place i on, gives what the whole chain gives from 0 on.
use Rattle.std.specs.Prelude.{ℕ, ◌+◌, ◌≤◌, ◌<◌, true, false, cond, List, [], ◌∷◌, ◌≢◌, ◌≡◌, refl, length, set}
use Rattle.std.proofs.Common.{add-one, arith}
use mir.Val.{bool_byte}
use Rattle.std.proofs.Math.ListN.{length-set}
use Rattle.std.proofs.lemmas.List.Edits.{sets}
use Rattle.kinds.specs.declared.Version.{Version}
use Rattle.words.specs.Lists.{keep}
use Rattle.kinds.specs.Versions.{version_at}
use Rattle.rules.specs.Vacuum.{report_of, reports}
use Rattle.kinds.specs.Versions.{reclaimable}
use Rattle.rules.proofs.Theory.Cases.{by_bool}
use Rattle.chains.specs.Lines.{Ends, line, line_end, line_next, ends_next}
use Rattle.chains.specs.Tallies.{dead}

module _ (cs : List (List ℕ)) (hz : ℕ) where
  abbrev gone : ℕ → List ℕ
  gone c = keep (dead cs hz) (line cs c)

  gone_end : (c : ℕ) → c ≡ 0 → gone c ≡ []
  unfolding keep
  gone_end c e = rw (line_end cs c e)

  gone_dead : (c : ℕ) → Ends cs c → c ≢ 0 → dead cs hz c ≡ true → gone c ≡ c ∷ gone (version_at cs c).next.0
  unfolding keep
  gone_dead c e nz d = rw (line_next cs c e nz, d)

  gone_alive : (c : ℕ) → Ends cs c → c ≢ 0 → dead cs hz c ≡ false → gone c ≡ gone (version_at cs c).next.0
  unfolding keep
  gone_alive c e nz d = rw (line_next cs c e nz, d)

  pub record Reporting (first : ℕ) (before : List (List ℕ)) (c i : ℕ) (buf : List (List ℕ)) : Type 0 where
    pub ended : Ends cs c
    pub room : i + length (gone c) ≤ length buf
    pub same : sets buf i (reports cs (gone c)) ≡ sets before 0 (reports cs (gone first))

  module _ (first : ℕ) (before : List (List ℕ)) where
    pub reporting_start : Ends cs first → length (gone first) ≤ length before → Reporting first before first 0 before
    reporting_start e h = record { ended = e; room = omega arith; same = refl }

    pub reporting_end : (c i : ℕ) (buf : List (List ℕ)) → Reporting first before c i buf → c ≡ 0 → buf ≡ sets before 0 (reports cs (gone first))
    unfolding reports
    reporting_end c i buf r z = (rw (gone_end c z) at r.same)

    module _ (c i : ℕ) (buf : List (List ℕ)) (r : Reporting first before c i buf) (nz : c ≢ 0) where
      pub reporting_room : dead cs hz c ≡ true → i < length buf
      reporting_room d = let h = rw (gone_dead c r.ended nz d) at r.room in omega arith

      step_dead : dead cs hz c ≡ true → Reporting first before (version_at cs c).next.0 (i + 1) (set buf i (report_of cs c))
      unfolding reports
      step_dead d =
          let h = rw (gone_dead c r.ended nz d) at r.room in
          record {
            ended = ends_next cs c r.ended nz;
            room = rw (length-set buf i (report_of cs c)) (omega arith);
            same = rw (add-one i) (rw (gone_dead c r.ended nz d) at r.same);
          }

      step_alive : dead cs hz c ≡ false → Reporting first before (version_at cs c).next.0 (i + 0) buf
      step_alive d =
          let z : i + 0 ≡ i = omega arith in
          record {
            ended = ends_next cs c r.ended nz;
            room = rw (← gone_alive c r.ended nz d) (omega (arith, r.room));
            same = rw (z, ← gone_alive c r.ended nz d) r.same;
          }

      -- one version more
      pub reporting_next : (v : Version) → v ≡ version_at cs c → (j : ℕ) → j ≡ i + bool_byte (reclaimable hz v)
          → (new : List (List ℕ)) → new ≡ cond (reclaimable hz v) (set buf i (c ∷ v.keyed ∷ v.key ∷ [])) buf
          → Reporting first before v.next.0 j new
      reporting_next v ev j ej new en =
          rw (en, ej, ev) (by_bool (dead cs hz c) (λ d. rw d (step_dead d)) (λ d. rw d (step_alive d)))
