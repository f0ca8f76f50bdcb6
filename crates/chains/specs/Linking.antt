-- Where the loop that links a row anew stands: what stays of the rest of the chain, linked behind the version that stayed last, gives
-- what the whole gives. The cells ahead are as they were, since no cell is passed twice: so the walk goes on as if nothing had changed.
use Rattle.std.specs.Prelude.{ℕ, ◌<◌, true, false, cond, List, [], ◌∷◌, ◌≢◌, ◌≡◌, refl, length}
use Rattle.std.proofs.Common.{arith, ◌∙◌}
use Rattle.kinds.specs.declared.Cell.{Cell}
use Rattle.kinds.specs.declared.Version.{Version}
use Rattle.words.specs.Lists.{keep}
use Rattle.kinds.specs.Versions.{with_next, version_at, link_at, put_version}
use Rattle.rules.specs.Vacuum.{relink}
use Rattle.kinds.specs.Versions.{reclaimable}
use Rattle.rules.proofs.Theory.Cases.{by_bool}
use Rattle.rules.specs.Theory.CellLaws.{HasCell}
use Rattle.rules.proofs.Theory.CellLaws.{length_put, put_off}
use Rattle.rules.specs.Theory.Counting.{cnt}
use Rattle.rules.proofs.Theory.Counting.{cnt_head, cnt_tail}
use Rattle.chains.specs.Lines.{Ends, line, line_end, line_cell, line_next, line_once, ends_next}
use Rattle.chains.specs.Tallies.{dead, alive}

-- a turn leaves less of the chain
pub line_less : (cs : List (List ℕ)) (c : ℕ) → Ends cs c → c ≢ 0 → (v : Version) → v ≡ version_at cs c → length (line cs v.next.0) < length (line cs c)
line_less cs c e nz v ev = rw (line_next cs c e nz, ev) (omega arith)

module _ (cs : List (List ℕ)) (hz : ℕ) where
  abbrev stays : ℕ → List ℕ
  stays c = keep (alive cs hz) (line cs c)

  stays_end : (c : ℕ) → c ≡ 0 → stays c ≡ []
  unfolding keep
  stays_end c e = rw (line_end cs c e)

  stays_dead : (c : ℕ) → Ends cs c → c ≢ 0 → dead cs hz c ≡ true → stays c ≡ stays (version_at cs c).next.0
  unfolding keep
  stays_dead c e nz d = rw (line_next cs c e nz, d)

  stays_alive : (c : ℕ) → Ends cs c → c ≢ 0 → dead cs hz c ≡ false → stays c ≡ c ∷ stays (version_at cs c).next.0
  unfolding keep
  stays_alive c e nz d = rw (line_next cs c e nz, d)

  pub record Linking (head first last c : ℕ) (new : List (List ℕ)) : Type 0 where
    pub ended : Ends cs c
    pub size : length new ≡ length cs
    pub has_last : HasCell new last
    pub apart : cnt last (line cs c) ≡ 0
    pub ahead : (d : ℕ) → cnt d (line cs c) ≢ 0 → version_at new d ≡ version_at cs d
    pub same : relink (last ∷ stays c) new ≡ relink (head ∷ stays first) cs

  module _ (head first : ℕ) where
    pub linking_start : HasCell cs head → Ends cs first → cnt head (line cs first) ≡ 0 → Linking head first head first cs
    linking_start h e a = record { ended = e; size = refl; has_last = h; apart = a; ahead = λ d _. refl; same = refl }

    pub linking_end : (last c : ℕ) (new : List (List ℕ)) → Linking head first last c new → c ≡ 0
        → put_version new last (with_next (version_at new last) 0) ≡ relink (head ∷ stays first) cs
    unfolding relink
    linking_end last c new k z = rw (stays_end c z) at k.same

    module _ (last c : ℕ) (new : List (List ℕ)) (k : Linking head first last c new) (nz : c ≢ 0) where
      abbrev next : ℕ
      next = (version_at cs c).next.0

      abbrev linked : List (List ℕ)
      linked = put_version new last (with_next (version_at new last) c)

      -- the version at hand is as it was
      pub linking_here : version_at new c ≡ version_at cs c
      linking_here = k.ahead c (λ z. cnt_head c c (line cs next) (rw (line_next cs c k.ended nz) at z) refl)

      further : (d : ℕ) → cnt d (line cs c) ≡ 0 → cnt d (line cs next) ≡ 0
      further d z = cnt_tail d c (line cs next) (rw (line_next cs c k.ended nz) at z)

      step_dead : dead cs hz c ≡ true → Linking head first last next new
      step_dead d = record {
        ended = ends_next cs c k.ended nz;
        size = k.size;
        has_last = k.has_last;
        apart = further last k.apart;
        ahead = λ x n. k.ahead x (λ z. n (further x z));
        same = rw (← stays_dead c k.ended nz d) k.same;
      }

      step_alive : dead cs hz c ≡ false → Linking head first c next linked
      unfolding relink
      step_alive d =
          let len = length_put new last (with_next (version_at new last) c) (link_at new last) in
          let h = line_cell cs c k.ended nz in
          record {
            ended = ends_next cs c k.ended nz;
            size = len ∙ k.size;
            has_last = record { low = h.low; high = rw (len, k.size) h.high };
            apart = line_once cs c k.ended nz;
            ahead = λ x n.
                put_off new last (with_next (version_at new last) c) (link_at new last) x k.has_last.low (λ e. n (further x (rw e k.apart)))
                ∙ k.ahead x (λ z. n (further x z));
            same = rw (stays_alive c k.ended nz d) at k.same;
          }

    -- one version more
    pub linking_next : (last c : Cell) (new : List (List ℕ)) → Linking head first last.0 c.0 new → c.0 ≢ 0
        → (v : Version) → v ≡ version_at new c.0 → (l : Cell) → l ≡ cond (reclaimable hz v) last c
        → (after : List (List ℕ)) → after ≡ cond (reclaimable hz v) new (put_version new last.0 (with_next (version_at new last.0) c.0))
        → Linking head first l.0 v.next.0 after
    linking_next last c new k nz v ev l el after ea =
        let e : v ≡ version_at cs c.0 = ev ∙ linking_here last.0 c.0 new k nz in
        rw (ea, el, e) (by_bool (dead cs hz c.0) (λ d. rw d (step_dead last.0 c.0 new k nz d)) (λ d. rw d (step_alive last.0 c.0 new k nz d)))

    pub linking_less : (last c : ℕ) (new : List (List ℕ)) → Linking head first last c new → c ≢ 0
        → (v : Version) → v ≡ version_at new c → length (line cs v.next.0) < length (line cs c)
    linking_less last c new k nz v ev = line_less cs c k.ended nz v (ev ∙ linking_here last c new k nz)
