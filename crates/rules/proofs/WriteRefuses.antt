-- A write refuses exactly when the paper says. "write tests 7 and 8 only where the row has no own entry, then 12 and 11 only where an
-- entry is added".
use Rattle.std.specs.Prelude.{ℕ, ◌≤◌, ◌<◌, List, [], ◌∷◌, ◌++◌, ◌≢◌, get_or, leb, eqb, ltb}
use Rattle.std.proofs.Math.Option.{Option, none, some}
use Rattle.std.proofs.Math.Path.{◌≡◌, refl, sym, subst}
use Rattle.std.proofs.Common.{◌∙◌, arith}
use Rattle.kinds.specs.declared.Version.{Version}
use Rattle.kinds.specs.Answer.{Answer, Wrote}
use Rattle.words.specs.Sizes.{Sizes, WRITES}
use Rattle.rules.specs.Numbers.{row_locked, write_conflict, no_room, write_set_full, damaged}
use Rattle.rules.proofs.Theory.Cases.{by_bool}
use Rattle.kinds.specs.Versions.{at, version_at}
use Rattle.words.specs.Slots.{Write}
use Rattle.rules.specs.Memory.{Mem, size_n, free, head_at, words_at, slot_at}
use Rattle.rules.specs.Outcome.{Outcome, out, Test, test, guard, slot_tests, row_test, is_cell}
use Rattle.rules.specs.Read.{own}
use Rattle.rules.specs.Write.{prepared, replaced, head_tests, write_now, write_out}
use Rattle.rules.specs.Exactly.{Line, line, under, Says, Exactly}
use Rattle.rules.proofs.Exactly.{in_answer, is_equal, is_less, is_most, is_not, is_nonzero, is_both, exactly_tested, exactly_guarded, exactly_accepted, exactly_refused, exactly_skip, exactly_under, not_under, not_refused}
use Rattle.rules.specs.Terms.{CellOf, Sees, LockedByOther, LastEntry, NoEntry, OwnIs}
use Rattle.rules.proofs.Terms.{is_cell_lem, is_seen, is_locked_by_other, own_is, is_own}
use Rattle.rules.proofs.SharedLines.{row_lines, row_says, count_at}

module _ {z : Sizes} (m : Mem z) where
  -- the head's version
  abbrev pub head_version : ℕ → Version
  head_version row = version_at m.cells (head_at m row)

  -- where an entry is added
  abbrev pub add_lines : ℕ → ℕ → ℕ → List Line
  add_lines s id row =
      -- 15: "a cell or link above N"
      line (size_n m < head_at m row) damaged 0
      -- 7: "write, head locked by another id"
      ∷ line ((head_at m row ≢ 0) × LockedByOther (head_version row) id) row_locked row
      -- 8: "write: head nonzero and not visible"
      ∷ line ((head_at m row ≢ 0) × (Sees (slot_at m s) (head_version row) → ⊥)) write_conflict row
      -- 12: "33rd entry"
      ∷ line (z.writes ≤ count_at m s (WRITES z)) write_set_full 0
      -- 11: "write, no free cell"
      ∷ line (free m ≡ 0) no_room 0
      -- 15: "a cell or link above N"
      ∷ line (size_n m < free m) damaged 0
      ∷ []

  -- 15: "cell 0 as the new cell of an entry", or above N, for an own entry of the row
  abbrev pub OwnHarmed : ℕ → ℕ → Type 0
  OwnHarmed s row = (w : Write) × LastEntry (slot_at m s).writes row w × (CellOf (size_n m) w.new → ⊥)

  abbrev pub now_lines : ℕ → ℕ → ℕ → List Line
  now_lines s id row = line (OwnHarmed s row) damaged 0 ∷ under (NoEntry (slot_at m s).writes row) (add_lines s id row)

  abbrev pub write_lines : ℕ → ℕ → ℕ → List Line
  write_lines s id row = row_lines m s id row ++ now_lines s id row

  abbrev add_tests : ℕ → ℕ → ℕ → List Test
  add_tests s id row = head_tests m (slot_at m s) id row (head_at m row) ++ test (leb z.writes (get_or (words_at m s) (WRITES z) 0)) write_set_full 0 ∷ test (eqb (free m) 0) no_room 0 ∷ test (ltb (size_n m) (free m)) damaged 0 ∷ []

  add_says : (s id row : ℕ) → Says (add_tests s id row) (add_lines s id row)
  unfolding head_tests
  add_says s id row = (
    is_less (size_n m) (head_at m row),
    refl,
    refl,
    (
      is_both _ _ (is_nonzero (head_at m row)) (is_locked_by_other (head_version row) id),
      refl,
      refl,
      (
        is_both _ _ (is_nonzero (head_at m row)) (is_not _ (is_seen (slot_at m s) (head_version row))),
        refl,
        refl,
        (
          is_most z.writes (count_at m s (WRITES z)),
          refl,
          refl,
          (
            is_equal (free m) 0,
            refl,
            refl,
            (
              is_less (size_n m) (free m),
              refl,
              refl,
              tt,
            ),
          ),
        ),
      ),
    ),
  )

  -- what an accepted write comes to: "an own entry for the row has its value replaced and keeps its cell. Otherwise .. an entry is added"
  abbrev pub written : ℕ → ℕ → ℕ → Option ℕ → Option Write → Outcome z Answer ℕ
  written s id row v (some w) = out (Wrote (at w.new)) [] (replaced m w.new v)
  written s id row v none = out (Wrote (at (free m))) [] (prepared m s id row v)

  now_exactly : (s id row : ℕ) (v : Option ℕ) (o : Option Write) → own (slot_at m s).writes row ≡ o → Exactly in_answer m (write_now m s id row v o) (written s id row v o) (now_lines s id row)
  unfolding write_now guard
  now_exactly s id row v none e =
      let i : NoEntry (slot_at m s).writes row = subst (OwnIs (slot_at m s).writes row) e (own_is (slot_at m s).writes row) in
      exactly_skip in_answer m (OwnHarmed s row) damaged 0 (under (NoEntry (slot_at m s).writes row) (add_lines s id row)) _ _
      (λ q.
      let g : none ≡ some q.0 = sym e ∙ is_own (slot_at m s).writes row (some q.0) q.1 in
      let x : ◌≡◌ {A = ℕ} 0 1 = cc in
      omega arith)
      (exactly_under in_answer m _ _ _ (add_lines s id row) i (exactly_tested m (add_tests s id row) (add_lines s id row) (written s id row v none) refl (add_says s id row)))
  now_exactly s id row v (some w) e =
      let i : LastEntry (slot_at m s).writes row w = subst (OwnIs (slot_at m s).writes row) e (own_is (slot_at m s).writes row) in
      by_bool (is_cell (size_n m) w.new)
      (λ b. rw b
      (exactly_accepted in_answer m (written s id row v (some w)) (now_lines s id row) (not_refused _ refl) (
        (λ q.
            let g : some w ≡ some q.0 = sym e ∙ is_own (slot_at m s).writes row (some q.0) q.1 in
            let h : w ≡ q.0 = cc in
            q.2 (subst (λ (y : Write). CellOf (size_n m) y.new) h ((is_cell_lem (size_n m) w.new).yes b))),
        not_under (NoEntry (slot_at m s).writes row) (add_lines s id row)
            (λ q.
            let g : some w ≡ none = sym e ∙ is_own (slot_at m s).writes row none q in
            let x : ◌≡◌ {A = ℕ} 0 1 = cc in
            omega arith),
      )))
      (λ b. rw b (exactly_refused in_answer m damaged 0 (OwnHarmed s row) _ _ (w, i, (is_cell_lem (size_n m) w.new).no b)))

  pub write_refuses_exactly : (s id row : ℕ) (v : Option ℕ) → Exactly in_answer m (write_out m s id row v) (written s id row v (own (slot_at m s).writes row)) (write_lines s id row)
  unfolding write_out
  write_refuses_exactly s id row v = exactly_guarded in_answer m (slot_tests m s id ++ row_test m row ∷ []) (row_lines m s id row) (now_lines s id row) _ _ (row_says m s id row) (now_exactly s id row v (own (slot_at m s).writes row) refl)
