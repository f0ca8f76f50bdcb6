-- What is left of a write once the slot is tested, and its ways out.
use Rattle.std.specs.Prelude.{ℕ, ◌≤◌, ◌<◌, not, refl, ◌≢◌, get_or, set, eqb, leb, ltb}
use mathlib.Core.List.{List, [], ◌∷◌}
use Rattle.std.proofs.Math.Option.{Option, none, some}
use Rattle.std.proofs.Math.Path.{◌≡◌, sym}
use Rattle.std.proofs.Common.{ap, ◌∙◌}
use borrow.Author.Tests.{le-leb, lt-leb, eqb-false, leb-false, ltb-false}
use Rattle.kinds.specs.declared.Cell.{Cell}
use Rattle.kinds.specs.Answer.{Answer, Wrote}
use Rattle.kinds.specs.Verdict.{Verdict}
use Rattle.words.specs.Sizes.{Sizes, FREE, WRITES}
use Rattle.rules.specs.Numbers.{bad_row, damaged}
use Rattle.kinds.specs.Versions.{at, with_value, new_version, version_at, link_at, put_version, put_cell}
use Rattle.words.specs.Slots.{Write, write, add_write}
use Rattle.rules.specs.Memory.{Mem, mem, size_r, size_n, free, head_at, words_at, slot_at}
use Rattle.rules.specs.Outcome.{Outcome, out, test, guard, refuse, slot_tests, row_test, is_cell}
use Rattle.rules.specs.Verdicts.{verdict}
use Rattle.rules.proofs.Verdicts.{guard_fine, guard_refused, guard_append}
use Rattle.rules.specs.Read.{own}
use Rattle.rules.specs.Write.{lock_base, prepared, replaced, head_tests, write_now, write_out}
use Rattle.rules.proofs.Theory.Cases.{by_bool}
use Rattle.std.specs.Prelude.{Some, None}
use Rattle.reads.specs.Found.{own_of}
use Rattle.writes.specs.Room.{room_tests}

module _ {z : Sizes} (m : Mem z) where
  -- the own entry's cell is c
  unfoldable pub again_out : ℕ → Option ℕ → Outcome z Answer ℕ
  again_out c v = guard (refuse m) (test (not (is_cell (size_n m) c)) damaged 0 ∷ []) (out (Wrote (at c)) [] (replaced m c v))

  -- the test of its cell
  abbrev cells : ℕ → Verdict
  cells c = verdict (test (not (is_cell (size_n m) c)) damaged 0 ∷ [])

  pub again_refused : (c : ℕ) (v : Option ℕ) (k x : ℕ) → cells c ≡ Verdict.Refused k x → refuse m k x ≡ again_out c v
  unfolding again_out
  again_refused c v k x e = sym (guard_refused (refuse m) _ _ k x e)

  pub again_done : (c : ℕ) (v : Option ℕ) (cs : List (List ℕ)) → cells c ≡ Verdict.Fine → cs ≡ put_version m.cells c (with_value (version_at m.cells c) v)
      → out (Wrote (at c)) [] (mem m.meta m.rows cs m.slots) ≡ again_out c v
  unfolding again_out
  again_done c v cs f e = rw e (sym (guard_fine (refuse m) _ _ f))

  module _ (s id row : ℕ) (v : Option ℕ) where
    unfoldable pub write_rest : Outcome z Answer ℕ
    write_rest = guard (refuse m) (row_test m row ∷ []) (write_now m s id row v (own (slot_at m s).writes row))

    pub write_split : write_out m s id row v ≡ guard (refuse m) (slot_tests m s id) write_rest
    unfolding write_out write_rest
    write_split = guard_append (refuse m) (slot_tests m s id) (row_test m row ∷ []) _

    pub write_bad_row : size_r m ≤ row → refuse m bad_row row ≡ write_rest
    unfolding write_rest guard
    write_bad_row h = rw (le-leb (size_r m) row h)

    in_row : row < size_r m → write_now m s id row v (own (slot_at m s).writes row) ≡ write_rest
    unfolding write_rest guard
    in_row h = rw (lt-leb (size_r m) row h)

    own_some : (o : Option Write) (c : Cell) → own_of o ≡ Some c → again_out c.0 v ≡ write_now m s id row v o
    unfolding again_out write_now
    own_some none c e = cc
    own_some (some w) c e =
        let q : at w.new ≡ c = cc in
        sym (ap (λ (d : Cell). guard (refuse m) (test (not (is_cell (size_n m) d.0)) damaged 0 ∷ []) (out (Wrote (at d.0)) [] (replaced m d.0 v))) q)

    own_no : (o : Option Write) → own_of o ≡ None → write_now m s id row v none ≡ write_now m s id row v o
    own_no none e = refl
    own_no (some w) e = cc

    pub write_own : row < size_r m → (c : Cell) → own_of (own (slot_at m s).writes row) ≡ Some c → again_out c.0 v ≡ write_rest
    write_own h c e = own_some (own (slot_at m s).writes row) c e ∙ in_row h

    pub write_first : row < size_r m → own_of (own (slot_at m s).writes row) ≡ None → write_now m s id row v none ≡ write_rest
    write_first h e = own_no (own (slot_at m s).writes row) e ∙ in_row h

    -- ---- no own entry

    abbrev heads : Verdict
    heads = verdict (head_tests m (slot_at m s) id row (head_at m row))

    abbrev rooms : Verdict
    rooms = verdict (room_tests z m.meta (words_at m s))

    now_split : write_now m s id row v none ≡ guard (refuse m) (head_tests m (slot_at m s) id row (head_at m row)) (guard (refuse m) (room_tests z m.meta (words_at m s)) (out (Wrote (at (free m))) [] (prepared m s id row v)))
    unfolding write_now
    now_split = guard_append (refuse m) (head_tests m (slot_at m s) id row (head_at m row)) (room_tests z m.meta (words_at m s)) _

    pub first_head : (k x : ℕ) → heads ≡ Verdict.Refused k x → refuse m k x ≡ write_now m s id row v none
    first_head k x e = sym (now_split ∙ guard_refused (refuse m) _ _ k x e)

    pub first_room : (k x : ℕ) → heads ≡ Verdict.Fine → rooms ≡ Verdict.Refused k x → refuse m k x ≡ write_now m s id row v none
    first_room k x f e = sym (now_split ∙ guard_fine (refuse m) _ _ f ∙ guard_refused (refuse m) _ _ k x e)

    pub first_done : (meta : List ℕ) (cells slots : List (List ℕ)) → heads ≡ Verdict.Fine → rooms ≡ Verdict.Fine
        → meta ≡ set m.meta FREE (link_at m.cells (free m))
        → cells ≡ put_cell (lock_base m.cells (head_at m row) id) (free m) (new_version v id 0) 0
        → slots ≡ set m.slots s (add_write z (write row (head_at m row) (free m)) (words_at m s))
        → out (Wrote (at (free m))) [] (mem meta m.rows cells slots) ≡ write_now m s id row v none
    unfolding prepared
    first_done meta cells slots f g a b c = rw (a, b, c) (sym (now_split ∙ guard_fine (refuse m) _ _ f ∙ guard_fine (refuse m) _ _ g))

    -- what the tests have shown: there is room for an entry, and the first free cell is a cell
    pub head_in : heads ≡ Verdict.Fine → head_at m row ≤ size_n m
    unfolding verdict head_tests
    head_in e = by_bool (ltb (size_n m) (head_at m row))
        (λ b. let g = rw b at e in cc)
        (λ b. ltb-false (size_n m) (head_at m row) b)

    pub room_facts : rooms ≡ Verdict.Fine → (get_or (words_at m s) (WRITES z) 0 < z.writes) × (free m ≢ 0) × (free m ≤ size_n m)
    unfolding verdict
    room_facts e = by_bool (leb z.writes (get_or (words_at m s) (WRITES z) 0))
        (λ b. let g = rw b at e in cc)
        (λ b. let e1 = rw b at e in by_bool (eqb (free m) 0)
        (λ c. let g = rw c at e1 in cc)
        (λ c. let e2 = rw c at e1 in by_bool (ltb (size_n m) (free m))
        (λ d. let g = rw d at e2 in cc)
        (λ d. (leb-false _ _ b, eqb-false _ _ c, ltb-false _ _ d))))
