-- The tests of a row's head, one by one: what a write knows where it stops and where it goes on.
use Rattle.std.specs.Prelude.{ℕ, ◌≤◌, ◌<◌, true, false, ◌≡◌, ◌≢◌}
use borrow.Author.Tests.{eq-eqb, ne_eqb, lt-ltb, le-ltb}
use Rattle.kinds.specs.Verdict.{Fine, Refused}
use Rattle.words.specs.Sizes.{Sizes}
use Rattle.rules.specs.Numbers.{row_locked, write_conflict, damaged}
use Rattle.kinds.specs.Versions.{version_at, locked_by_other}
use Rattle.words.specs.Slots.{Slot}
use Rattle.rules.specs.Memory.{Mem, size_n}
use Rattle.kinds.specs.Visible.{visible}
use Rattle.rules.specs.Verdicts.{verdict}
use Rattle.rules.specs.Write.{head_tests}

module _ {z : Sizes} (m : Mem z) (t : Slot) (id row h : ℕ) where
  pub head_harmed : size_n m < h → verdict (head_tests m t id row h) ≡ Refused damaged 0
  unfolding verdict head_tests
  head_harmed p = rw (lt-ltb (size_n m) h p)

  pub head_none : h ≤ size_n m → h ≡ 0 → verdict (head_tests m t id row h) ≡ Fine
  unfolding verdict head_tests
  head_none p e = rw (le-ltb (size_n m) h p, eq-eqb h 0 e)

  module _ (p : h ≤ size_n m) (n : h ≢ 0) where
    pub head_locked : locked_by_other (version_at m.cells h) id ≡ true → verdict (head_tests m t id row h) ≡ Refused row_locked row
    unfolding verdict head_tests
    head_locked l = rw (le-ltb (size_n m) h p, ne_eqb h 0 n, l)

    pub head_unseen : locked_by_other (version_at m.cells h) id ≡ false → visible t (version_at m.cells h) ≡ false
        → verdict (head_tests m t id row h) ≡ Refused write_conflict row
    unfolding verdict head_tests
    head_unseen l v = rw (le-ltb (size_n m) h p, ne_eqb h 0 n, l, v)

    pub head_fine : locked_by_other (version_at m.cells h) id ≡ false → visible t (version_at m.cells h) ≡ true
        → verdict (head_tests m t id row h) ≡ Fine
    unfolding verdict head_tests
    head_fine l v = rw (le-ltb (size_n m) h p, ne_eqb h 0 n, l, v)
