-- What is left of a read once the slot is tested, and its ways out.
use Rattle.std.specs.Prelude.{ℕ, ◌≤◌, ◌<◌, List, [], ◌∷◌, ◌≡◌, set}
use Rattle.std.proofs.Math.Path.{sym}
use Rattle.std.proofs.Common.{ap, ◌∙◌, le-leb}
use Rattle.std.proofs.Math.Seq.{set-get_or}
use Rattle.std.proofs.lemmas.Bool.{lt-leb}
use Rattle.kinds.specs.ReadAnswer.{ReadAnswer}
use Rattle.words.specs.Sizes.{Sizes}
use Rattle.rules.specs.Numbers.{bad_row}
use Rattle.words.specs.Lists.{fold}
use Rattle.kinds.specs.Versions.{version_at}
use Rattle.words.specs.Slots.{Rec, add_rec}
use Rattle.rules.specs.Memory.{Mem, mem, size_r, words_at, slot_at}
use Rattle.rules.specs.Outcome.{Outcome, out, guard, refuse_read, slot_tests, row_test}
use Rattle.rules.proofs.Verdicts.{guard_append}
use Rattle.rules.specs.Read.{Sight, blocked, sees, answer_at, read_at, read_end, read_out}

module _ {z : Sizes} (m : Mem z) (s row : ℕ) where
  unfoldable pub read_rest : Outcome z ReadAnswer ℕ
  read_rest = guard (refuse_read m) (row_test m row ∷ []) (read_end m s (read_at m (slot_at m s) (slot_at m s).recs row))

  pub read_split : (id : ℕ) → read_out m s id row ≡ guard (refuse_read m) (slot_tests m s id) read_rest
  unfolding read_out read_rest
  read_split id = guard_append (refuse_read m) (slot_tests m s id) (row_test m row ∷ []) _

  pub read_bad_row : size_r m ≤ row → refuse_read m bad_row row ≡ read_rest
  unfolding read_rest guard
  read_bad_row h = rw (le-leb (size_r m) row h)

  module _ (h : row < size_r m) where
    in_row : (g : Sight) → g ≡ read_at m (slot_at m s) (slot_at m s).recs row → read_end m s g ≡ read_rest
    unfolding read_rest guard
    in_row g e = rw (lt-leb (size_r m) row h) (ap (read_end m s) e)

    pub read_blocked : (k x : ℕ) → blocked k x ≡ read_at m (slot_at m s) (slot_at m s).recs row → refuse_read m k x ≡ read_rest
    unfolding read_end
    read_blocked k x e = in_row (blocked k x) e

    -- nothing is recorded: the slot is as it was
    pub read_known : (c : ℕ) (a : ReadAnswer) → a ≡ answer_at (version_at m.cells) c → sees c [] ≡ read_at m (slot_at m s) (slot_at m s).recs row → out a [] m ≡ read_rest
    unfolding read_end fold
    read_known c a q e = sym (rw (q, set-get_or m.slots s [])) ∙ in_row (sees c []) e

    pub read_fresh : (c : ℕ) (q : Rec) (a : ReadAnswer) (ss : List (List ℕ)) → a ≡ answer_at (version_at m.cells) c → ss ≡ set m.slots s (add_rec z q (words_at m s))
        → sees c (q ∷ []) ≡ read_at m (slot_at m s) (slot_at m s).recs row → out a [] (mem m.meta m.rows m.cells ss) ≡ read_rest
    unfolding read_end fold
    read_fresh c q a ss ea es e = rw (ea, es) (in_row (sees c (q ∷ [])) e)
