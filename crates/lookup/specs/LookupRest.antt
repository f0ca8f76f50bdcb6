-- What is left of a lookup once the slot is tested, and its ways out.
use Rattle.std.specs.Prelude.{ℕ, List, [], ◌≡◌, length}
use Rattle.std.proofs.Math.Path.{refl, sym}
use Rattle.std.proofs.Common.{subst}
use Rattle.std.proofs.lemmas.List.Edits.{sets}
use Rattle.kinds.specs.Answer.{Answer, Listed}
use Rattle.kinds.specs.Verdict.{Verdict}
use Rattle.words.specs.Sizes.{Sizes, base}
use Rattle.words.specs.Lists.{from}
use Rattle.words.specs.Slots.{Rec, add_recs}
use Rattle.rules.specs.Memory.{Mem, size_r, words_at, slot_at, with_slot}
use Rattle.rules.specs.Outcome.{Outcome, out, Test, guard, each, refuse, slot_tests}
use Rattle.rules.specs.Verdicts.{verdict}
use Rattle.rules.proofs.Verdicts.{guard_append, guard_fine, guard_refused}
use Rattle.rules.specs.Lookup.{Found, stopped, got, find, lookup_end, candidate_tests, own_row_tests, own_rows, rows_to_read, lookup_out, lookup_all_out}
use Rattle.finds.specs.Sweep.{marked_rows}

-- the call answered a and left memory m; the caller's buffer was `before` and is `after`: the outcome's front, the rest untouched
pub record Filled {z : Sizes} (o : Outcome z Answer ℕ) (a : Answer) (m : Mem z) (before after : List ℕ) : Type 0 where
  pub outcome : out a o.front m ≡ o
  pub buffer : after ≡ sets before 0 o.front

module _ {z : Sizes} (m : Mem z) (s key : ℕ) where
  -- the candidates are below R: they and the own rows are read, then an own row at or above R is damage
  abbrev pub rows_out : List ℕ → ℕ → Outcome z Answer ℕ
  rows_out cands room =
      lookup_end m s (each (own_row_tests m) (own_rows (slot_at m s).writes)) (find m (slot_at m s) key room (rows_to_read m (slot_at m s).writes cands))

  unfoldable pub lookup_rest : List ℕ → ℕ → Outcome z Answer ℕ
  lookup_rest cands room = guard (refuse m) (each (candidate_tests m) cands) (rows_out cands room)

  unfoldable pub lookup_all_rest : ℕ → Outcome z Answer ℕ
  lookup_all_rest room = lookup_end m s [] (find m (slot_at m s) key room (from 0 (size_r m)))

  pub lookup_split : (id : ℕ) (cands : List ℕ) (room : ℕ) → lookup_out m s id key cands room ≡ guard (refuse m) (slot_tests m s id) (lookup_rest cands room)
  unfolding lookup_out lookup_rest
  lookup_split id cands room = guard_append (refuse m) (slot_tests m s id) (each (candidate_tests m) cands) _

  pub lookup_all_split : (id room : ℕ) → lookup_all_out m s id key room ≡ guard (refuse m) (slot_tests m s id) (lookup_all_rest room)
  unfolding lookup_all_out lookup_all_rest
  lookup_all_split id room = refl

-- ---- the late tests by their verdict

unfoldable pub end_by : {z : Sizes} → Mem z → ℕ → Verdict → Found → Outcome z Answer ℕ
end_by m s v (stopped k x) = refuse m k x
end_by m s (Verdict.Refused k x) (got recs rows) = refuse m k x
end_by {z} m s Verdict.Fine (got recs rows) = out (Listed (length rows)) rows (with_slot m s (add_recs z recs (words_at m s)))

-- the marked rows read, then the late tests
abbrev pub search_out : Mem base → ℕ → ℕ → List ℕ → Verdict → ℕ → Outcome base Answer ℕ
search_out m s key marks late room = end_by m s late (find m (slot_at m s) key room (marked_rows marks 0 (size_r m)))

module _ {z : Sizes} (m : Mem z) (s : ℕ) (late : List Test) where
  by_verdict : (recs : List Rec) (rows : List ℕ) (v : Verdict) → verdict late ≡ v → end_by m s v (got recs rows) ≡ lookup_end m s late (got recs rows)
  unfolding end_by lookup_end
  by_verdict recs rows (Verdict.Refused k x) e = sym (guard_refused (refuse m) late _ k x e)
  by_verdict recs rows Verdict.Fine e = sym (guard_fine (refuse m) late _ e)

  pub end_by_lem : (fd : Found) → end_by m s (verdict late) fd ≡ lookup_end m s late fd
  unfolding end_by lookup_end
  end_by_lem (stopped k x) = refl
  end_by_lem (got recs rows) = by_verdict recs rows (verdict late) refl

-- ---- the ways out

-- refused: nothing is changed
pub filled_refused : {z : Sizes} (m : Mem z) (o : Outcome z Answer ℕ) (k x : ℕ) (b : List ℕ) → o ≡ refuse m k x → Filled o (Answer.Refused k x) m b b
filled_refused m o k x b e = rw e (record { outcome = refl; buffer = refl })

-- the same outcome under another name
pub filled_is : {z : Sizes} (o p : Outcome z Answer ℕ) (a : Answer) (m : Mem z) (before after : List ℕ) → Filled o a m before after → o ≡ p → Filled p a m before after
filled_is o p a m before after f e = subst (λ (p : Outcome _ Answer ℕ). Filled p a m before after) e f

module _ {z : Sizes} (m : Mem z) (s : ℕ) (v : Verdict) (found : Found) where
  pub end_stopped : (k x : ℕ) (b : List ℕ) → found ≡ stopped k x → Filled (end_by m s v found) (Answer.Refused k x) m b b
  unfolding end_by
  end_stopped k x b e = filled_refused m (end_by m s v found) k x b (rw e)

  module _ (recs : List Rec) (rows : List ℕ) (e : found ≡ got recs rows) where
    pub end_late : (k x : ℕ) (b : List ℕ) → v ≡ Verdict.Refused k x → Filled (end_by m s v found) (Answer.Refused k x) m b b
    unfolding end_by
    end_late k x b h = filled_refused m (end_by m s v found) k x b (rw (e, h))

    -- listed: the records are saved, and the rows stand at the buffer's front
    pub end_listed : (k : ℕ) (u : List ℕ) (before after : List ℕ) → v ≡ Verdict.Fine → length rows ≡ k → u ≡ add_recs z recs (words_at m s) → after ≡ sets before 0 rows
        → Filled (end_by m s v found) (Listed k) (with_slot m s u) before after
    unfolding end_by
    end_listed k u before after h n es ea =
        let q : end_by m s v found ≡ out (Listed (length rows)) rows (with_slot m s (add_recs z recs (words_at m s))) = rw (e, h) in
        rw (q, ← n, es) (record { outcome = refl; buffer = ea })
