-- The two lookups keep what holds: every record they add is right. The history stays.
use Rattle.std.specs.Prelude.{Bool, ◌||◌, ℕ, ◌+◌, ◌≤◌, ◌<◌, zero, suc, leb, length}
use mathlib.Core.List.{List, [], ◌∷◌, ◌++◌, append_assoc, append-nil}
use Rattle.std.proofs.Common.{subst, sym, arith}
use Rattle.kinds.specs.Answer.{Answer}
use Rattle.words.specs.Sizes.{Sizes}
use Rattle.words.specs.Lists.{from, fold, keep, has}
use Rattle.kinds.specs.Versions.{version_at}
use Rattle.words.specs.Slots.{Slot, Rec, Write}
use Rattle.rules.specs.Memory.{Mem, head_at, slot_at, size_r}
use Rattle.rules.specs.Outcome.{Test, Outcome, refuse, slot_tests, each}
use Rattle.rules.specs.Read.{Sight, blocked, sees, answer_at, read_row}
use Rattle.rules.specs.Lookup.{Found, stopped, got, list_row, is_key, find_row, find, lookup_end, rows_to_read, own_rows, lookup_all_out, lookup_out, candidate_tests}
use Rattle.rules.specs.Reachable.{All}
use Rattle.rules.proofs.Theory.Cases.{by_bool}
use Rattle.rules.specs.Theory.View.{view_of}
use Rattle.rules.proofs.Theory.View.{get_slots}
use Rattle.rules.specs.Theory.Effects.{slot_v}
use Rattle.rules.specs.Theory.Inv.{Hist}
use Rattle.rules.specs.Theory.Recording.{Rightly, Noted}
use Rattle.rules.proofs.Theory.Recording.{noted}
use Rattle.rules.proofs.Theory.Guard.{guard_case, passed_split}
use Rattle.rules.specs.Theory.Good.{Owner}
use Rattle.rules.proofs.Theory.Good.{Good, view_open, owner}
use Rattle.rules.proofs.Theory.ReadCall.{recs_good, recs_right}

pub from_below : (R a k : ℕ) → a + k ≤ R → All (λ r. r < R) (from a k)
unfolding from
from_below R a zero h = tt
from_below R a (suc k) h = (omega arith, from_below R (suc a) k (omega arith))

pub keep_all : {A : Type 0} (P : A → Type 0) (p : A → Bool) (l : List A) → All P l → All P (keep p l)
unfolding keep
keep_all P p [] a = tt
keep_all P p (x ∷ l) a = by_bool (p x) (λ e. rw e (a.0, keep_all P p l a.1)) (λ e. rw e (keep_all P p l a.1))

module _ {z : Sizes} (R N : ℕ) (m : Mem z) (h : Hist) (gd : Good R N m h) (s id : ℕ) (o : Owner m s id) (key room : ℕ) where
  abbrev t : Slot
  t = slot_v (view_of m) s

  abbrev pub Fine : Found → Type 0
  Fine (stopped k x) = Unit {0}
  Fine (got recs rows) = Rightly z (view_of m) gd.ghost s (t.recs ++ recs)

  list_fine : (r : ℕ) (recs : List Rec) (rows : List ℕ) (g : Sight) → Noted z (view_of m) gd.ghost s (t.recs ++ recs) g → Fine (list_row m t key room r recs rows g)
  unfolding list_row
  list_fine r recs rows (blocked k x) a = tt
  list_fine r recs rows (sees c new) a =
      let ok : Rightly z (view_of m) gd.ghost s (t.recs ++ (recs ++ new)) = rw append_assoc at a in
      by_bool (is_key key (answer_at (version_at m.cells) c))
      (λ e. rw e (by_bool (leb room (length rows)) (λ f. rw f tt) (λ f. rw f ok)))
      (λ e. rw e ok)

  pub row_fine : (r : ℕ) → r < R → (f : Found) → Fine f → Fine (find_row m t key room r f)
  unfolding find_row
  row_fine r lt (stopped k x) a = tt
  row_fine r lt (got recs rows) a =
      list_fine r recs rows _ (subst (λ (k : ℕ). Noted z (view_of m) gd.ghost s (t.recs ++ recs) (read_row z k (version_at m.cells) (head_at m r) t (t.recs ++ recs) r)) (sym gd.cells)
      (noted z R N (view_of m) gd.ghost h s r gd.inv (view_open m s id o) lt (t.recs ++ recs) a))

  find_fine : (l : List ℕ) → All (λ r. r < R) l → (f : Found) → Fine f → Fine (fold (find_row m t key room) l f)
  unfolding fold
  find_fine [] a f b = b
  find_fine (r ∷ l) a f b = find_fine l a.1 (find_row m t key room r f) (row_fine r a.0 f b)

  end_good : (late : List Test) (f : Found) → Fine f → Good R N (lookup_end m s late f).after h
  unfolding lookup_end
  end_good late (stopped k x) a = gd
  end_good late (got l rows) a = guard_case (λ (x : Outcome z Answer ℕ). Good R N x.after h) (refuse m) late _ (λ k x. gd) (λ _. recs_good R N m h gd s id o l a)

  pub found_fine : (l : List ℕ) → All (λ r. r < R) l → Fine (find m (slot_at m s) key room l)
  found_fine l a =
      subst (λ (u : Slot). Fine (find m u key room l)) (get_slots z m.slots s o.slot) (find_fine l a (got [] []) (rw (append-nil t.recs) (recs_right R N m h gd s id o)))

  pub lookup_now : (late : List Test) (l : List ℕ) → All (λ r. r < R) l → Good R N (lookup_end m s late (find m (slot_at m s) key room l)).after h
  lookup_now late l a = end_good late _ (found_fine l a)

pub all_rows_below : {z : Sizes} (R N : ℕ) (m : Mem z) (h : Hist) → Good R N m h → All (λ r. r < R) (from 0 (size_r m))
all_rows_below R N m h gd = from_below R 0 (size_r m) (omega (arith, gd.rows))

pub rows_below : {z : Sizes} (R N : ℕ) (m : Mem z) (h : Hist) → Good R N m h → (ws : List Write) (cands : List ℕ) → All (λ r. r < R) (rows_to_read m ws cands)
unfolding rows_to_read
rows_below R N m h gd ws cands = keep_all _ (λ r. has r cands || has r (own_rows ws)) (from 0 (size_r m)) (all_rows_below R N m h gd)

pub lookup_all_good : {z : Sizes} (R N : ℕ) (m : Mem z) (h : Hist) → Good R N m h → (s id key room : ℕ) → Good R N (lookup_all_out m s id key room).after h
unfolding lookup_all_out
lookup_all_good {z} R N m h gd s id key room = guard_case (λ (x : Outcome z Answer ℕ). Good R N x.after h) (refuse m) (slot_tests m s id) _ (λ k x. gd)
    (λ p. lookup_now R N m h gd s id (owner m s id p) key room [] (from 0 (size_r m)) (all_rows_below R N m h gd))

pub lookup_good : {z : Sizes} (R N : ℕ) (m : Mem z) (h : Hist) → Good R N m h → (s id key : ℕ) (cands : List ℕ) (room : ℕ) → Good R N (lookup_out m s id key cands room).after h
unfolding lookup_out
lookup_good {z} R N m h gd s id key cands room = guard_case (λ (x : Outcome z Answer ℕ). Good R N x.after h) (refuse m) (slot_tests m s id ++ each (candidate_tests m) cands) _ (λ k x. gd)
    (λ p. lookup_now R N m h gd s id (owner m s id (passed_split (slot_tests m s id) (each (candidate_tests m) cands) p).0) key room _ _ (rows_below R N m h gd (slot_at m s).writes cands))
