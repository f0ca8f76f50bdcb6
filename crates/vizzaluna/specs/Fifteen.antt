-- The number that a host is given tells a refusal from an accepted call: every refusal of every call has one of the numbers 1 to 15, so 0 is
-- told of accepted calls alone. And no refusal of `create` and `begin` is about anything, so those two need no out-parameter for it.
use Rattle.std.specs.Prelude.{ℕ, Bool, true, ◌&&◌, List, [], ◌∷◌, ◌++◌, ◌≡◌, refl, ◌≢◌, leb}
use Rattle.std.proofs.lemmas.Bool.{false≢true}
use Rattle.std.proofs.Common.{sym, ap, ◌∙◌, inl, inr}
use Rattle.words.specs.Sizes.{Sizes}
use Rattle.rules.proofs.Theory.Cases.{by_bool}
use Rattle.rules.specs.Memory.{Mem, size_r, slot_at}
use Rattle.words.specs.Slots.{Slot, Rec}
use Rattle.words.specs.Lists.{from}
use Rattle.rules.specs.Lookup.{own_rows, rows_to_read}
use Rattle.rules.specs.Run.{Call, create, begin, read, write, commit, abort, vacuum, lookup, lookup_all, step}
use Rattle.rules.specs.Exactly.{Line, Refuses, Lacks, each_of, under}
use Rattle.rules.proofs.Exactly.{lacks_append, lacks_each, lacks_under, lacks_refuses}
use Rattle.rules.specs.EveryRefusal.{RefusedAs}
use Rattle.rules.proofs.EveryRefusal.{table_of, refused_exactly_by_the_table}
use Rattle.rules.proofs.SharedLines.{slot_lines}
use Rattle.rules.proofs.CommitRefuses.{record_lines, base_lines, new_lines, valid_lines}
use Rattle.rules.proofs.AbortRefuses.{undo_lines}
use Rattle.rules.proofs.LookupRefuses.{find_lines, candidate_lines, own_row_lines}

-- 1 to 15
abbrev pub is_refusal : ℕ → Bool
is_refusal k = leb 1 k && leb k 15

module _ {z : Sizes} (m : Mem z) (k : ℕ) (far : (j : ℕ) → is_refusal j ≡ true → k ≢ j) where
  after_slot : (s id : ℕ) (l : List Line) → Lacks k l → Lacks k (slot_lines m s id ++ l)
  after_slot s id l h = (far _ refl, (far _ refl, (far _ refl, (far _ refl, h))))

  find_lacks : (t : Slot) (key room : ℕ) (l : List ℕ) (recs : List Rec) (rows : List ℕ) → Lacks k (find_lines m t key room recs rows l)
  find_lacks t key room [] recs rows = tt
  find_lacks t key room (r ∷ l) recs rows = (far _ refl, (far _ refl, (far _ refl, (far _ refl, (far _ refl, find_lacks t key room l _ _)))))

  valid_lacks : (t : Slot) → Lacks k (valid_lines m t)
  valid_lacks t =
      lacks_append k (each_of (record_lines m t) t.recs ++ each_of (base_lines m) t.writes) (each_of (new_lines m) t.writes)
      (lacks_append k (each_of (record_lines m t) t.recs) (each_of (base_lines m) t.writes)
      (lacks_each k (record_lines m t) (λ q. (far _ refl, (far _ refl, tt))) t.recs)
      (lacks_each k (base_lines m) (λ w. (far _ refl, (far _ refl, (far _ refl, (far _ refl, tt))))) t.writes))
      (lacks_each k (new_lines m) (λ w. (far _ refl, tt)) t.writes)

  -- no line of a call's table has the number k
  table_lacks : (c : Call) → Lacks k (table_of c m)
  table_lacks (create n r) = (far _ refl, tt)
  table_lacks begin = (far _ refl, (far _ refl, (far _ refl, tt)))
  table_lacks (read s id row) = (far _ refl, (far _ refl, (far _ refl, (far _ refl, (far _ refl, (far _ refl, (far _ refl, (far _ refl, (far _ refl, tt)))))))))
  table_lacks (write s id row v) = (
    far _ refl,
    (far _ refl, (far _ refl, (far _ refl, (far _ refl, (far _ refl, (far _ refl, (far _ refl, (far _ refl, (far _ refl, (far _ refl, (far _ refl, tt))))))))))),
  )
  table_lacks (commit s id) = after_slot s id (under ((slot_at m s).writes ≢ []) (valid_lines m (slot_at m s))) (lacks_under k ((slot_at m s).writes ≢ []) (valid_lines m (slot_at m s)) (valid_lacks (slot_at m s)))
  table_lacks (abort s id) = after_slot s id (each_of (undo_lines m) (slot_at m s).writes) (lacks_each k (undo_lines m) (λ w. (far _ refl, (far _ refl, tt))) (slot_at m s).writes)
  table_lacks (vacuum row request room) = (far _ refl, (far _ refl, (far _ refl, (far _ refl, tt))))
  table_lacks (lookup s id key cands room) =
      let rows = find_lines m (slot_at m s) key room [] [] (rows_to_read m (slot_at m s).writes cands) in
      let late = each_of (own_row_lines m) (own_rows (slot_at m s).writes) in
      after_slot s id (each_of (candidate_lines m) cands ++ (rows ++ late))
      (lacks_append k (each_of (candidate_lines m) cands) (rows ++ late) (lacks_each k (candidate_lines m) (λ r. (far _ refl, tt)) cands)
      (lacks_append k rows late (find_lacks (slot_at m s) key room (rows_to_read m (slot_at m s).writes cands) [] []) (lacks_each k (own_row_lines m) (λ r. (far _ refl, tt)) (own_rows (slot_at m s).writes))))
  table_lacks (lookup_all s id key room) =
      after_slot s id (find_lines m (slot_at m s) key room [] [] (from 0 (size_r m)) ++ [])
      (lacks_append k (find_lines m (slot_at m s) key room [] [] (from 0 (size_r m))) [] (find_lacks (slot_at m s) key room (from 0 (size_r m)) [] []) tt)

  never : (c : Call) (x : ℕ) → RefusedAs (step c m).reply k x → ⊥
  never c x h = lacks_refuses k x (table_of c m) (table_lacks c) ((refused_exactly_by_the_table c m k x).0 h)

module _ {z : Sizes} (c : Call) (m : Mem z) (x : ℕ) where
  -- a refused call's number is one of paper 01's fifteen
  pub a_refusal_has_one_of_the_fifteen_numbers : (k : ℕ) → RefusedAs (step c m).reply k x → is_refusal k ≡ true
  a_refusal_has_one_of_the_fifteen_numbers k h = by_bool (is_refusal k) (λ e. e) (λ e. absurd (never m k (λ j p q. false≢true (sym e ∙ ap is_refusal q ∙ p)) c x h))

  -- 0 is told of accepted calls alone
  pub no_call_is_refused_with_0 : RefusedAs (step c m).reply 0 x → ⊥
  no_call_is_refused_with_0 h = false≢true (a_refusal_has_one_of_the_fifteen_numbers 0 h)

-- ---- a refusal that is about nothing

pub a_refused_create_is_about_nothing : {z : Sizes} (m : Mem z) (n r k x : ℕ) → RefusedAs (step (create n r) m).reply k x → x ≡ 0
a_refused_create_is_about_nothing m n r k x h = told ((refused_exactly_by_the_table (create n r) m k x).0 h)
  where
    told : Refuses (table_of (create n r) m) k x → x ≡ 0
    told (inl q) = q.2
    told (inr q) = absurd q.1

pub a_refused_begin_is_about_nothing : {z : Sizes} (m : Mem z) (k x : ℕ) → RefusedAs (step begin m).reply k x → x ≡ 0
a_refused_begin_is_about_nothing m k x h = told ((refused_exactly_by_the_table begin m k x).0 h)
  where
    told : Refuses (table_of begin m) k x → x ≡ 0
    told (inl q) = q.2
    told (inr (_, inl q)) = q.2
    told (inr (_, inr (_, inl q))) = q.2
    told (inr (_, inr (_, inr q))) = absurd q.1
