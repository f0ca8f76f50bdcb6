-- Upstream's clauses on `materialize` and `materialize_after_checked_history`, of every reachable store and every open reader: the lookup
-- over candidates, and the lookup over all rows. The predicate is equality with a key, 000's own `EqualsKey`.
use Prim.Native.Nat.{ℕ, ◌<◌, ◌≤◌, ◌+◌, zero, suc}
use Rattle.std.proofs.Math.Bool.{Bool, not}
use Rattle.std.specs.Prelude.{true, false, ◌&&◌, ◌||◌, List, [], ◌∷◌, ◌++◌, ◌≢◌, ◌↔◌, ◌≡◌, refl}
use Rattle.std.proofs.Common.{append-nil, sym, ◌∙◌, subst, arith, length-append, get_or-set_same, eq-eqb, ne_eqb, eqb-true}
use Rattle.std.proofs.Math.Option.{Option, none, some}
use Rattle.std.proofs.Math.Path.{ap}
use Rattle.std.proofs.Math.ListN.{length}
use Rattle.kinds.specs.Answer.{Answer}
use Rattle.words.specs.Sizes.{Sizes, Roomy}
use Rattle.words.specs.Lists.{has, keep, from}
use Rattle.words.specs.Slots.{Slot, Rec, add_recs, slot_of}
use Rattle.rules.specs.Memory.{Mem, words_at, slot_at, with_slot}
use Rattle.rules.specs.Outcome.{Outcome, out, Test, refuse, slot_tests, each}
use Rattle.rules.specs.Lookup.{is_key, Found, stopped, got, lookup_end, lookup_out, lookup_all_out, candidate_tests}
use Rattle.rules.specs.Run.{lookup, lookup_all, run, step}
use Rattle.rules.specs.History.{Log, log_of, logged, Val, who_in, rows_in, cells_in, own_in, value_in, key_answer, answer_of}
use Rattle.rules.specs.Reachable.{Reachable, All}
use Rattle.rules.specs.Listing.{Comes, its_list, its_trouble, rows_of, hit, is_none}
use Rattle.rules.proofs.Demand3 as demand
use Rattle.rules.proofs.Theory.Cases.{by_eq, by_bool, and_true, no_both}
use Rattle.rules.specs.Theory.SlotLaws.{with_recs}
use Rattle.rules.proofs.Theory.SlotLaws.{slot_recs, recs_length}
use Rattle.rules.specs.Theory.View.{view_of}
use Rattle.rules.proofs.Theory.View.{get_slots}
use Rattle.rules.specs.Theory.Effects.{slot_v}
use Rattle.rules.proofs.Theory.Inv.{all_map}
use Rattle.rules.proofs.Theory.Guard.{guard_case, passed_split}
use Rattle.rules.specs.Theory.Good.{Owner}
use Rattle.rules.proofs.Theory.Good.{owner}
use Rattle.rules.proofs.Theory.LookupCall.{Fine, found_fine, rows_below, all_rows_below}
use Rattle.rules.specs.Theory.Steps.{hist_of}
use Rattle.rules.proofs.Theory.Steps.{Sound}
use Rattle.rules.proofs.Theory.ReadLaw.{reachable_sound}
use Rattle.upstream.specs.Images.{Image, image_of, snapshot}
use Rattle.upstream.specs.Seen.{first_visible}
use Rattle.upstream.specs.ReadTerms.{ViewSame, Extends, Observed, equals_key, MatchesRow}
use Rattle.upstream.specs.Told.{told_by}
use Rattle.upstream.proofs.Told.{selected_value_is_history, every_record_is_observed}
use Rattle.upstream.specs.Materialize.{Granted}

has_keep : (p : ℕ → Bool) (r : ℕ) (l : List ℕ) → has r (keep p l) ≡ (has r l && p r)
unfolding has keep
has_keep p r [] = refl
has_keep p r (c ∷ l) = by_eq r c
    (λ e. rw e (by_bool (p c) (λ q. rw (q, eq-eqb c c refl)) (λ q. rw (q, eq-eqb c c refl) (has_keep p c l ∙ rw q (last_false (has c l))))))
    (λ ne. by_bool (p c) (λ q. rw (q, ne_eqb r c ne) (has_keep p r l)) (λ q. rw (q, ne_eqb r c ne) (has_keep p r l)))
  where
    last_false : (b : Bool) → (b && false) ≡ false
    last_false true = refl
    last_false false = refl

has_from : (r a k : ℕ) → has r (from a k) ≡ true → (a ≤ r) × (r < a + k)
unfolding has from
has_from r a zero e = absurd (no_both _ e refl)
has_from r a (suc k) e = by_eq r a (λ q. (omega arith, omega arith)) (λ q. let i = has_from r (suc a) k (rw (ne_eqb r a q) at e) in (omega (arith, i.0), omega (arith, i.1)))

from_has : (r a k : ℕ) → a ≤ r → r < a + k → has r (from a k) ≡ true
unfolding has from
from_has r a zero le lt = absurd (omega arith)
from_has r a (suc k) le lt = by_eq r a (λ q. rw (eq-eqb r a q)) (λ q. rw (ne_eqb r a q, from_has r (suc a) k (omega arith) (omega arith)))

below : (r k : ℕ) → has r (from 0 k) ≡ true → r < k
below r k e = omega (arith, (has_from r 0 k e).1)

-- a value of the history is the key exactly where upstream's selected value is
key_value : (key : ℕ) (o : Option ℕ) → (is_key key (key_answer o) ≡ true) ↔ (some o ≡ some (some key))
unfolding is_key
key_value key none = (λ e. absurd (no_both _ e refl), λ e. let y : ◌≡◌ {A = ℕ} 0 1 = cc in absurd (omega arith))
key_value key (some k) = (λ e. let q = eqb-true key k e in rw (← q), λ e. let q : key ≡ k = cc in eq-eqb key k q)

-- `EqualsKey::evaluate` is our test of an answer
pub equals_key_evaluate_is_our_test : (key : ℕ) (o : Option ℕ) → is_key key (key_answer o) ≡ equals_key key o
unfolding is_key
equals_key_evaluate_is_our_test key none = refl
equals_key_evaluate_is_our_test key (some k) = by_eq key k (λ e. rw (eq-eqb key k e, eq-eqb k key (sym e))) (λ e. rw (ne_eqb key k e, ne_eqb k key (λ q. e (sym q))))

key_told : (key : ℕ) (v : Option Val) → (is_key key (answer_of v) ≡ true) ↔ (told_by v ≡ some (some key))
unfolding is_key
key_told key none = (λ e. absurd (no_both _ e refl), λ e. let y : ◌≡◌ {A = ℕ} 0 1 = cc in absurd (omega arith))
key_told key (some v) = key_value key v.value

module _ {z : Sizes} (rm : Roomy z) (m : Mem z) (l : Log) (rc : Reachable m l) (s key room : ℕ) (op : who_in l s ≢ 0) where
  abbrev so : Sound m l
  so = reachable_sound rm m l rc

  abbrev t : Slot
  t = slot_at m s

  -- the row has the key by history exactly where it `matches_row`
  pub matches_row_is_history : (r : ℕ) → r < rows_in l → (hit m l s key r ≡ true) ↔ MatchesRow (image_of m) t key r
  unfolding hit
  matches_row_is_history r lt =
      let e = selected_value_is_history rm m l rc s op r lt in
      let k = key_told key (value_in l s r) in
      (λ h. record { row = rw so.rows lt; value = e ∙ k.0 h }, λ q. k.1 (sym e ∙ q.value))

  -- what a lookup lists among rows in range
  listed_exactly : (rows : List ℕ) → ((r : ℕ) → has r rows ≡ true → r < rows_in l) → (o : Outcome z Answer ℕ) → Comes m l s key room rows o → Granted o.answer
      → (r : ℕ) → (has r o.front ≡ true) ↔ ((has r rows ≡ true) × MatchesRow (image_of m) t key r)
  listed_exactly rows low _ (its_list o n a e) acc r = rw e (
    (λ h. let k = and_true (has r rows) (hit m l s key r) (sym (has_keep (hit m l s key) r rows) ∙ h) in (k.0, (matches_row_is_history r (low r k.0)).0 k.1)),
    λ h. has_keep (hit m l s key) r rows ∙ rw (h.0, (matches_row_is_history r (low r h.0)).1 h.1),
  )
  listed_exactly rows low _ (its_trouble f) acc r = absurd (acc _ _ refl)

  -- the rows that a lookup over candidates reads
  read_rows : (cands : List ℕ) (r : ℕ) → (has r (rows_of m l s cands) ≡ true) ↔ ((r < rows_in l) × ((has r cands || not (is_none (own_in l s r))) ≡ true))
  unfolding rows_of
  read_rows cands r =
      let p : ℕ → Bool = λ r. has r cands || not (is_none (own_in l s r)) in
      let e = has_keep p r (from 0 (rows_in l)) in
      (λ h. let k = and_true (has r (from 0 (rows_in l))) (p r) (sym e ∙ h) in (below r (rows_in l) k.0, k.1), λ h. e ∙ rw (from_has r 0 (rows_in l) (omega arith) (omega (arith, h.0)), h.1))

  -- `materialize`, Ok: the rows listed are exactly the candidates and own rows that match
  pub materialize_ok_lists_exactly_the_matching_rows : (cands : List ℕ) → All (λ r. r < rows_in l) cands → Granted (lookup_out m s (who_in l s) key cands room).answer
      → (r : ℕ) → (has r (lookup_out m s (who_in l s) key cands room).front ≡ true) ↔ (MatchesRow (image_of m) t key r × ((has r cands || not (is_none (own_in l s r))) ≡ true))
  materialize_ok_lists_exactly_the_matching_rows cands a acc r =
      let k = listed_exactly (rows_of m l s cands) (λ r h. ((read_rows cands r).0 h).0) (lookup_out m s (who_in l s) key cands room) (demand.lookup_lists_exactly_the_rows_with_the_key rm m l rc s key room op cands a) acc r in
      (λ h. let q = k.0 h in (q.1, ((read_rows cands r).0 q.0).1), λ h. k.1 ((read_rows cands r).1 (rw so.rows at h.0.row, h.1), h.0))

  -- so, where the candidates and own rows are all that match (upstream's premise, the caller's fact), exactly those that match
  pub materialize_ok_with_complete_candidates : (cands : List ℕ) → All (λ r. r < rows_in l) cands → Granted (lookup_out m s (who_in l s) key cands room).answer
      → ((r : ℕ) → MatchesRow (image_of m) t key r → (has r cands || not (is_none (own_in l s r))) ≡ true)
      → (r : ℕ) → (has r (lookup_out m s (who_in l s) key cands room).front ≡ true) ↔ MatchesRow (image_of m) t key r
  materialize_ok_with_complete_candidates cands a acc whole r =
      let k = materialize_ok_lists_exactly_the_matching_rows cands a acc r in
      (λ h. (k.0 h).0, λ h. k.1 (h, whole r h))

  -- the premise can be met: all rows, as candidates, are complete
  pub all_rows_are_complete_candidates : (r : ℕ) → MatchesRow (image_of m) t key r → (has r (from 0 (rows_in l)) || not (is_none (own_in l s r))) ≡ true
  all_rows_are_complete_candidates r q = let lt : r < rows_in l = rw so.rows at q.row in rw (from_has r 0 (rows_in l) (omega arith) (omega arith))

  -- `materialize_after_checked_history`, Ok: over all rows no premise is needed
  pub materialize_all_ok_lists_exactly_the_matching_rows : Granted (lookup_all_out m s (who_in l s) key room).answer
      → (r : ℕ) → (has r (lookup_all_out m s (who_in l s) key room).front ≡ true) ↔ MatchesRow (image_of m) t key r
  materialize_all_ok_lists_exactly_the_matching_rows acc r =
      let k = listed_exactly (from 0 (rows_in l)) (λ r h. below r (rows_in l) h) (lookup_all_out m s (who_in l s) key room) (demand.lookup_all_lists_exactly_the_rows_with_the_key rm m l rc s key room op) acc r in
      (λ h. (k.0 h).1, λ h. let lt : r < rows_in l = rw so.rows at h.row in k.1 (from_has r 0 (rows_in l) (omega arith) (omega arith), h))

  -- ---- what it leaves: the view of the transaction stays, its records are extended; under a refusal all stays
  pub record Left (x : Outcome z Answer ℕ) : Type 0 where
    pub same : ViewSame t (slot_at x.after s)
    pub recs : Extends t.recs (slot_at x.after s).recs
    pub image : image_of x.after ≡ image_of m

  refused_left : (k x : ℕ) → Left (refuse m k x)
  refused_left k x = record { same = record { id = refl; low = refl; top = refl; active = refl; writes = refl }; recs = record { added = []; is = sym (append-nil t.recs) }; image = refl }

  module _ (o : Owner m s (who_in l s)) where
    added_left : (new : List Rec) → length t.recs + length new ≤ z.reads → (front : List ℕ) (a : Answer) → Left (out a front (with_slot m s (add_recs z new (words_at m s))))
    added_left new le front a =
        let ok = so.shaped.slots.each s o.slot in
        let c = recs_length (words_at m s) ok in
        let e : slot_at (with_slot m s (add_recs z new (words_at m s))) s ≡ with_recs t new =
        ap (slot_of z) (get_or-set_same m.slots s (add_recs z new (words_at m s)) [] (omega (arith, o.slot, so.shaped.slots.count))) ∙ (slot_recs new (words_at m s) ok (omega arith)).0 in
        record {
          same = rw e (record { id = refl; low = refl; top = refl; active = refl; writes = refl });
          recs = record { added = new; is = ap (λ (x : Slot). x.recs) e };
          image = refl;
        }

    found_left : (late : List Test) (f : Found) → Fine (rows_in l) (cells_in l) m (hist_of l) so s (who_in l s) o key room f → Left (lookup_end m s late f)
    unfolding lookup_end
    found_left late (stopped k x) a = refused_left k x
    found_left late (got new rows) a = guard_case Left (refuse m) late _ refused_left
        (λ _. added_left new (rw (length-append (slot_v (view_of m) s).recs new, ap (λ (x : Slot). length x.recs) (get_slots z m.slots s o.slot)) at a.few) rows _)

  pub materialize_keeps_the_view_and_extends_the_records : (cands : List ℕ) → Left (lookup_out m s (who_in l s) key cands room)
  unfolding lookup_out
  materialize_keeps_the_view_and_extends_the_records cands = guard_case Left (refuse m) (slot_tests m s (who_in l s) ++ each (candidate_tests m) cands) _ refused_left
      (λ p.
      let o = owner m s (who_in l s) (passed_split (slot_tests m s (who_in l s)) (each (candidate_tests m) cands) p).0 in
      found_left o _ _ (found_fine (rows_in l) (cells_in l) m (hist_of l) so s (who_in l s) o key room _ (rows_below (rows_in l) (cells_in l) m (hist_of l) so t.writes cands)))

  pub materialize_all_keeps_the_view_and_extends_the_records : Left (lookup_all_out m s (who_in l s) key room)
  unfolding lookup_all_out
  materialize_all_keeps_the_view_and_extends_the_records = guard_case Left (refuse m) (slot_tests m s (who_in l s)) _ refused_left
      (λ p. let o = owner m s (who_in l s) p in found_left o _ _ (found_fine (rows_in l) (cells_in l) m (hist_of l) so s (who_in l s) o key room _ (all_rows_below (rows_in l) (cells_in l) m (hist_of l) so)))

  -- every record after is an `observed_record` of the image before
  observed_after : (x : Outcome z Answer ℕ) → Left x → All (Observed (image_of x.after) (slot_at x.after s)) (slot_at x.after s).recs → All (Observed (image_of m) t) (slot_at x.after s).recs
  observed_after x k a = all_map _ _ (slot_at x.after s).recs
      (λ q o.
      let v : snapshot (slot_at x.after s) ≡ snapshot t = λ i. record { txid = sym k.same.id i; xmin = sym k.same.low i; xmax = sym k.same.top i; active = sym k.same.active i } in
      let o' : Observed (image_of m) (slot_at x.after s) q = subst (λ (s' : Image). Observed s' (slot_at x.after s) q) k.image o in
      record { row = o'.row; cell = o'.cell; first = ap (first_visible (image_of m) ((image_of m).heads q.row)) (sym v) ∙ o'.first; xmin = o'.xmin })
      a

  pub materialize_records_have_provenance : (cands : List ℕ) → All (Observed (image_of m) t) (slot_at (lookup_out m s (who_in l s) key cands room).after s).recs
  unfolding run step log_of logged
  materialize_records_have_provenance cands =
      observed_after (lookup_out m s (who_in l s) key cands room) (materialize_keeps_the_view_and_extends_the_records cands)
      (every_record_is_observed rm (lookup_out m s (who_in l s) key cands room).after l (demand.calls_lead_to_reachable_stores m l rc (lookup s (who_in l s) key cands room ∷ [])) s op)

  pub materialize_all_records_have_provenance : All (Observed (image_of m) t) (slot_at (lookup_all_out m s (who_in l s) key room).after s).recs
  unfolding run step log_of logged
  materialize_all_records_have_provenance =
      observed_after (lookup_all_out m s (who_in l s) key room) materialize_all_keeps_the_view_and_extends_the_records
      (every_record_is_observed rm (lookup_all_out m s (who_in l s) key room).after l (demand.calls_lead_to_reachable_stores m l rc (lookup_all s (who_in l s) key room ∷ [])) s op)
