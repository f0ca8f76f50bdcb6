-- The cells of an open write set are apart, in every reachable store: what the rules ask of a write set before they say, cell by cell, what
-- its commit leaves (CommitPublishes.antt). So that holds of every open transaction, whatever the number of its writes.
use Rattle.std.specs.Prelude.{ℕ, suc, ◌≤◌, List, [], ◌∷◌, ◌≡◌, ◌≢◌}
use Rattle.std.proofs.Math.Path.{refl, subst}
use Rattle.std.proofs.Common.{sym, ap, ◌∙◌, inl, inr, arith, eq-eqb, ne_eqb}
use Rattle.words.specs.Sizes.{Sizes, Roomy}
use Rattle.words.specs.Slots.{Slot, Write}
use Rattle.rules.specs.Memory.{Mem, head_at, slot_at}
use Rattle.rules.specs.Abort.{news}
use Rattle.rules.specs.Lookup.{own_rows}
use Rattle.rules.specs.History.{Log, who_in, cells_in}
use Rattle.rules.specs.Reachable.{Reachable, chain_at, times, LockedFor}
use Rattle.rules.specs.Exactly.{In}
use Rattle.rules.proofs.Members.{in_all}
use Rattle.rules.specs.Published.{From, Apart}
use Rattle.rules.proofs.Theory.Cases.{by_eq}
use Rattle.rules.specs.Theory.View.{view_of, empty_slot}
use Rattle.rules.proofs.Theory.View.{get_slots}
use Rattle.rules.specs.Theory.Effects.{slot_v}
use Rattle.rules.specs.Theory.Counting.{cnt}
use Rattle.rules.proofs.Theory.Counting.{sum_at}
use Rattle.rules.specs.Theory.Inv.{in_slot}
use Rattle.rules.proofs.Theory.Places.{inb_le}
use Rattle.rules.proofs.Theory.OnePlace.{times_is}
use Rattle.rules.proofs.Theory.ReadLaw.{reachable_sound}
use Rattle.rules.proofs.Demand3.{one_entry_a_row, base_is_head_and_locked}
use Rattle.upstream.proofs.Safe.{in_times, all_at}
use Rattle.upstream.proofs.PreparedWrites.{new_in, owns, entry_carries_its_writer, new_is_a_cell, new_is_unchained, head_in_chain}
use Rattle.upstream.proofs.SharedTails.{no_tail_is_shared}

-- a first member that stands once stands nowhere behind
once_behind : (x : ℕ) (l : List ℕ) → times x (x ∷ l) ≤ 1 → (y : ℕ) → In y l → x ≢ y
unfolding times
once_behind x l h y i e =
    let k : suc (times x l) ≤ 1 = rw (eq-eqb x x refl) at h in
    let z : times x l ≡ 0 = omega arith in
    in_times x l (subst (λ (w : ℕ). In w l) (sym e) i) z

fewer : (x y : ℕ) (l : List ℕ) → times x (y ∷ l) ≤ 1 → times x l ≤ 1
unfolding times
fewer x y l h = by_eq x y (λ e. let k : suc (times x l) ≤ 1 = rw (eq-eqb x y e) at h in omega arith) (λ n. rw (ne_eqb x y n) at h)

row_in : (ws : List Write) (w : Write) → In w ws → In w.row (own_rows ws)
row_in [] w i = i
row_in (q ∷ ws) w (inl e) = inl (ap (λ (x : Write). x.row) e)
row_in (q ∷ ws) w (inr i) = inr (row_in ws w i)

-- entries of distinct rows and distinct new cells, whose bases are no new cells and, of distinct rows, no common ones
apart_of : (ws : List Write) → ((c : ℕ) → times c (news ws) ≤ 1) → ((r : ℕ) → times r (own_rows ws) ≤ 1)
    → ((a b : Write) → In a ws → In b ws → a.base ≢ b.new)
    → ((a b : Write) → In a ws → In b ws → a.row ≢ b.row → a.base ≢ 0 → a.base ≢ b.base) → Apart ws
apart_of [] n r cross bases = tt
apart_of (q ∷ ws) n r cross bases = (
  cross q q (inl refl) (inl refl),
  in_all (From q) ws (λ y i. record {
    news = once_behind q.new (news ws) (n q.new) y.new (new_in ws y i);
    new_base = cross q y (inl refl) (inr i);
    base_new = cross y q (inr i) (inl refl);
    bases = bases q y (inl refl) (inr i) (once_behind q.row (own_rows ws) (r q.row) y.row (row_in ws y i));
  }),
  apart_of ws (λ c. fewer c q.new (news ws) (n c)) (λ k. fewer k q.row (own_rows ws) (r k)) (λ a b i j. cross a b (inr i) (inr j)) (λ a b i j. bases a b (inr i) (inr j)),
)

module _ {z : Sizes} (rm : Roomy z) (m : Mem z) (l : Log) (rc : Reachable m l) (s : ℕ) (op : who_in l s ≢ 0) where
  abbrev ws : List Write
  ws = (slot_at m s).writes

  new_once : (w : Write) → In w ws → (c : ℕ) → times c (news ws) ≤ 1
  unfolding cnt
  new_once w i c =
      let so = reachable_sound rm m l rc in
      let e : slot_v (view_of m) s ≡ slot_at m s = get_slots z m.slots s (owns rm m l rc s op w i).slot in
      let a : in_slot c (slot_v (view_of m) s) ≤ _ = sum_at (in_slot c) (view_of m).slots s empty_slot refl in
      let b = so.inv.once c in
      let d = inb_le (suc (cells_in l)) c in
      let f : cnt c (news ws) ≤ 1 = subst (λ (t : Slot). cnt c (news t.writes) ≤ 1) e (omega arith) in
      rw (times_is c (news ws)) f

  -- the base of an entry, where it has one, is its row's head
  headed : (w : Write) → In w ws → w.base ≢ 0 → head_at m w.row ≡ w.base
  headed w i n = (all_at (λ w. w.base ≢ 0 → LockedFor m (who_in l s) w) ws (base_is_head_and_locked rm m l rc s op) w i n).head

  base_chained : (w : Write) → In w ws → w.base ≢ 0 → In w.base (chain_at m w.row).cells
  base_chained w i n =
      let h = headed w i n in
      subst (λ (c : ℕ). In c (chain_at m w.row).cells) h (head_in_chain rm m l rc s op w i w.row (entry_carries_its_writer rm m l rc s op w i).0 (λ e. n (sym h ∙ e)))

  pub open_writes_are_apart : Apart ws
  open_writes_are_apart = on ws refl
    where
      crossed : (a b : Write) → In a ws → In b ws → a.base ≢ b.new
      crossed a b i j e = by_eq a.base 0
          (λ z. omega (arith, (new_is_a_cell rm m l rc s op b j).low, e, z))
          (λ n. new_is_unchained rm m l rc s op b j a.row (entry_carries_its_writer rm m l rc s op a i).0 (subst (λ (c : ℕ). In c (chain_at m a.row).cells) e (base_chained a i n)))

      differ : (a b : Write) → In a ws → In b ws → a.row ≢ b.row → a.base ≢ 0 → a.base ≢ b.base
      differ a b i j rows n e =
          no_tail_is_shared rm m l rc a.row b.row a.base (entry_carries_its_writer rm m l rc s op a i).0 (entry_carries_its_writer rm m l rc s op b j).0 rows (base_chained a i n)
          (subst (λ (c : ℕ). In c (chain_at m b.row).cells) (sym e) (base_chained b j (λ z. n (e ∙ z))))

      on : (l : List Write) → l ≡ ws → Apart ws
      on [] e = subst Apart e tt
      on (q ∷ k) e = apart_of ws (new_once q (subst (In q) e (inl refl))) (λ r. one_entry_a_row rm m l rc s r op) crossed differ
