-- "the rows with that key are listed ascending": which rows an accepted lookup lists. What a row's read finds does not hang on the
-- records, so the rows listed are those read whose found version has the key, in the order in which they are read.
use Rattle.std.specs.Prelude.{ℕ, List, [], ◌∷◌, ◌++◌, ◌≡◌, refl, length}
use Rattle.std.proofs.Common.{append-nil, append_assoc, sym, ap, ◌∙◌, subst, inl, inr}
use Rattle.std.proofs.Math.Option.{Option, none, some}
use Rattle.kinds.specs.Answer.{Answer, Listed}
use Rattle.words.specs.Sizes.{Sizes}
use Rattle.words.specs.Lists.{from}
use Rattle.kinds.specs.Versions.{version_at}
use Rattle.words.specs.Slots.{Write, Rec}
use Rattle.rules.specs.Memory.{Mem, size_r, size_n, head_at, slot_at}
use Rattle.rules.specs.Chain.{Look, found, nothing, too_long, harmed, look}
use Rattle.rules.specs.Outcome.{Outcome}
use Rattle.rules.specs.Read.{own}
use Rattle.rules.specs.Lookup.{rows_to_read, lookup_out, lookup_all_out}
use Rattle.rules.specs.Exactly.{NoneOf}
use Rattle.rules.specs.Terms.{LastEntry, NoEntry}
use Rattle.rules.proofs.Terms.{is_own}
use Rattle.rules.proofs.Along.{FirstSeen, NoneSeen, is_look}
use Rattle.rules.proofs.ReadRefuses.{own_write, no_version, again, newly}
use Rattle.rules.specs.VacuumRefuses.{Picks}
use Rattle.rules.specs.LookupRefuses.{HoldsKey}
use Rattle.rules.proofs.LookupRefuses.{lookup_lines, lookup_all_lines}
use Rattle.rules.specs.LookupRows.{Ascending}
use Rattle.rules.proofs.LookupRows.{picks_ascending}
use Rattle.rules.proofs.OneOutcome.{RowReads, Lists, listed, of_rows, of_all_rows, lookup_meets, lookup_all_meets}

module _ {z : Sizes} (m : Mem z) (s : ℕ) where
  -- what the slot's read of row r finds: its own write; or the first visible version; or none, cell 0
  pub data Finds (r : ℕ) : ℕ → Type 0 where
    its_own : (w : Write) → LastEntry (slot_at m s).writes r w → Finds r w.new
    visible : (c : ℕ) → NoEntry (slot_at m s).writes r → FirstSeen (size_n m) (version_at m.cells) (slot_at m s) z.walk (head_at m r) c → Finds r c
    none_seen : NoEntry (slot_at m s).writes r → NoneSeen (size_n m) (version_at m.cells) (slot_at m s) z.walk (head_at m r) → Finds r 0

  abbrev found_of : Option Write → Look → ℕ
  found_of (some w) a = w.new
  found_of none (found c) = c
  found_of none nothing = 0
  found_of none too_long = 0
  found_of none harmed = 0

  finds_is : (r c : ℕ) → Finds r c → found_of (own (slot_at m s).writes r) (look (size_n m) (slot_at m s) (version_at m.cells) z.walk (head_at m r)) ≡ c
  finds_is r c (its_own w i) = rw (is_own (slot_at m s).writes r (some w) i)
  finds_is r c (visible d i v) = rw (is_own (slot_at m s).writes r none i, is_look (size_n m) (version_at m.cells) (slot_at m s) z.walk (head_at m r) (found d) v)
  finds_is r c (none_seen i v) = rw (is_own (slot_at m s).writes r none i, is_look (size_n m) (version_at m.cells) (slot_at m s) z.walk (head_at m r) nothing v)

  module _ (key room : ℕ) where
    -- the row, as this slot reads it, has the key
    abbrev pub HasKey : ℕ → Type 0
    HasKey r = (c : ℕ) × Finds r c × HoldsKey (version_at m.cells) c key

    reads_finds : (r : ℕ) (recs : List Rec) (c : ℕ) (new : List Rec) → RowReads m s key room r recs c new → Finds r c
    reads_finds r recs c new (own_write w i) = its_own w i
    reads_finds r recs c new (no_version i v) = none_seen i v
    reads_finds r recs c new (again d i v q) = visible d i v
    reads_finds r recs c new (newly d i v q) = visible d i v

    lists_picks : (l : List ℕ) (recs : List Rec) (rows : List ℕ) (recs' : List Rec) (rows' : List ℕ) → Lists m s key room recs rows l recs' rows' → (d : List ℕ) × (rows' ≡ rows ++ d) × Picks HasKey l d
    lists_picks [] recs rows recs' rows' e = ([], e.1 ∙ sym (append-nil rows), refl)
    lists_picks (r ∷ l) recs rows recs' rows' (c, new, q, inl h) =
        let i = lists_picks l (recs ++ new) (rows ++ (r ∷ [])) recs' rows' h.1 in
        (r ∷ i.0, i.1 ∙ append_assoc rows (r ∷ []) i.0, inl ((c, reads_finds r recs c new q, h.0), (i.0, refl, i.2)))
    lists_picks (r ∷ l) recs rows recs' rows' (c, new, q, inr h) =
        let i = lists_picks l (recs ++ new) rows recs' rows' h.1 in (
          i.0,
          i.1,
          inr (
            (λ k.
                let e : k.0 ≡ c = sym (finds_is r k.0 k.1) ∙ finds_is r c (reads_finds r recs c new q) in
                h.0 (subst (λ (y : ℕ). HoldsKey (version_at m.cells) y key) e k.2)),
            i.2,
          ),
        )

    -- the front of the buffer, and the answer, of a lookup over the rows l
    pub record ListsKey (l : List ℕ) (o : Outcome z Answer ℕ) : Type 0 where
      pub listed : Picks HasKey l o.front
      pub counted : o.answer ≡ Listed (length o.front)
      pub ascending : Ascending l → Ascending o.front

    lists_key : (l : List ℕ) (o : Outcome z Answer ℕ) (rows : List ℕ) → o.front ≡ rows → o.answer ≡ Listed (length rows) → Picks HasKey l rows → ListsKey l o
    lists_key l o rows e a p =
        record {
          listed = subst (Picks HasKey l) (sym e) p;
          counted = a ∙ ap (λ (y : List ℕ). Listed (length y)) (sym e);
          ascending = λ q. subst Ascending (sym e) (picks_ascending HasKey l rows p q);
        }

-- a lookup over candidates
pub lookup_lists_exactly_the_rows_with_the_key : {z : Sizes} (m : Mem z) (s id key : ℕ) (cands : List ℕ) (room : ℕ) → NoneOf (lookup_lines m s id key cands room) → ListsKey m s key room (rows_to_read m (slot_at m s).writes cands) (lookup_out m s id key cands room)
lookup_lists_exactly_the_rows_with_the_key {z} m s id key cands room n =
    let l = rows_to_read m (slot_at m s).writes cands in
    let q = listed m s key room l [] [] (of_rows m s id key cands room n) in
    let e = (lookup_meets m s id key cands room).accepted n q.0 q.1 q.2 in
    let p = lists_picks m s key room l [] [] q.0 q.1 q.2 in
    lists_key m s key room l _ q.1 (ap (λ (o : Outcome z Answer ℕ). o.front) e) (ap (λ (o : Outcome z Answer ℕ). o.answer) e) (subst (Picks (HasKey m s key room) l) (sym p.1) p.2)

-- a lookup over all rows
pub lookup_all_lists_exactly_the_rows_with_the_key : {z : Sizes} (m : Mem z) (s id key room : ℕ) → NoneOf (lookup_all_lines m s id key room) → ListsKey m s key room (from 0 (size_r m)) (lookup_all_out m s id key room)
lookup_all_lists_exactly_the_rows_with_the_key {z} m s id key room n =
    let l = from 0 (size_r m) in
    let q = listed m s key room l [] [] (of_all_rows m s id key room n) in
    let e = (lookup_all_meets m s id key room).accepted n q.0 q.1 q.2 in
    let p = lists_picks m s key room l [] [] q.0 q.1 q.2 in
    lists_key m s key room l _ q.1 (ap (λ (o : Outcome z Answer ℕ). o.front) e) (ap (λ (o : Outcome z Answer ℕ). o.answer) e) (subst (Picks (HasKey m s key room) l) (sym p.1) p.2)
