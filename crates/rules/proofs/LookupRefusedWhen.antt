-- A lookup's refusals, each alone: 6 names the first candidate at R or above; and "lookup stops at the first trouble in row order, 14
-- last within a row".
use Rattle.std.specs.Prelude.{ℕ, ◌≤◌, ◌<◌, List, [], ◌∷◌, ◌++◌, ◌≡◌, refl, ◌↔◌, ◌⊎◌, length}
use Rattle.std.proofs.Common.{sym, ap, ◌∙◌, subst, inl, inr, ⊎_elim, arith}
use Rattle.std.proofs.Math.Logic.Iff
use Rattle.kinds.specs.Answer.{Answer}
use Rattle.words.specs.Sizes.{Sizes}
use Rattle.rules.specs.Numbers.{bad_row, result_full, damaged}
use Rattle.rules.proofs.Theory.Cases.{by_bool, by_le}
use Rattle.words.specs.Lists.{from}
use Rattle.kinds.specs.Versions.{version_at}
use Rattle.words.specs.Slots.{Rec}
use Rattle.rules.specs.Memory.{Mem, size_r, size_n, head_at, slot_at}
use Rattle.rules.specs.Read.{answer_at, Sight, blocked, sees}
use Rattle.rules.specs.Lookup.{is_key, own_rows, rows_to_read, lookup_out, lookup_all_out}
use Rattle.rules.specs.Exactly.{In, All, Line, Refuses, NoneOf, each_of}
use Rattle.rules.proofs.Exactly.{all_map, FirstOf, in_answer, refused_iff, refuses_append, refuses_past, refuses_before, refuses_each, none_append, none_refuses, lacks_append, lacks_each}
use Rattle.rules.proofs.SharedLines.{slot_lines, slots_lack}
use Rattle.rules.proofs.DamagedWhen.{SlotDamaged, slot_15, either_iff}
use Rattle.rules.proofs.ReadRefuses.{SightIs, sight_is, reads_is}
use Rattle.rules.specs.LookupRefuses.{HoldsKey}
use Rattle.rules.proofs.LookupRefuses.{is_key_lem, RowHolds, sight_lines_of, full_line, find_lines, find_lacks, candidate_lines, own_row_lines, lookup_refuses_exactly, lookup_all_refuses_exactly}
use Rattle.rules.proofs.OneOutcome.{RowReads, Lists, sight_at, rest_lines}

-- ---- 6
module _ {z : Sizes} (m : Mem z) (s id key : ℕ) (cands : List ℕ) (room : ℕ) where
  -- x is the first candidate at R or above, in the order of the list
  pub record FirstAbove (x : ℕ) : Type 0 where
    pub before : List ℕ
    pub after : List ℕ
    pub parts : cands ≡ before ++ x ∷ after
    pub below : All (λ c. c < size_r m) before
    pub above : size_r m ≤ x

  above_of : (x : ℕ) → FirstOf bad_row x (candidate_lines m) cands ↔ FirstAbove x
  above_of x = (λ q. to q q.refuses, from_above)
    where
      to : (q : FirstOf bad_row x (candidate_lines m) cands) → Refuses (candidate_lines m q.member) bad_row x → FirstAbove x
      to q (inl r) =
          record {
            before = q.before;
            after = q.after;
            parts = rw r.2 q.parts;
            below = all_map _ (λ c. c < size_r m) (λ c n. by_le (size_r m) c (λ b. absurd (n.0 b)) (λ b. b)) q.before q.fine;
            above = rw r.2 r.0;
          }
      to q (inr r) = absurd r.1

      from_above : FirstAbove x → FirstOf bad_row x (candidate_lines m) cands
      from_above q =
          record {
            before = q.before;
            member = x;
            after = q.after;
            parts = q.parts;
            fine = all_map (λ c. c < size_r m) _ (λ c b. (λ a. omega (arith, b), tt)) q.before q.below;
            refuses = inl (q.above, refl, refl);
          }

  -- 6: "row or candidate at R or above", "first such"
  pub lookup_refused_6_names_the_first_such_candidate : (x : ℕ) → ((lookup_out m s id key cands room).answer ≡ Answer.Refused bad_row x) ↔ (NoneOf (slot_lines m s id) × FirstAbove x)
  lookup_refused_6_names_the_first_such_candidate x =
      let rows = find_lines m (slot_at m s) key room [] [] (rows_to_read m (slot_at m s).writes cands) in
      let late = each_of (own_row_lines m) (own_rows (slot_at m s).writes) in
      Iff.trans (refused_iff in_answer m _ _ _ (lookup_refuses_exactly m s id key cands room) bad_row x)
      (Iff.trans
      (refuses_before bad_row x (slot_lines m s id ++ each_of (candidate_lines m) cands) (rows ++ late)
      (lacks_append bad_row rows late (find_lacks m (slot_at m s) key room bad_row (omega arith) (rows_to_read m (slot_at m s).writes cands) [] []) (lacks_each bad_row (own_row_lines m) (λ r. (λ e. omega arith, tt)) (own_rows (slot_at m s).writes))))
      (Iff.trans
      (refuses_past bad_row x (slot_lines m s id) (each_of (candidate_lines m) cands) (λ e. omega arith, (λ e. omega arith, (λ e. omega arith, (λ e. omega arith, tt)))))
      (Iff.and (λ e. e, λ e. e) (Iff.trans (refuses_each bad_row x (candidate_lines m) cands) (above_of x)))))

-- ---- 15 for an own row
own_row_to : {z : Sizes} (m : Mem z) (l : List ℕ) (x : ℕ) → Refuses (each_of (own_row_lines m) l) damaged x → ((r : ℕ) × In r l × (size_r m ≤ r)) × (x ≡ 0)
own_row_to m [] x q = absurd q
own_row_to m (r ∷ l) x (inl q) = ((r, inl refl, q.0), q.2)
own_row_to m (r ∷ l) x (inr q) =
    let i = own_row_to m l x q.1 in
    ((i.0.0, inr i.0.1, i.0.2), i.1)

own_row_from : {z : Sizes} (m : Mem z) (l : List ℕ) (x r : ℕ) → In r l → size_r m ≤ r → x ≡ 0 → Refuses (each_of (own_row_lines m) l) damaged x
own_row_from m [] x r i b e = absurd i
own_row_from m (q ∷ l) x r (inl y) b e = inl (rw (← y) b, refl, e)
own_row_from m (q ∷ l) x r (inr i) b e = by_le (size_r m) q (λ h. inl (h, refl, e)) (λ h. inr ((λ y. omega (arith, y)), own_row_from m l x r i b e))

own_row_15 : {z : Sizes} (m : Mem z) (l : List ℕ) (x : ℕ) → Refuses (each_of (own_row_lines m) l) damaged x ↔ (((r : ℕ) × In r l × (size_r m ≤ r)) × (x ≡ 0))
own_row_15 m l x = (own_row_to m l x, λ q. own_row_from m l x q.0.0 q.0.1 q.0.2 q.1)

-- ---- the first trouble
module _ {z : Sizes} (m : Mem z) (s key room : ℕ) where
  abbrev lines : List Rec → List ℕ → List ℕ → List Line
  lines = find_lines m (slot_at m s) key room

  -- row r, the first whose read refuses or whose place in the buffer is missing; `recs` and `rows` come from the rows before it, which
  -- are read without trouble
  pub record FirstTrouble (recs₀ : List Rec) (rows₀ l : List ℕ) (k x : ℕ) : Type 0 where
    pub before : List ℕ
    pub row : ℕ
    pub after : List ℕ
    pub parts : l ≡ before ++ row ∷ after
    pub recs : List Rec
    pub rows : List ℕ
    pub read : Lists m s key room recs₀ rows₀ before recs rows
    pub fine : NoneOf (lines recs₀ rows₀ before)
    pub trouble : Refuses (sight_lines_of m (slot_at m s) key room row recs ++ full_line m (slot_at m s) key room row recs rows ∷ []) k x

  -- what the read of row r adds
  abbrev sight : ℕ → List Rec → List Line
  sight r recs = sight_lines_of m (slot_at m s) key room r recs

  abbrev full : ℕ → List Rec → List ℕ → Line
  full r recs rows = full_line m (slot_at m s) key room r recs rows

  record Adds (r : ℕ) (recs : List Rec) (rows : List ℕ) : Type 1 where
    recs' : List Rec
    rows' : List ℕ
    -- the lines of the rows after r
    rest : (l : List ℕ) → rest_lines m s key room r recs rows l (sight_at m s key room r recs) ≡ lines recs' rows' l
    -- and what they come to
    to : (l : List ℕ) (a : List Rec) (b : List ℕ) → Lists m s key room recs' rows' l a b → Lists m s key room recs rows (r ∷ l) a b
    back : (l : List ℕ) (a : List Rec) (b : List ℕ) → Lists m s key room recs rows (r ∷ l) a b → Lists m s key room recs' rows' l a b

  -- a row's read finds one thing
  one_read : (r : ℕ) (recs : List Rec) (c c' : ℕ) (new new' : List Rec) → NoneOf (sight r recs) → RowReads m s key room r recs c new → RowReads m s key room r recs c' new' → (c ≡ c') × (new ≡ new')
  one_read r recs c c' new new' n p q =
      let f = reads_is z (size_n m) (version_at m.cells) (head_at m r) (slot_at m s) ((slot_at m s).recs ++ recs) r in
      let g : sees c new ≡ sees c' new' = sym (f c new p n) ∙ f c' new' q n in
      (cc, cc)

  adds_to : (r : ℕ) (recs : List Rec) (rows : List ℕ) → NoneOf (sight r recs) → (g : Sight) → sight_at m s key room r recs ≡ g → SightIs z (size_n m) (version_at m.cells) (head_at m r) (slot_at m s) ((slot_at m s).recs ++ recs) r g → Adds r recs rows
  adds_to r recs rows n (blocked k x) e i = absurd (none_refuses (sight r recs) k x n i)
  adds_to r recs rows n (sees c new) e i = by_bool (is_key key (answer_at (version_at m.cells) c))
      (λ b.
      let hk = (is_key_lem (version_at m.cells) c key).yes b in
      record {
        recs' = recs ++ new;
        rows' = rows ++ (r ∷ []);
        rest = λ l. ap (λ (y : Sight). rest_lines m s key room r recs rows l y) e ∙ rw b;
        to = λ l a d q. (c, new, i.1, inl (hk, q));
        back = λ l a d q.
            let o = one_read r recs c q.0 new q.1 n i.1 q.2 in
            ⊎_elim
            (λ h. subst (λ (y : List Rec). Lists m s key room (recs ++ y) (rows ++ (r ∷ [])) l a d) (sym o.1) h.1)
            (λ h. absurd (h.0 (subst (λ (y : ℕ). HoldsKey (version_at m.cells) y key) o.0 hk)))
            q.3;
      })
      (λ b.
      let hk = (is_key_lem (version_at m.cells) c key).no b in
      record {
        recs' = recs ++ new;
        rows' = rows;
        rest = λ l. ap (λ (y : Sight). rest_lines m s key room r recs rows l y) e ∙ rw b;
        to = λ l a d q. (c, new, i.1, inr (hk, q));
        back = λ l a d q.
            let o = one_read r recs c q.0 new q.1 n i.1 q.2 in
            ⊎_elim
            (λ h. absurd (hk (subst (λ (y : ℕ). HoldsKey (version_at m.cells) y key) (sym o.0) h.0)))
            (λ h. subst (λ (y : List Rec). Lists m s key room (recs ++ y) rows l a d) (sym o.1) h.1)
            q.3;
      })

  adds : (r : ℕ) (recs : List Rec) (rows : List ℕ) → NoneOf (sight r recs) → Adds r recs rows
  adds r recs rows n = adds_to r recs rows n (sight_at m s key room r recs) refl (sight_is z (size_n m) (version_at m.cells) (head_at m r) (slot_at m s) ((slot_at m s).recs ++ recs) r)

  trouble_to : (l : List ℕ) (recs : List Rec) (rows : List ℕ) (k x : ℕ) → Refuses (lines recs rows l) k x → FirstTrouble recs rows l k x
  trouble_to [] recs rows k x q = absurd q
  trouble_to (r ∷ l) recs rows k x q = ⊎_elim
      (λ h. record { before = []; row = r; after = l; parts = refl; recs = recs; rows = rows; read = (refl, refl); fine = tt; trouble = h })
      (λ h.
      let n = (none_append (sight r recs) (full r recs rows ∷ [])).0 h.0 in
      let d = adds r recs rows n.0 in
      let i = trouble_to l d.recs' d.rows' k x (subst (λ (y : List Line). Refuses y k x) (d.rest l) h.1) in
      record {
        before = r ∷ i.before;
        row = i.row;
        after = i.after;
        parts = ap (λ (y : List ℕ). r ∷ y) i.parts;
        recs = i.recs;
        rows = i.rows;
        read = d.to i.before i.recs i.rows i.read;
        fine = (none_append (sight r recs) (full r recs rows ∷ rest_lines m s key room r recs rows i.before (sight_at m s key room r recs))).1 (n.0, (n.1.0, subst NoneOf (sym (d.rest i.before)) i.fine));
        trouble = i.trouble;
      })
      ((refuses_append k x (sight r recs ++ full r recs rows ∷ []) (rest_lines m s key room r recs rows l (sight_at m s key room r recs))).0 q)

  trouble_from : (before : List ℕ) (row : ℕ) (after l : List ℕ) (recs : List Rec) (rows : List ℕ) (a : List Rec) (b : List ℕ) (k x : ℕ) → l ≡ before ++ row ∷ after → Lists m s key room recs rows before a b → NoneOf (lines recs rows before) → Refuses (sight row a ++ full row a b ∷ []) k x → Refuses (lines recs rows l) k x
  trouble_from [] row after l recs rows a b k x e p n t =
      rw e ((refuses_append k x (sight row recs ++ full row recs rows ∷ []) (rest_lines m s key room row recs rows after (sight_at m s key room row recs))).1 (inl (subst (λ (y : List Rec). Refuses (sight row y ++ full row y rows ∷ []) k x) p.0 (subst (λ (y : List ℕ). Refuses (sight row a ++ full row a y ∷ []) k x) p.1 t))))
  trouble_from (r ∷ before) row after l recs rows a b k x e p n t =
      let q = (none_append (sight r recs) (full r recs rows ∷ rest_lines m s key room r recs rows before (sight_at m s key room r recs))).0 n in
      let d = adds r recs rows q.0 in
      let i = trouble_from before row after (before ++ row ∷ after) d.recs' d.rows' a b k x refl (d.back before a b p) (subst NoneOf (d.rest before) q.1.1) t in
      rw e
      ((refuses_append k x (sight r recs ++ full r recs rows ∷ []) (rest_lines m s key room r recs rows (before ++ row ∷ after) (sight_at m s key room r recs))).1
      (inr ((none_append (sight r recs) (full r recs rows ∷ [])).1 (q.0, (q.1.0, tt)), subst (λ (y : List Line). Refuses y k x) (sym (d.rest (before ++ row ∷ after))) i)))

  -- "lookup stops at the first trouble in row order, 14 last within a row"
  pub lookup_stops_at_the_first_trouble : (l : List ℕ) (k x : ℕ) → Refuses (lines [] [] l) k x ↔ FirstTrouble [] [] l k x
  lookup_stops_at_the_first_trouble l k x = (trouble_to l [] [] k x, λ q. trouble_from q.before q.row q.after l [] [] q.recs q.rows k x q.parts q.read q.fine q.trouble)

  -- ---- 14
  -- the first row with the key for which the buffer has no place: it is read without trouble, and so are all rows before it, which
  -- have filled the buffer
  pub record FirstUnplaced (l : List ℕ) : Type 0 where
    pub before : List ℕ
    pub row : ℕ
    pub after : List ℕ
    pub parts : l ≡ before ++ row ∷ after
    pub recs : List Rec
    pub rows : List ℕ
    pub read : Lists m s key room [] [] before recs rows
    pub fine : NoneOf (lines [] [] before)
    pub readable : NoneOf (sight row recs)
    pub holds : RowHolds m (slot_at m s) key room row recs
    pub filled : room ≤ length rows

  unplaced : (l : List ℕ) (x : ℕ) → FirstTrouble [] [] l result_full x ↔ (FirstUnplaced l × (x ≡ 0))
  unplaced l x = (
    λ q. on q ((refuses_past result_full x (sight q.row q.recs) (full q.row q.recs q.rows ∷ []) (λ e. omega arith, (λ e. omega arith, (λ e. omega arith, (λ e. omega arith, tt))))).0 q.trouble),
    λ q. off q.0 q.1,
  )
    where
      on : (q : FirstTrouble [] [] l result_full x) → NoneOf (sight q.row q.recs) × Refuses (full q.row q.recs q.rows ∷ []) result_full x → FirstUnplaced l × (x ≡ 0)
      on q (n, inl h) = (record { before = q.before; row = q.row; after = q.after; parts = q.parts; recs = q.recs; rows = q.rows; read = q.read; fine = q.fine; readable = n; holds = h.0.0; filled = h.0.1 }, h.2)
      on q (n, inr h) = absurd h.1

      off : (q : FirstUnplaced l) → x ≡ 0 → FirstTrouble [] [] l result_full x
      off q e =
          record {
            before = q.before;
            row = q.row;
            after = q.after;
            parts = q.parts;
            recs = q.recs;
            rows = q.rows;
            read = q.read;
            fine = q.fine;
            trouble = (refuses_append result_full x (sight q.row q.recs) (full q.row q.recs q.rows ∷ [])).1 (inr (q.readable, inl ((q.holds, q.filled), refl, e)));
          }

-- 10, 13 and 14 come from the first trouble in row order
pub lookup_refused_within_the_rows : {z : Sizes} (m : Mem z) (s id key : ℕ) (cands : List ℕ) (room k x : ℕ) → (6 < k) × (k < 15) →
    ((lookup_out m s id key cands room).answer ≡ Answer.Refused k x) ↔ (NoneOf (slot_lines m s id ++ each_of (candidate_lines m) cands) × FirstTrouble m s key room [] [] (rows_to_read m (slot_at m s).writes cands) k x)
lookup_refused_within_the_rows m s id key cands room k x b =
    let l = rows_to_read m (slot_at m s).writes cands in
    let rows = find_lines m (slot_at m s) key room [] [] l in
    let late = each_of (own_row_lines m) (own_rows (slot_at m s).writes) in
    Iff.trans (refused_iff in_answer m _ _ _ (lookup_refuses_exactly m s id key cands room) k x)
    (Iff.trans
    (refuses_past k x (slot_lines m s id ++ each_of (candidate_lines m) cands) (rows ++ late)
    (lacks_append k (slot_lines m s id) (each_of (candidate_lines m) cands) (slots_lack m s id k b) (lacks_each k (candidate_lines m) (λ r. ((λ e. omega (arith, e, b.0)), tt)) cands)))
    (Iff.and (λ e. e, λ e. e)
    (Iff.trans (refuses_before k x rows late (lacks_each k (own_row_lines m) (λ r. ((λ e. omega (arith, e, b.1)), tt)) (own_rows (slot_at m s).writes))) (lookup_stops_at_the_first_trouble m s key room l k x))))

-- the same of all rows
pub lookup_all_refused_within_the_rows : {z : Sizes} (m : Mem z) (s id key room k x : ℕ) → (6 < k) × (k < 15) →
    ((lookup_all_out m s id key room).answer ≡ Answer.Refused k x) ↔ (NoneOf (slot_lines m s id) × FirstTrouble m s key room [] [] (from 0 (size_r m)) k x)
lookup_all_refused_within_the_rows m s id key room k x b =
    let rows = find_lines m (slot_at m s) key room [] [] (from 0 (size_r m)) in
    Iff.trans (refused_iff in_answer m _ _ _ (lookup_all_refuses_exactly m s id key room) k x)
    (Iff.trans (refuses_past k x (slot_lines m s id) (rows ++ []) (slots_lack m s id k b))
    (Iff.and (λ e. e, λ e. e) (Iff.trans (refuses_before k x rows [] tt) (lookup_stops_at_the_first_trouble m s key room (from 0 (size_r m)) k x))))

-- 14: "list longer than its buffer", of the candidates and own rows
pub lookup_refused_14_exactly_when : {z : Sizes} (m : Mem z) (s id key : ℕ) (cands : List ℕ) (room x : ℕ) →
    ((lookup_out m s id key cands room).answer ≡ Answer.Refused result_full x) ↔ (NoneOf (slot_lines m s id ++ each_of (candidate_lines m) cands) × (FirstUnplaced m s key room (rows_to_read m (slot_at m s).writes cands) × (x ≡ 0)))
lookup_refused_14_exactly_when m s id key cands room x = Iff.trans (lookup_refused_within_the_rows m s id key cands room result_full x (omega arith)) (Iff.and (λ e. e, λ e. e) (unplaced m s key room (rows_to_read m (slot_at m s).writes cands) x))

-- 14 of all rows
pub lookup_all_refused_14_exactly_when : {z : Sizes} (m : Mem z) (s id key room x : ℕ) →
    ((lookup_all_out m s id key room).answer ≡ Answer.Refused result_full x) ↔ (NoneOf (slot_lines m s id) × (FirstUnplaced m s key room (from 0 (size_r m)) × (x ≡ 0)))
lookup_all_refused_14_exactly_when m s id key room x = Iff.trans (lookup_all_refused_within_the_rows m s id key room result_full x (omega arith)) (Iff.and (λ e. e, λ e. e) (unplaced m s key room (from 0 (size_r m)) x))

-- 15 of a lookup: the head of the call; or the first trouble in row order; or, no row below R having any, an own row at R or above, which
-- would be read last
pub lookup_refused_15_exactly_when : {z : Sizes} (m : Mem z) (s id key : ℕ) (cands : List ℕ) (room x : ℕ) →
    ((lookup_out m s id key cands room).answer ≡ Answer.Refused damaged x)
    ↔ ((SlotDamaged m s id × (x ≡ 0))
    ⊎ (NoneOf (slot_lines m s id ++ each_of (candidate_lines m) cands)
    × (FirstTrouble m s key room [] [] (rows_to_read m (slot_at m s).writes cands) damaged x
    ⊎ (NoneOf (find_lines m (slot_at m s) key room [] [] (rows_to_read m (slot_at m s).writes cands)) × (((r : ℕ) × In r (own_rows (slot_at m s).writes) × (size_r m ≤ r)) × (x ≡ 0))))))
lookup_refused_15_exactly_when m s id key cands room x =
    let l = rows_to_read m (slot_at m s).writes cands in
    let rows = find_lines m (slot_at m s) key room [] [] l in
    let late = each_of (own_row_lines m) (own_rows (slot_at m s).writes) in
    Iff.trans (refused_iff in_answer m _ _ _ (lookup_refuses_exactly m s id key cands room) damaged x)
    (Iff.trans (refuses_append damaged x (slot_lines m s id ++ each_of (candidate_lines m) cands) (rows ++ late))
    (either_iff
    (Iff.trans (refuses_before damaged x (slot_lines m s id) (each_of (candidate_lines m) cands) (lacks_each damaged (candidate_lines m) (λ r. (λ e. omega arith, tt)) cands)) (slot_15 m s id x))
    (Iff.and (λ e. e, λ e. e)
    (Iff.trans (refuses_append damaged x rows late)
    (either_iff (lookup_stops_at_the_first_trouble m s key room l damaged x) (Iff.and (λ e. e, λ e. e) (own_row_15 m (own_rows (slot_at m s).writes) x)))))))

-- 15 of a lookup over all rows
pub lookup_all_refused_15_exactly_when : {z : Sizes} (m : Mem z) (s id key room x : ℕ) →
    ((lookup_all_out m s id key room).answer ≡ Answer.Refused damaged x) ↔ ((SlotDamaged m s id × (x ≡ 0)) ⊎ (NoneOf (slot_lines m s id) × FirstTrouble m s key room [] [] (from 0 (size_r m)) damaged x))
lookup_all_refused_15_exactly_when m s id key room x =
    let rows = find_lines m (slot_at m s) key room [] [] (from 0 (size_r m)) in
    Iff.trans (refused_iff in_answer m _ _ _ (lookup_all_refuses_exactly m s id key room) damaged x)
    (Iff.trans (refuses_append damaged x (slot_lines m s id) (rows ++ []))
    (either_iff (slot_15 m s id x) (Iff.and (λ e. e, λ e. e) (Iff.trans (refuses_before damaged x rows [] tt) (lookup_stops_at_the_first_trouble m s key room (from 0 (size_r m)) damaged x)))))
