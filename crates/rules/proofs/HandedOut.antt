-- "Cells are handed out 1, 2, 3..; a cell given back is the next handed out": the free list, spelled by the links, after a creation,
-- after a write that takes a cell, and after cells are given back.
use Prim.Native.Nat.{ℕ, zero, suc, ◌+◌, ◌-◌, ◌≤◌, ◌<◌}
use Rattle.std.specs.Prelude.{cond, ◌≡◌, refl, ◌≢◌, length, eqb}
use mathlib.Core.List.{List, [], ◌∷◌, reverse_aux}
use Rattle.std.proofs.Math.Option.{Option}
use Rattle.std.proofs.Math.Path.{sym, ap}
use Rattle.std.proofs.Common.{◌∙◌, subst, inl, inr, arith, length-set, eq-eqb, ne_eqb}
use Rattle.std.proofs.Math.ListN.{get_or}
use Rattle.std.proofs.Math.Seq.{get_or-set_same}
use Rattle.kinds.specs.Answer.{Wrote}
use Rattle.words.specs.Sizes.{Sizes, FREE}
use Rattle.rules.proofs.Theory.Cases.{by_eq, by_le}
use Rattle.words.specs.Lists.{fold, from}
use Rattle.kinds.specs.Versions.{at, empty_version, locked_for, new_version, words_of, cell_at, version_at, link_at, put_cell}
use Rattle.rules.specs.Memory.{Mem, size_r, size_n, free, head_at, slot_at}
use Rattle.rules.specs.Outcome.{out}
use Rattle.rules.specs.Create.{fresh_cells, created}
use Rattle.rules.specs.Write.{lock_base, prepared, write_out}
use Rattle.rules.specs.Abort.{give_back}
use Rattle.rules.specs.Exactly.{In, All, NoneOf}
use Rattle.rules.proofs.Exactly.{all_map, none_append, none_under}
use Rattle.rules.specs.Terms.{Fitting, NoEntry}
use Rattle.rules.proofs.Terms.{store_fits}
use Rattle.rules.proofs.Along.{positive}
use Rattle.rules.proofs.SetsAtFront.{front_is}
use Rattle.rules.specs.Theory.CellLaws.{HasCell}
use Rattle.rules.proofs.Theory.CellLaws.{length_put, put_link, put_else}
use Rattle.rules.specs.Members.{Once}
use Rattle.rules.specs.GivenBack.{give_all}
use Rattle.rules.proofs.GivenBack.{given_back_is_next, given_back_links_to_the_next_before, give_back_else}
use Rattle.rules.proofs.SharedLines.{row_lines}
use Rattle.rules.proofs.WriteRefuses.{add_lines, now_lines, write_lines}
use Rattle.rules.proofs.OneOutcome.{write_meets}
use Rattle.rules.specs.HandedOut.{FreeFrom, FreeList}

-- other cells with the same links
pub free_agree : (cs ds : List (List ℕ)) (l : List ℕ) (p : ℕ) → All (λ c. link_at cs c ≡ link_at ds c) l → FreeFrom cs p l → FreeFrom ds p l
free_agree cs ds [] p h f = f
free_agree cs ds (c ∷ l) p h f = (f.0, (f.1.0, free_agree cs ds l (link_at ds c) h.1 (subst (λ (y : ℕ). FreeFrom cs y l) h.0 f.1.1)))

-- ---- after a creation
pub fresh_at : (k c i : ℕ) → i < k → get_or (fresh_cells k c) i [] ≡ words_of empty_version (cond (eqb (k - suc i) 0) 0 (c + i + 1))
unfolding fresh_cells
fresh_at zero c i h = absurd (omega arith)
fresh_at (suc k) c zero h =
    let a : suc k - 1 ≡ k = omega arith in
    let b : c + 0 + 1 ≡ c + 1 = omega arith in
    rw (a, b)
fresh_at (suc k) c (suc i) h =
    let a : suc k - suc (suc i) ≡ k - suc i = omega arith in
    let b : c + suc i + 1 ≡ c + 1 + i + 1 = omega arith in
    rw (a, b) (fresh_at k (c + 1) i (omega arith))

pub fresh_length : (k c : ℕ) → length (fresh_cells k c) ≡ k
unfolding fresh_cells
fresh_length zero c = refl
fresh_length (suc k) c = ap suc (fresh_length k (c + 1))

module _ {z : Sizes} (m : Mem z) (n r : ℕ) (fit : Fitting m r n) where
  created_cell : (i : ℕ) → i < n → link_at (created m n r).cells (suc i) ≡ cond (eqb (n - suc i) 0) 0 (1 + i + 1)
  unfolding created cell_at words_of
  created_cell i h = ap (λ (w : List ℕ). get_or w 7 0) (front_is m.cells (fresh_cells n 1) [] (rw (fresh_length n 1) fit.cells) i (rw (fresh_length n 1) h) ∙ fresh_at n 1 i h)

  -- the links go 1, 2, 3 and so on, the last to 0
  links_on : (i : ℕ) → suc i < n → link_at (created m n r).cells (suc i) ≡ suc (suc i)
  links_on i h =
      let a : n - suc i ≢ 0 = λ e. omega arith in
      let b : 1 + i + 1 ≡ suc (suc i) = omega arith in
      created_cell i (omega arith) ∙ rw (ne_eqb (n - suc i) 0 a, b)

  links_end : (i : ℕ) → suc i ≡ n → link_at (created m n r).cells (suc i) ≡ 0
  links_end i h =
      let a : n - suc i ≡ 0 = omega arith in
      created_cell i (omega arith) ∙ rw (eq-eqb (n - suc i) 0 a)

  ascending : (k i : ℕ) → i + suc k ≡ n → FreeFrom (created m n r).cells (suc i) (from (suc i) (suc k))
  unfolding from
  ascending zero i h = (refl, ((λ e. omega (arith, e)), links_end i (omega arith)))
  ascending (suc k) i h = (refl, ((λ e. omega (arith, e)), rw (links_on i (omega arith)) (ascending k (suc i) (omega arith))))

  created_free : free (created m n r) ≡ 1
  unfolding created
  created_free = front_is m.meta (r ∷ n ∷ 1 ∷ 1 ∷ []) 0 fit.metas FREE (omega arith)

  -- "Cells are handed out 1, 2, 3.."
  pub cells_are_handed_out_in_order : FreeList (created m n r) (from 1 n)
  cells_are_handed_out_in_order = on n refl fit.a_cell
    where
      on : (k : ℕ) → k ≡ n → 1 ≤ k → FreeList (created m n r) (from 1 k)
      on zero e h = absurd (omega arith)
      on (suc k) e h = rw created_free (ascending k 0 (omega arith))

-- ---- after a cell is given back
apart : (c : ℕ) (d l : List ℕ) → (In c d → ⊥) → ((x : ℕ) → In x d → In x l → ⊥) → (x : ℕ) → In x d → In x (c ∷ l) → ⊥
apart c d l o n x i (inl e) = o (subst (λ (y : ℕ). In y d) e i)
apart c d l o n x i (inr j) = n x i j

module _ {z : Sizes} where
  pub give_back_in_front : (m : Mem z) (c : ℕ) (l : List ℕ) → FREE < length m.meta → HasCell m.cells c → (In c l → ⊥) → FreeList m l → FreeList (give_back c m) (c ∷ l)
  give_back_in_front m c l b h n f = (
    given_back_is_next m c b,
    (
      (λ e. omega (arith, h.low, e)),
      rw (given_back_links_to_the_next_before m c h) (free_agree m.cells (give_back c m).cells l (free m) (links l n) f),
    ),
  )
    where
      links : (k : List ℕ) → (In c k → ⊥) → All (λ x. link_at m.cells x ≡ link_at (give_back c m).cells x) k
      links [] n = tt
      links (x ∷ k) n = (ap (λ (w : List ℕ). get_or w 7 0) (sym (give_back_else m c x h.low (λ e. n (inl (sym e))))), links k (λ i. n (inr i)))

  meta_kept : (m : Mem z) (c : ℕ) → FREE < length m.meta → FREE < length (give_back c m).meta
  unfolding give_back
  meta_kept m c b = rw (length-set m.meta FREE c) b

  cells_kept : (m : Mem z) (c : ℕ) (d : List ℕ) → All (HasCell m.cells) d → All (HasCell (give_back c m).cells) d
  unfolding give_back
  cells_kept m c d h = all_map (HasCell m.cells) (HasCell (give_back c m).cells) (λ x q. record { low = q.low; high = rw (length_put m.cells c empty_version (free m)) q.high }) d h

  -- given back in order: the last given back is the first handed out
  pub give_all_in_front : (d : List ℕ) (m : Mem z) (l : List ℕ) → FREE < length m.meta → All (HasCell m.cells) d → Once d → ((c : ℕ) → In c d → In c l → ⊥) → FreeList m l → FreeList (give_all d m) (reverse_aux d l)
  unfolding fold
  give_all_in_front [] m l b h o n f = f
  give_all_in_front (c ∷ d) m l b h o n f =
      give_all_in_front d (give_back c m) (c ∷ l) (meta_kept m c b) (cells_kept m c d h.1) o.1 (apart c d l o.0 (λ x i. n x (inr i)))
      (give_back_in_front m c l b h.0 (n c (inl refl)) f)

-- ---- after a write that takes a cell
lock_links : (cs : List (List ℕ)) (b id x : ℕ) → b ≤ length cs → link_at (lock_base cs b id) x ≡ link_at cs x
unfolding lock_base
lock_links cs b id x h = by_eq b 0
    (λ e. rw (eq-eqb b 0 e))
    (λ n. rw (ne_eqb b 0 n)
    (by_eq x b
    (λ e. rw e (put_link cs b (locked_for (version_at cs b) id) (link_at cs b) (record { low = positive b n; high = h })))
    (λ e. ap (λ (w : List ℕ). get_or w 7 0) (put_else cs b (locked_for (version_at cs b) id) (link_at cs b) x (positive b n) e))))

module _ {z : Sizes} (m : Mem z) (s id row : ℕ) (v : Option ℕ) (accepted : NoneOf (write_lines m s id row)) (new : NoEntry (slot_at m s).writes row) where
  -- "a cell is prepared": the first free one. "The answer is the cell."
  pub write_takes_the_first_free : write_out m s id row v ≡ out (Wrote (at (free m))) [] (prepared m s id row v)
  write_takes_the_first_free = ((write_meets m s id row v).accepted accepted).adds new

  fitting : Fitting m (size_r m) (size_n m)
  fitting = store_fits m accepted.0

  pub adding : NoneOf (add_lines m s id row)
  adding = none_under (NoEntry (slot_at m s).writes row) (add_lines m s id row) new ((none_append (row_lines m s id row) (now_lines m s id row)).0 accepted).1.1

  pub base_inside : head_at m row ≤ length m.cells
  base_inside = by_le (head_at m row) (size_n m) (λ b. omega (arith, fitting.cells)) (λ b. absurd (adding.0 b))

  -- the free list loses its first cell and nothing else
  pub write_leaves_the_rest_of_the_free_list : (c : ℕ) (l : List ℕ) → FreeList m (c ∷ l) → (In c l → ⊥) → FreeList (write_out m s id row v).after l
  unfolding prepared
  write_leaves_the_rest_of_the_free_list c l f n =
      rw (write_takes_the_first_free, get_or-set_same m.meta FREE (link_at m.cells (free m)) 0 (omega (arith, fitting.metas)), f.0)
      (free_agree m.cells (put_cell (lock_base m.cells (head_at m row) id) c (new_version v id 0) 0) l (link_at m.cells c) (links l n) f.1.1)
    where
      links : (k : List ℕ) → (In c k → ⊥) → All (λ x. link_at m.cells x ≡ link_at (put_cell (lock_base m.cells (head_at m row) id) c (new_version v id 0) 0) x) k
      links [] n = tt
      links (x ∷ k) n = (
        sym (ap (λ (w : List ℕ). get_or w 7 0) (put_else (lock_base m.cells (head_at m row) id) c (new_version v id 0) 0 x (positive c f.1.0) (λ e. n (inl (sym e)))) ∙ lock_links m.cells (head_at m row) id x base_inside),
        links k (λ i. n (inr i)),
      )

-- "a cell given back is the next handed out"
pub a_cell_given_back_is_the_next_handed_out : {z : Sizes} (m : Mem z) (c s id row : ℕ) (v : Option ℕ) → FREE < length m.meta → NoneOf (write_lines (give_back c m) s id row) → NoEntry (slot_at (give_back c m) s).writes row → (write_out (give_back c m) s id row v).answer ≡ Wrote (at c)
a_cell_given_back_is_the_next_handed_out m c s id row v b n e = rw (write_takes_the_first_free (give_back c m) s id row v n e, given_back_is_next m c b)
