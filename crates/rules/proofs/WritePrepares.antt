-- What an accepted write leaves. "base = head, the base is locked for this id, a cell is prepared (xmin = own id, next and free link 0),
-- an entry is added"; and a write, accepted or not, moves no head.
use Rattle.std.specs.Prelude.{ℕ, ◌≤◌, ◌<◌, ◌≡◌, ◌≢◌, length}
use mathlib.Core.List.{List, []}
use Rattle.std.proofs.Math.Option.{Option, none, some}
use Rattle.std.proofs.Math.Path.{refl, ap}
use Rattle.std.proofs.Common.{◌∙◌, ⊎_elim, arith, eq-eqb, ne_eqb}
use Rattle.std.proofs.Math.Seq.{get_or-set_same}
use Rattle.kinds.specs.Answer.{Answer}
use Rattle.words.specs.Sizes.{Sizes}
use Rattle.rules.proofs.Theory.Cases.{by_eq, by_le}
use Rattle.kinds.specs.Versions.{locked_for, new_version, version_of, cell_at, version_at, link_at, put_cell}
use Rattle.words.specs.Slots.{Write, write, add_write}
use Rattle.rules.specs.Memory.{Mem, size_n, free, head_at, words_at, slot_at}
use Rattle.rules.specs.Outcome.{Outcome}
use Rattle.rules.specs.Read.{own}
use Rattle.rules.specs.Write.{lock_base, prepared, write_out}
use Rattle.rules.specs.Exactly.{NoneOf}
use Rattle.rules.specs.Terms.{NoEntry}
use Rattle.rules.proofs.Terms.{store_fits}
use Rattle.rules.proofs.Along.{positive}
use Rattle.rules.specs.Theory.CellLaws.{HasCell}
use Rattle.rules.proofs.Theory.CellLaws.{length_put, put_on, put_link, put_else}
use Rattle.rules.proofs.WriteRefuses.{add_lines, write_lines, written, write_refuses_exactly}
use Rattle.rules.proofs.HandedOut.{write_takes_the_first_free, adding, base_inside}

-- one base locked, and nothing else
lock_on : (cs : List (List ℕ)) (b id : ℕ) → b ≢ 0 → b ≤ length cs → version_at (lock_base cs b id) b ≡ locked_for (version_at cs b) id
unfolding lock_base
lock_on cs b id n h = rw (ne_eqb b 0 n) (put_on cs b (locked_for (version_at cs b) id) (link_at cs b) (record { low = positive b n; high = h }))

lock_else : (cs : List (List ℕ)) (b id c : ℕ) → (b ≢ 0 → c ≢ b) → cell_at (lock_base cs b id) c ≡ cell_at cs c
unfolding lock_base
lock_else cs b id c h = by_eq b 0 (λ e. rw (eq-eqb b 0 e)) (λ n. rw (ne_eqb b 0 n) (put_else cs b (locked_for (version_at cs b) id) (link_at cs b) c (positive b n) (h n)))

lock_length : (cs : List (List ℕ)) (b id : ℕ) → length (lock_base cs b id) ≡ length cs
unfolding lock_base
lock_length cs b id = by_eq b 0 (λ e. rw (eq-eqb b 0 e)) (λ n. rw (ne_eqb b 0 n) (length_put cs b (locked_for (version_at cs b) id) (link_at cs b)))

module _ {z : Sizes} (m : Mem z) (s id row : ℕ) (v : Option ℕ) where
  written_rows : (o : Option Write) → (written m s id row v o).after.rows ≡ m.rows
  unfolding prepared
  written_rows (some w) = refl
  written_rows none = refl

  -- heads move at commit only
  pub write_moves_no_head : (write_out m s id row v).after.rows ≡ m.rows
  write_moves_no_head =
      let h = write_refuses_exactly m s id row v in
      ⊎_elim
      (λ n. ap (λ (o : Outcome z Answer ℕ). o.after.rows) (h.otherwise n) ∙ written_rows (own (slot_at m s).writes row))
      (λ q. ap (λ (o : Outcome z Answer ℕ). o.after.rows) (h.when q.0 q.1 q.2))
      h.decided

  module _ (accepted : NoneOf (write_lines m s id row)) (new : NoEntry (slot_at m s).writes row) where
    abbrev after : Mem z
    after = (write_out m s id row v).after

    abbrev locked : List (List ℕ)
    locked = lock_base m.cells (head_at m row) id

    after_is : after ≡ prepared m s id row v
    after_is = ap (λ (o : Outcome z Answer ℕ). o.after) (write_takes_the_first_free m s id row v accepted new)

    after_cells : after.cells ≡ put_cell locked (free m) (new_version v id 0) 0
    unfolding prepared
    after_cells = ap (λ (y : Mem z). y.cells) after_is

    unrefused : NoneOf (add_lines m s id row)
    unrefused = adding m s id row v accepted new

    free_low : 1 ≤ free m
    free_low = positive (free m) unrefused.1.1.1.1.0

    free_inside : HasCell locked (free m)
    free_inside =
        let f = store_fits m accepted.0 in
        record { low = free_low; high = rw (lock_length m.cells (head_at m row) id) (by_le (free m) (size_n m) (λ b. omega (arith, f.cells)) (λ b. absurd (unrefused.1.1.1.1.1.0 b))) }

    -- "a cell is prepared (xmin = own id, next and free link 0)"
    pub write_prepares_the_cell : (version_at after.cells (free m) ≡ new_version v id 0) × (link_at after.cells (free m) ≡ 0)
    write_prepares_the_cell = (rw after_cells (put_on locked (free m) (new_version v id 0) 0 free_inside), rw after_cells (put_link locked (free m) (new_version v id 0) 0 free_inside))

    -- "the base is locked for this id"
    pub write_locks_the_base : head_at m row ≢ 0 → head_at m row ≢ free m → version_at after.cells (head_at m row) ≡ locked_for (version_at m.cells (head_at m row)) id
    write_locks_the_base n d =
        rw after_cells (ap version_of (put_else locked (free m) (new_version v id 0) 0 (head_at m row) free_low d))
        ∙ lock_on m.cells (head_at m row) id n (base_inside m s id row v accepted new)

    -- every other cell is as it was
    pub write_keeps_other_cells : (c : ℕ) → c ≢ free m → (head_at m row ≢ 0 → c ≢ head_at m row) → cell_at after.cells c ≡ cell_at m.cells c
    write_keeps_other_cells c d h = rw after_cells (put_else locked (free m) (new_version v id 0) 0 c free_low d) ∙ lock_else m.cells (head_at m row) id c h

    -- "an entry is added": row, base, new cell
    pub write_adds_an_entry : s < length m.slots → words_at after s ≡ add_write z (write row (head_at m row) (free m)) (words_at m s)
    unfolding prepared
    write_adds_an_entry b = ap (λ (y : Mem z). words_at y s) after_is ∙ get_or-set_same m.slots s (add_write z (write row (head_at m row) (free m)) (words_at m s)) [] b
