-- The lines that the tables of several calls begin with. "Order: sizes and clock, slot, owner, counts, row, then the call's steps".
use Rattle.std.specs.Prelude.{ℕ, ◌≤◌, ◌<◌, List, [], ◌∷◌, ◌++◌, ◌≡◌, ◌≢◌, ◌⊎◌, get_or}
use Rattle.std.proofs.Math.Path.{refl}
use Rattle.std.proofs.Common.{arith}
use Rattle.words.specs.Sizes.{Sizes, ID, ACTIVE, WRITES, READS}
use Rattle.rules.specs.Numbers.{bad_slot, not_owner, bad_row, damaged}
use Rattle.rules.specs.Memory.{Mem, size_r, words_at}
use Rattle.rules.specs.Outcome.{store_tests, slot_tests, row_test}
use Rattle.rules.specs.Exactly.{Line, line, Says, Lacks}
use Rattle.rules.proofs.Exactly.{lacks_append, is_equal, is_less, is_most, is_not, is_either, says_append}
use Rattle.rules.proofs.Terms.{StoreDamaged, is_store_damaged}

module _ {z : Sizes} (m : Mem z) where
  abbrev pub store_lines : List Line
  store_lines =
      -- 15: "saved sizes out of range or not fitting the lent lengths, clock 0"
      line (StoreDamaged m) damaged 0
      ∷ []

  pub store_says : Says (store_tests m) store_lines
  unfolding store_tests
  store_says = (is_store_damaged m, refl, refl, tt)

  -- the id that stands in the slot, and its three counts
  abbrev pub id_at : ℕ → ℕ
  id_at s = get_or (words_at m s) ID 0

  abbrev pub count_at : ℕ → ℕ → ℕ
  count_at s k = get_or (words_at m s) k 0

  abbrev pub slot_lines : ℕ → ℕ → List Line
  slot_lines s id =
      store_lines
      -- 4: "slot 16 or more"
      ++ line (z.slots ≤ s) bad_slot 0
      -- 5: "presented id is 0 or not the slot's", with the "id found"
      ∷ line ((id ≡ 0) ⊎ (id ≢ id_at s)) not_owner (id_at s)
      -- 15: "a saved count of the named slot above its limit"
      ∷ line ((z.slots < count_at s ACTIVE) ⊎ ((z.writes < count_at s (WRITES z)) ⊎ (z.reads < count_at s (READS z)))) damaged 0
      ∷ []

  pub slot_says : (s id : ℕ) → Says (slot_tests m s id) (slot_lines s id)
  unfolding slot_tests
  slot_says s id =
      says_append (store_tests m) _ store_lines _ store_says (
        is_most z.slots s,
        refl,
        refl,
        (
          is_either _ _ (is_equal id 0) (is_not _ (is_equal id (id_at s))),
          refl,
          refl,
          (
            is_either _ _ (is_less z.slots (count_at s ACTIVE)) (is_either _ _ (is_less z.writes (count_at s (WRITES z))) (is_less z.reads (count_at s (READS z)))),
            refl,
            refl,
            tt,
          ),
        ),
      )

  -- the numbers from 7 to 14 come later
  pub slots_lack : (s id k : ℕ) → (6 < k) × (k < 15) → Lacks k (slot_lines s id)
  slots_lack s id k b = (λ e. omega (arith, b.1), (λ e. omega (arith, b.0), (λ e. omega (arith, b.0), (λ e. omega (arith, b.1), tt))))

  abbrev pub row_line : ℕ → Line
  row_line row =
      -- 6: "row or candidate at R or above"
      line (size_r m ≤ row) bad_row row

  -- the head of a read and of a write
  abbrev pub row_lines : ℕ → ℕ → ℕ → List Line
  row_lines s id row = slot_lines s id ++ row_line row ∷ []

  pub row_says : (s id row : ℕ) → Says (slot_tests m s id ++ row_test m row ∷ []) (row_lines s id row)
  row_says s id row = says_append (slot_tests m s id) _ (slot_lines s id) _ (slot_says s id) (is_most (size_r m) row, refl, refl, tt)

  pub rows_lack : (s id row k : ℕ) → (6 < k) × (k < 15) → Lacks k (row_lines s id row)
  rows_lack s id row k b = lacks_append k (slot_lines s id) (row_line row ∷ []) (slots_lack s id k b) (λ e. omega (arith, b.0), tt)
