-- "a cell given back is the next handed out, all fields cleared but the free link"
use Rattle.std.specs.Prelude.{ℕ, ◌≤◌, ◌<◌, ◌≡◌, ◌≢◌, length, get_or}
use mathlib.Core.List.{List, [], ◌∷◌}
use Rattle.std.proofs.Math.Path.{refl, ap}
use Rattle.std.proofs.Common.{◌∙◌, inl, inr}
use Rattle.std.proofs.Math.Seq.{get_or-set_same, get_or-set_other}
use Rattle.words.specs.Sizes.{Sizes, FREE}
use Rattle.words.specs.Lists.{fold}
use Rattle.kinds.specs.Versions.{version_of, empty_version, cell_at, version_at, link_at}
use Rattle.rules.specs.Memory.{Mem, free}
use Rattle.rules.specs.Abort.{give_back}
use Rattle.rules.specs.Theory.CellLaws.{HasCell}
use Rattle.rules.proofs.Theory.CellLaws.{length_put, put_on, put_link, put_else}
use Rattle.rules.specs.Exactly.{In, All}
use Rattle.rules.proofs.Exactly.{all_map}
use Rattle.rules.proofs.Members.{in_or_not}
use Rattle.rules.specs.GivenBack.{give_all}

module _ {z : Sizes} where
  -- ---- one cell
  module _ (m : Mem z) (c : ℕ) where
    -- the next handed out
    pub given_back_is_next : FREE < length m.meta → free (give_back c m) ≡ c
    unfolding give_back
    given_back_is_next h = get_or-set_same m.meta FREE c 0 h

    -- all fields cleared
    pub given_back_is_cleared : HasCell m.cells c → version_at (give_back c m).cells c ≡ empty_version
    unfolding give_back
    given_back_is_cleared h = put_on m.cells c empty_version (free m) h

    -- but the free link: the cell that was the next before
    pub given_back_links_to_the_next_before : HasCell m.cells c → link_at (give_back c m).cells c ≡ free m
    unfolding give_back
    given_back_links_to_the_next_before h = put_link m.cells c empty_version (free m) h

    pub give_back_else : (d : ℕ) → 1 ≤ c → d ≢ c → cell_at (give_back c m).cells d ≡ cell_at m.cells d
    unfolding give_back
    give_back_else d l n = put_else m.cells c empty_version (free m) d l n

    give_back_length : length (give_back c m).cells ≡ length m.cells
    unfolding give_back
    give_back_length = length_put m.cells c empty_version (free m)

    give_back_meta : (k : ℕ) → k ≢ FREE → get_or (give_back c m).meta k 0 ≡ get_or m.meta k 0
    unfolding give_back
    give_back_meta k n = get_or-set_other m.meta FREE k c 0 n

    give_back_rows : (give_back c m).rows ≡ m.rows
    unfolding give_back
    give_back_rows = refl

    give_back_slots : (give_back c m).slots ≡ m.slots
    unfolding give_back
    give_back_slots = refl

  pub give_all_rows : (l : List ℕ) (m : Mem z) → (give_all l m).rows ≡ m.rows
  unfolding fold
  give_all_rows [] m = refl
  give_all_rows (c ∷ l) m = give_all_rows l (give_back c m) ∙ give_back_rows m c

  pub give_all_slots : (l : List ℕ) (m : Mem z) → (give_all l m).slots ≡ m.slots
  unfolding fold
  give_all_slots [] m = refl
  give_all_slots (c ∷ l) m = give_all_slots l (give_back c m) ∙ give_back_slots m c

  pub give_all_meta : (l : List ℕ) (m : Mem z) (k : ℕ) → k ≢ FREE → get_or (give_all l m).meta k 0 ≡ get_or m.meta k 0
  unfolding fold
  give_all_meta [] m k n = refl
  give_all_meta (c ∷ l) m k n = give_all_meta l (give_back c m) k n ∙ give_back_meta m c k n

  pub give_all_length : (l : List ℕ) (m : Mem z) → length (give_all l m).cells ≡ length m.cells
  unfolding fold
  give_all_length [] m = refl
  give_all_length (c ∷ l) m = give_all_length l (give_back c m) ∙ give_back_length m c

  -- a cell that is not given back is as it was
  pub give_all_else : (l : List ℕ) (m : Mem z) → All (λ c. 1 ≤ c) l → (d : ℕ) → (In d l → ⊥) → cell_at (give_all l m).cells d ≡ cell_at m.cells d
  unfolding fold
  give_all_else [] m h d n = refl
  give_all_else (c ∷ l) m h d n = give_all_else l (give_back c m) h.1 d (λ i. n (inr i)) ∙ give_back_else m c d h.0 (λ e. n (inl e))

  -- each cell given back is cleared
  pub give_all_cleared : (l : List ℕ) (m : Mem z) → All (HasCell m.cells) l → (d : ℕ) → In d l → version_at (give_all l m).cells d ≡ empty_version
  unfolding fold
  give_all_cleared [] m h d i = absurd i
  give_all_cleared (c ∷ l) m h d i =
      let h' : All (HasCell (give_back c m).cells) l = all_map (HasCell m.cells) (HasCell (give_back c m).cells) (λ x q. record { low = q.low; high = rw (give_back_length m c) q.high }) l h.1 in
      in_or_not d l
      (λ j. give_all_cleared l (give_back c m) h' d j)
      (λ j.
      let e : d ≡ c = first_one j i in
      ap version_of (give_all_else l (give_back c m) (all_map (HasCell m.cells) (λ c. 1 ≤ c) (λ x q. q.low) l h.1) d j) ∙ rw e (given_back_is_cleared m c h.0))
    where
      first_one : (In d l → ⊥) → In d (c ∷ l) → d ≡ c
      first_one j (inl e) = e
      first_one j (inr q) = absurd (j q)
