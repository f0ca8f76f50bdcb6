-- The rows read one by one, over the words that the code works on: a copy of the slot, and the rows listed so far.
use Rattle.std.specs.Prelude.{ℕ, suc, ◌+◌, ◌≤◌, cond, get_or, set, leb}
use mathlib.Core.List.{List, [], ◌∷◌}
use Rattle.std.proofs.Math.Path.{◌≡◌, refl, ap}
use Rattle.std.proofs.Common.{sym, ◌∙◌, add-one, eq-eqb, ne_eqb}
use native.Mathlib.Omega.{arith}
use Rattle.kinds.specs.declared.Version.{Version}
use Rattle.words.specs.Sizes.{base}
use Rattle.rules.specs.Numbers.{result_full}
use Rattle.words.specs.Lists.{keep, fold, from, nonzero}
use Rattle.words.specs.Slots.{Rec, slot_of, add_rec, add_recs}
use Rattle.rules.specs.Read.{answer_at, Sight, blocked, sees, read_row}
use Rattle.rules.specs.Lookup.{is_key}
use Rattle.rules.proofs.Theory.Cases.{by_bool}
use Rattle.std.specs.Prelude.{Result, Ok, Err}
use Rattle.kinds.specs.declared.refusals.Refusal.{Refusal}
use Rattle.kinds.specs.Results.{number, about}
use Rattle.finds.specs.Listing.{Listing}

-- what the code answers, with count rows listed
abbrev pub listing : ℕ → Result (Unit {0}) Refusal → Listing
listing count (Ok _) = Listing.Rows count
listing count (Err e) = Listing.Stopped (number e) (about e)

-- what the rows came to, and the list of them
pub record Note : Type 0 where
  pub listing : Listing
  pub listed : List ℕ

abbrev pub note : Listing → List ℕ → Note
note l b = record { listing = l; listed = b }

-- beside the copy of the slot
pub record Sweep : Type 0 where
  pub slot : List ℕ
  pub found : Note

abbrev pub sweep : List ℕ → Note → Sweep
sweep t q = record { slot = t; found = q }

module _ (f : ℕ → Version) (key room : ℕ) where
  -- the row's version is in cell c: it is listed where it has the key
  unfoldable pub list_at : ℕ → ℕ → List ℕ → ℕ → Note
  list_at row count b c =
      cond (is_key key (answer_at f c))
      (cond (leb room count) (note (Listing.Stopped result_full 0) b) (note (Listing.Rows (count + 1)) (set b count row)))
      (note (Listing.Rows count) b)

module _ (f : ℕ → Version) (n key room : ℕ) where
  unfoldable pub seen_row : ℕ → List ℕ → ℕ → List ℕ → Sight → Sweep
  seen_row row t count b (blocked k x) = sweep t (note (Listing.Stopped k x) b)
  seen_row row t count b (sees c new) = sweep (add_recs base new t) (list_at f key room row count b c)

  -- one row more
  unfoldable pub step_row : ℕ → ℕ → List ℕ → ℕ → List ℕ → Sweep
  step_row head row t count b = seen_row row t count b (read_row base n f head (slot_of base t) (slot_of base t).recs row)

  -- a row more after what the rows before it came to; its head is among `heads`
  unfoldable pub go_on : List ℕ → ℕ → List ℕ → List ℕ → Listing → Sweep
  go_on heads row t b (Listing.Rows count) = step_row (get_or heads row 0) row t count b
  go_on heads row t b (Listing.Stopped k x) = sweep t (note (Listing.Stopped k x) b)

  abbrev pub after_row : List ℕ → ℕ → Sweep → Sweep
  after_row heads row s = go_on heads row s.slot s.found.listed s.found.listing

  -- the rows whose marks are set, ascending
  abbrev pub sweep_rows : List ℕ → List ℕ → Sweep → Sweep
  sweep_rows heads rows s = fold (after_row heads) rows s

-- the rows below r whose marks are set: ascending, each once
abbrev pub marked_rows : List ℕ → ℕ → ℕ → List ℕ
marked_rows marks a k = keep (λ r. nonzero (get_or marks r 0)) (from a k)

-- ---- one row, by what its read came to

module _ (f : ℕ → Version) (n key room head row : ℕ) (t : List ℕ) (count : ℕ) (b : List ℕ) where
  abbrev Reads : Sight → Type 0
  Reads g = g ≡ read_row base n f head (slot_of base t) (slot_of base t).recs row

  pub step_blocked : (k x : ℕ) → Reads (blocked k x) → sweep t (note (Listing.Stopped k x) b) ≡ step_row f n key room head row t count b
  unfolding step_row seen_row
  step_blocked k x e = ap (seen_row f n key room row t count b) e

  pub step_known : (c : ℕ) → Reads (sees c []) → sweep t (list_at f key room row count b c) ≡ step_row f n key room head row t count b
  unfolding step_row seen_row fold
  step_known c e = ap (seen_row f n key room row t count b) e

  pub step_fresh : (c : ℕ) (r : Rec) → Reads (sees c (r ∷ [])) → sweep (add_rec base r t) (list_at f key room row count b c) ≡ step_row f n key room head row t count b
  unfolding step_row seen_row fold
  step_fresh c r e = ap (seen_row f n key room row t count b) e

  -- one row is listed at the most
  listed_next : (c k : ℕ) → (list_at f key room row count b c).listing ≡ Listing.Rows k → k ≤ count + 1
  unfolding list_at
  listed_next c k e =
      by_bool (is_key key (answer_at f c))
      (λ h. by_bool (leb room count)
      (λ l. absurd (let g = rw (h, l) at e in let z : ◌≡◌ {A = ℕ} 0 1 = cc in omega arith))
      (λ l. let g = rw (h, l) at e in let q : count + 1 ≡ k = cc in omega arith))
      (λ h. let g = rw h at e in let q : count ≡ k = cc in omega arith)

  seen_next : (k : ℕ) (g : Sight) → (seen_row f n key room row t count b g).found.listing ≡ Listing.Rows k → k ≤ count + 1
  unfolding seen_row
  seen_next k (blocked j x) e = absurd (let z : ◌≡◌ {A = ℕ} 0 1 = cc in omega arith)
  seen_next k (sees c new) e = listed_next c k e

  pub step_next : (u : List ℕ) (k : ℕ) (d : List ℕ) → sweep u (note (Listing.Rows k) d) ≡ step_row f n key room head row t count b → k ≤ count + 1
  unfolding step_row
  step_next u k d e = seen_next k _ (sym (ap (λ (s : Sweep). s.found.listing) e))

-- ---- row by row

module _ (f : ℕ → Version) (n key room : ℕ) (heads marks : List ℕ) where
  -- the rows from a on, j of them
  abbrev pub remaining : ℕ → ℕ → Sweep → Sweep
  remaining a j s = sweep_rows f n key room heads (marked_rows marks a j) s

  pub scan_end : (a j : ℕ) (s : Sweep) → j ≤ 0 → remaining a j s ≡ s
  unfolding keep from fold
  scan_end a j s h =
      let e : j ≡ 0 = omega arith in
      rw e

  pub stays : (l : List ℕ) (t : List ℕ) (k x : ℕ) (b : List ℕ) → sweep_rows f n key room heads l (sweep t (note (Listing.Stopped k x) b)) ≡ sweep t (note (Listing.Stopped k x) b)
  unfolding fold go_on
  stays [] t k x b = refl
  stays (r ∷ l) t k x b = stays l t k x b

  -- row a, when `count` rows are listed: i rows come after it
  module _ (a j i : ℕ) (more : j ≡ suc i) (t : List ℕ) (count : ℕ) (b : List ℕ) where
    pub scan_skips : get_or marks a 0 ≡ 0 → remaining (a + 1) i (sweep t (note (Listing.Rows count) b)) ≡ remaining a j (sweep t (note (Listing.Rows count) b))
    unfolding keep from
    scan_skips h = rw (more, add-one a, eq-eqb (get_or marks a 0) 0 h)

    module _ (h : ¬ (get_or marks a 0 ≡ 0)) (q : Sweep) (e : q ≡ step_row f n key room (get_or heads a 0) a t count b) where
      pub scan_goes : remaining (a + 1) i q ≡ remaining a j (sweep t (note (Listing.Rows count) b))
      unfolding keep from fold go_on
      scan_goes = rw (more, add-one a, ne_eqb (get_or marks a 0) 0 h, e)

      pub scan_stops : (u : List ℕ) (k x : ℕ) (d : List ℕ) → q ≡ sweep u (note (Listing.Stopped k x) d) → q ≡ remaining a j (sweep t (note (Listing.Rows count) b))
      scan_stops u k x d p = rw p (sym (stays (marked_rows marks (a + 1) i) u k x d)) ∙ ap (remaining (a + 1) i) (sym p) ∙ scan_goes
