-- The code goes through the slots from the first to the last and lowers one number. It comes to the definitions of `Horizon.antt`, which
-- speak of the occupied slots and of no order.
use Rattle.std.specs.Prelude.{ℕ, ◌+◌, ◌<◌, ◌≤◌, min, Bool, true, false, List, [], ◌∷◌, ◌≡◌, refl, eqb, length, get_or, drop, map, fold}
use Rattle.std.proofs.Common.{arith, ◌∙◌, ap, add-one, drop-cons, drop_of_length-le}
use Rattle.words.specs.Lists.{keep, least}
use Rattle.words.specs.Lists as lists
use Rattle.records.specs.declared.Slot.{Slot}
use Rattle.records.specs.Horizon.{lowered, occupied}

-- a lower ceiling is one member more
pub lower_ceiling : (x c : ℕ) (l : List ℕ) → least (min x c) l ≡ min x (least c l)
unfolding least
lower_ceiling x c [] = refl
lower_ceiling x c (y ∷ l) =
    let e = lower_ceiling x c l in
    omega arith

module _ {A : Type 0} {S : Type 0} (F : A → S → S) (l : List A) where
  -- the next member is taken
  pub fold_next : (i : ℕ) (d : A) (s : S) → i < length l → lists.fold F (drop i l) s ≡ lists.fold F (drop (i + 1) l) (F (get_or l i d) s)
  unfolding lists.fold
  fold_next i d s h = rw (add-one i, drop-cons l i d h)

  -- no member is left
  pub fold_end : (i : ℕ) (s : S) → i ≤ length l → length l ≤ i → lists.fold F (drop i l) s ≡ s
  unfolding lists.fold
  fold_end i s h g = ap (λ (k : List A). lists.fold F k s) (drop_of_length-le l {i = i} g)

-- The number that a slot counts with is `own`: its xmin, or its id.
module _ (own : Slot → ℕ) where
  abbrev pub lowers : Slot → ℕ → ℕ
  lowers s c = lowered s.id (own s) c

  one_slot : (s : Slot) (l : List Slot) (c : ℕ) (b : Bool) → eqb s.id 0 ≡ b → least (lowers s c) (map own (occupied l)) ≡ least c (map own (occupied (s ∷ l)))
  unfolding least keep
  one_slot s l c true e = rw e
  one_slot s l c false e = rw e (lower_ceiling (own s) c (map own (occupied l)))

  -- first to last, one number lowered, is the least of the occupied
  pub fold_is_least : (slots : List Slot) (c : ℕ) → fold (λ a s. lowers s a) c slots ≡ least c (map own (occupied slots))
  unfolding least keep
  fold_is_least [] c = refl
  fold_is_least (s ∷ l) c = fold_is_least l (lowers s c) ∙ one_slot s l c (eqb s.id 0) refl
