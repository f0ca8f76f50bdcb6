-- What the chains over the arena come to, in the words of the rules.
use Rattle.std.specs.Prelude.{ℕ, ◌≤◌, min, max, Bool, cond, List, [], ◌∷◌, ◌≡◌, refl, length, get_or, map, fold, position, unwrap_or, eqb}
use Rattle.std.specs.List.{position_or_len, reduce}
use Rattle.std.proofs.Common.{◌∙◌, arith, eqb-true, ltb-true, ltb-false}
use lib.Dec.{ltb}
use Rattle.std.specs.Ordering.{max_by_ordering, nat_cmp}
use Rattle.std.proofs.lemmas.List.Folds.{max_of_map}
use Rattle.std.proofs.lemmas.List.Recursion.{is_position_or_len}
use Rattle.words.specs.Sizes.{ID}
use Rattle.words.specs.Lists.{least, greatest}
use Rattle.rules.specs.Snapshot.{occupied, vacant}
use Rattle.rules.proofs.Theory.Cases.{by_bool}
use Rattle.slots.specs.OccupiedLaws.{IsLowestEmpty}

abbrev pub is_empty : List ℕ → Bool
is_empty t = eqb (get_or t ID 0) 0

-- ---- the least of the occupied

least_min : (c x : ℕ) (l : List ℕ) → least (min c x) l ≡ min x (least c l)
unfolding least
least_min c x [] = omega arith
least_min c x (y ∷ l) = omega (arith, least_min c x l)

-- an empty slot has no part in it
pub least_fold : (k c : ℕ) (l : List (List ℕ)) → fold (λ a t. cond (is_empty t) a (min a (get_or t k 0))) c l ≡ least c (occupied k l)
unfolding least occupied
least_fold k c [] = refl
least_fold k c (t ∷ l) = by_bool (is_empty t)
    (λ e. rw e (least_fold k c l))
    (λ e. rw e (least_fold k (min c (get_or t k 0)) l ∙ least_min c (get_or t k 0) (occupied k l)))

-- ---- the greatest id; that of an empty slot is 0

greatest_fold : (c : ℕ) (l : List (List ℕ)) → fold (λ a t. max a (get_or t ID 0)) c l ≡ max c (greatest (occupied ID l))
unfolding greatest occupied
greatest_fold c [] = omega arith
greatest_fold c (t ∷ l) =
    let e = greatest_fold (max c (get_or t ID 0)) l in
    by_bool (is_empty t) (λ z. rw z (e ∙ omega (arith, eqb-true _ _ z))) (λ z. rw z (e ∙ omega arith))

pub greatest_max : (l : List (List ℕ)) → unwrap_or (reduce (λ p z. max_by_ordering (nat_cmp p z) p z) (map (λ t. get_or t ID 0) l)) 0 ≡ greatest (occupied ID l)
greatest_max l = max_of_map (λ t. get_or t ID 0) l ∙ greatest_fold 0 l ∙ omega arith

-- ---- the lowest empty slot

vacant_position : (l : List (List ℕ)) → vacant l ≡ position_or_len is_empty l
unfolding vacant
vacant_position l = is_position_or_len vacant is_empty refl (λ t l. by_bool (is_empty t) (λ e. rw e) (λ e. rw e (omega arith))) l

vacant_le : (l : List (List ℕ)) → vacant l ≤ length l
unfolding vacant
vacant_le [] = omega arith
vacant_le (t ∷ l) = by_bool (is_empty t) (λ e. rw e (omega arith)) (λ e. rw e (omega (arith, vacant_le l)))

pub lowest_position : (l : List (List ℕ)) → IsLowestEmpty l (position is_empty l)
lowest_position l = rw (← vacant_position l) (by_bool (ltb (vacant l) (length l)) (λ e. rw e (refl, ltb-true _ _ e)) (λ e. rw e (omega (arith, ltb-false _ _ e, vacant_le l))))
