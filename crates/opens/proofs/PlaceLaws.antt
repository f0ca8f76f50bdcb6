-- Ids put one after the other, and words stored one after the other.
use Rattle.std.specs.Prelude.{ℕ, ◌+◌, ◌-◌, ◌≤◌, ◌<◌, Bool, true, false, not, suc, List, [], ◌∷◌, ◌++◌, ◌≡◌, refl, length, get_or, set, take, drop, eqb}
use Rattle.std.specs.Int.{from_bool}
use Rattle.std.proofs.Common.{append_assoc, append-nil, sym, ap, ◌∙◌, add-one, arith, drop-cons, drop_of_length-le}
use Rattle.std.proofs.Math.Nat.{add-zero}
use Rattle.std.proofs.lemmas.List.{take-set, take_more_set}
use Rattle.std.proofs.lemmas.List.Edits.{sets, sets-eq, paste_all}
use Rattle.std.proofs.lemmas.Slice.{put_mid-paste}
use borrow.Rule.Slice.PartMut.{put_mid}
use Rattle.words.specs.Sizes.{ID}
use Rattle.rules.specs.Snapshot.{occupied}
use Rattle.rules.proofs.Theory.Cases.{by_bool}

-- an id puts the place one on, 0 leaves it
pub one_at_most : (n : ℕ) (b : Bool) → n ≡ from_bool b → n ≤ 1
one_at_most n true e = omega arith
one_at_most n false e = omega arith

module _ (ss : List (List ℕ)) (ids : List ℕ) (k i : ℕ) where
  -- slot i's id is put at place k, and the place moves on where it is an id
  pub gathered_more : i < length ss → k < length ids
      → take (k + from_bool (not (eqb (get_or (get_or ss i []) ID 0) 0))) (set ids k (get_or (get_or ss i []) ID 0)) ++ occupied ID (drop (i + 1) ss) ≡ take k ids ++ occupied ID (drop i ss)
  unfolding occupied
  gathered_more h r =
      let x = get_or (get_or ss i []) ID 0 in
      rw (drop-cons ss i [] h, add-one i)
      (by_bool (eqb x 0)
      (λ e. rw (e, add-zero, take-set ids k x))
      (λ e. rw (e, take_more_set ids k x r) (append_assoc (take k ids) (x ∷ []) (occupied ID (drop (suc i) ss)))))

  pub gathered_all : length ss ≤ i → take k ids ++ occupied ID (drop i ss) ≡ occupied ID ss → take k ids ≡ occupied ID ss
  unfolding occupied
  gathered_all h e = sym (append-nil (take k ids)) ∙ ap (λ (l : List (List ℕ)). take k ids ++ occupied ID l) (sym (drop_of_length-le ss {i = i} h)) ∙ e

-- what a copy leaves is what the stores leave, one after the other
pub put_mid-sets : (l vs ys : List ℕ) (a : ℕ) → ys ≡ vs → a + length vs ≤ length l → put_mid a (a + length vs - a) l ys ≡ sets l a vs
put_mid-sets l vs ys a e h =
    put_mid-paste a (a + length vs - a) l ys vs (length vs) e (omega arith) refl
    ∙ paste_all l a vs (length vs) refl
    ∙ sym (append_assoc (take a l) vs (drop (a + length vs) l))
    ∙ sym (sets-eq vs l a h)
