-- A slot's lists searched: own entries from the last back, records from the first on.
use Rattle.std.specs.Prelude.{ℕ, Bool, true, false, cond, ◌||◌, List, [], ◌∷◌, ◌≡◌, refl, get_or, nat_eq, Option as Maybe, Some, None}
use Rattle.std.specs.List.{find, list_any}
use Rattle.std.specs.Option.{option_map, option_or}
use Rattle.std.proofs.Common.{reverse}
use Rattle.std.proofs.lemmas.Bool.Decides.{nat_tests}
use Rattle.std.proofs.lemmas.List.{reverse-append}
use Rattle.std.proofs.lemmas.List.Folds.{find-append}
use native.Mathlib.Omega.{arith}
use Rattle.std.proofs.Math.Option.{Option, none, some}
use Rattle.kinds.specs.declared.Cell.{Cell}
use Rattle.kinds.specs.Versions.{at}
use Rattle.words.specs.Lists.{last, or_else}
use Rattle.words.specs.Slots.{Write}
use Rattle.rules.specs.Read.{own, recorded}
use Rattle.lists.specs.Triples.{entry, entries, records}
use Rattle.reads.specs.Found.{own_of}

-- an entry is of the row; its new cell
abbrev pub of_row : ℕ → List ℕ → Bool
of_row row w = nat_eq (get_or w 0 0) row

abbrev pub new_of : List ℕ → Cell
new_of w = at (get_or w 2 0)

one_more : (o : Option Write) (q : Maybe (List ℕ)) (w : List ℕ) (b : Bool) → own_of o ≡ option_map new_of q
    → own_of (or_else o (cond b (some (entry w)) none)) ≡ option_map new_of (option_or q (cond b (Some w) None))
one_more none None w true e = refl
one_more none None w false e = refl
one_more none (Some v) w b e = cc
one_more (some v) None w b e = cc
one_more (some v) (Some u) w b e = e

pub own_found : (row : ℕ) (ws : List (List ℕ)) → own_of (own (entries ws) row) ≡ option_map new_of (find (of_row row) (reverse ws))
unfolding own last
own_found row [] = refl
own_found row (w ∷ ws) = rw (reverse-append (w ∷ []) ws, find-append) (one_more (own (entries ws) row) (find (of_row row) (reverse ws)) w (of_row row w) (own_found row ws))

pub recorded_any : (c : ℕ) (rs : List (List ℕ)) → list_any (λ r. nat_eq (get_or r 1 0) c) rs ≡ recorded c (records rs)
unfolding recorded
recorded_any c [] = refl
recorded_any c (r ∷ rs) =
    let e : nat_eq (get_or r 1 0) c ≡ nat_eq c (get_or r 1 0) = grind (arith, nat_tests) in
    λ i. e i || recorded_any c rs i
