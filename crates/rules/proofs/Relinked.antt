-- The cells of a list linked one to the next: following next passes exactly the list, and nothing but next is changed.
use Rattle.std.specs.Prelude.{ℕ, ◌≤◌, List, [], ◌∷◌, ◌≡◌, refl, ◌≢◌, length, get_or}
use Rattle.std.proofs.Common.{sym, ap, ◌∙◌, subst, inl, inr}
use Rattle.kinds.specs.declared.Version.{Version}
use Rattle.kinds.specs.Versions.{with_next, version_of, cell_at, version_at, link_at, put_version}
use Rattle.rules.specs.Vacuum.{relink}
use Rattle.rules.specs.Exactly.{In, All}
use Rattle.rules.proofs.Exactly.{all_map}
use Rattle.rules.specs.Along.{Along}
use Rattle.rules.specs.Theory.CellLaws.{HasCell}
use Rattle.rules.proofs.Theory.CellLaws.{length_put, put_on, put_else, put_link}
use Rattle.rules.specs.Members.{Once}

abbrev linked_to : List (List ℕ) → ℕ → ℕ → List (List ℕ)
linked_to cs c d = put_version cs c (with_next (version_at cs c) d)

still_has : (cs : List (List ℕ)) (c d : ℕ) (l : List ℕ) → All (HasCell cs) l → All (HasCell (linked_to cs c d)) l
still_has cs c d l h = all_map (HasCell cs) (HasCell (linked_to cs c d)) (λ x q. record { low = q.low; high = rw (length_put cs c (with_next (version_at cs c) d) (link_at cs c)) q.high }) l h

pub relink_length : (l : List ℕ) (cs : List (List ℕ)) → length (relink l cs) ≡ length cs
unfolding relink
relink_length [] cs = refl
relink_length (c ∷ []) cs = length_put cs c (with_next (version_at cs c) 0) (link_at cs c)
relink_length (c ∷ d ∷ l) cs = relink_length (d ∷ l) (linked_to cs c d) ∙ length_put cs c (with_next (version_at cs c) d) (link_at cs c)

-- a cell that is not of the list is as it was
pub relink_else : (l : List ℕ) (cs : List (List ℕ)) → All (λ c. 1 ≤ c) l → (x : ℕ) → (In x l → ⊥) → cell_at (relink l cs) x ≡ cell_at cs x
unfolding relink
relink_else [] cs h x n = refl
relink_else (c ∷ []) cs h x n = put_else cs c (with_next (version_at cs c) 0) (link_at cs c) x h.0 (λ e. n (inl e))
relink_else (c ∷ d ∷ l) cs h x n = relink_else (d ∷ l) (linked_to cs c d) h.1 x (λ i. n (inr i)) ∙ put_else cs c (with_next (version_at cs c) d) (link_at cs c) x h.0 (λ e. n (inl e))

lows : (cs : List (List ℕ)) (l : List ℕ) → All (HasCell cs) l → All (λ c. 1 ≤ c) l
lows cs l h = all_map (HasCell cs) (λ c. 1 ≤ c) (λ x q. q.low) l h

-- following next from the first passes exactly the list, to pointer 0
pub relink_along : (c : ℕ) (l : List ℕ) (cs : List (List ℕ)) → Once (c ∷ l) → All (HasCell cs) (c ∷ l) → Along (version_at (relink (c ∷ l) cs)) c (c ∷ l) 0
unfolding relink
relink_along c [] cs o h = (refl, ap (λ (v : Version). v.next.0) (put_on cs c (with_next (version_at cs c) 0) (link_at cs c) h.0))
relink_along c (d ∷ l) cs o h =
    let i = relink_along d l (linked_to cs c d) o.1 (still_has cs c d (d ∷ l) h.1) in
    let e : version_at (relink (d ∷ l) (linked_to cs c d)) c ≡ with_next (version_at cs c) d = ap version_of (relink_else (d ∷ l) (linked_to cs c d) (lows cs (d ∷ l) h.1) c o.0) ∙ put_on cs c (with_next (version_at cs c) d) (link_at cs c) h.0 in
    (refl, subst (λ (v : Version). Along (version_at (relink (d ∷ l) (linked_to cs c d))) v.next.0 (d ∷ l) 0) (sym e) i)

-- a cell of the list: its next is changed, the rest of its version kept, and its free link
pub relink_keeps : (l : List ℕ) (cs : List (List ℕ)) → Once l → All (HasCell cs) l → (x : ℕ) → In x l → (y : ℕ) × (version_at (relink l cs) x ≡ with_next (version_at cs x) y) × (link_at (relink l cs) x ≡ link_at cs x)
unfolding relink
relink_keeps [] cs o h x i = absurd i
relink_keeps (c ∷ []) cs o h x (inl e) = rw e (0, put_on cs c (with_next (version_at cs c) 0) (link_at cs c) h.0, put_link cs c (with_next (version_at cs c) 0) (link_at cs c) h.0)
relink_keeps (c ∷ []) cs o h x (inr i) = absurd i
relink_keeps (c ∷ d ∷ l) cs o h x (inl e) =
    let g : cell_at (relink (d ∷ l) (linked_to cs c d)) c ≡ cell_at (linked_to cs c d) c = relink_else (d ∷ l) (linked_to cs c d) (lows cs (d ∷ l) h.1) c o.0 in
    rw e (
      d,
      ap version_of g ∙ put_on cs c (with_next (version_at cs c) d) (link_at cs c) h.0,
      ap (λ (w : List ℕ). get_or w 7 0) g ∙ put_link cs c (with_next (version_at cs c) d) (link_at cs c) h.0,
    )
relink_keeps (c ∷ d ∷ l) cs o h x (inr i) =
    let r = relink_keeps (d ∷ l) (linked_to cs c d) o.1 (still_has cs c d (d ∷ l) h.1) x i in
    let n : x ≢ c = λ e. o.0 (subst (λ (y : ℕ). In y (d ∷ l)) e i) in
    let g : cell_at (linked_to cs c d) x ≡ cell_at cs x = put_else cs c (with_next (version_at cs c) d) (link_at cs c) x h.0.low n in
    (r.0, r.1 ∙ ap (λ (w : List ℕ). with_next (version_of w) r.0) g, r.2 ∙ ap (λ (w : List ℕ). get_or w 7 0) g)
