-- Abort: "unlock (owner 0, here and in commit) each base whose owner is this id, give cells back in write order, empty the slot". It
-- unlocks exactly those bases.
use Rattle.std.specs.Prelude.{ℕ, ◌≤◌, ◌<◌, ◌&&◌, ◌≡◌, ◌≢◌, get_or, eqb}
use mathlib.Core.List.{List, [], ◌∷◌, reverse_aux}
use Rattle.std.proofs.Math.Path.{refl, sym, ap}
use Rattle.std.proofs.Common.{◌∙◌, subst, inl, inr, arith, get_or-set_same}
use Rattle.std.proofs.Math.ListN.{length}
use Rattle.kinds.specs.declared.Version.{Version}
use Rattle.kinds.specs.Answer.{Answer, Done}
use Rattle.words.specs.Sizes.{Sizes, FREE}
use Rattle.words.specs.Lists.{nonzero, fold}
use Rattle.rules.proofs.Theory.Cases.{by_bool, by_eq, by_le}
use Rattle.kinds.specs.Versions.{empty_version, unlocked, version_of, cell_at, version_at, link_at, put_version}
use Rattle.words.specs.Slots.{Write, emptied}
use Rattle.rules.specs.Memory.{Mem, size_r, size_n, free, slot_at, with_cells, with_slot}
use Rattle.rules.specs.Outcome.{Outcome, out, is_cell}
use Rattle.rules.specs.Abort.{unlock_base, news, abort_out}
use Rattle.rules.specs.Exactly.{In, All, NoneOf, each_of, Reflects}
use Rattle.rules.proofs.Exactly.{all_map, is_equal, is_nonzero, is_both, holds_true, fails_false, none_append, none_each}
use Rattle.rules.specs.Terms.{Fitting}
use Rattle.rules.proofs.Terms.{store_fits, is_cell_lem}
use Rattle.rules.proofs.Along.{positive}
use Rattle.rules.specs.Theory.CellLaws.{HasCell}
use Rattle.rules.proofs.Theory.CellLaws.{length_put, put_on, put_link, put_else}
use Rattle.rules.specs.Members.{Once}
use Rattle.rules.proofs.Members.{all_in, in_all}
use Rattle.rules.specs.GivenBack.{give_all}
use Rattle.rules.proofs.GivenBack.{give_all_rows, give_all_slots, give_all_else, give_all_cleared, give_all_meta}
use Rattle.rules.specs.HandedOut.{FreeList}
use Rattle.rules.proofs.HandedOut.{free_agree, give_all_in_front}
use Rattle.rules.proofs.SharedLines.{slot_lines}
use Rattle.rules.proofs.AbortRefuses.{undo_lines, abort_lines, abort_refuses_exactly}
use Rattle.rules.specs.AbortUndoes.{bases}

module _ (id : ℕ) where
  -- a base that this id owns
  pub record Owned (cs : List (List ℕ)) (c : ℕ) : Type 0 where
    pub some : c ≢ 0
    pub owner : (version_at cs c).owner.0 ≡ id

  is_owned : (cs : List (List ℕ)) (c : ℕ) → Reflects (nonzero c && eqb (version_at cs c).owner.0 id) ((c ≢ 0) × ((version_at cs c).owner.0 ≡ id))
  is_owned cs c = is_both _ _ (is_nonzero c) (is_equal (version_at cs c).owner.0 id)

  unlock_on : (w : Write) (cs : List (List ℕ)) → Owned cs w.base → unlock_base id w cs ≡ put_version cs w.base (unlocked (version_at cs w.base))
  unfolding unlock_base
  unlock_on w cs o = rw (holds_true _ (is_owned cs w.base) (o.some, o.owner))

  unlock_off : (w : Write) (cs : List (List ℕ)) → (Owned cs w.base → ⊥) → unlock_base id w cs ≡ cs
  unfolding unlock_base
  unlock_off w cs n = rw (fails_false _ (is_owned cs w.base) (λ q. n (record { some = q.0; owner = q.1 })))

  by_owned : {C : Type 0} (cs : List (List ℕ)) (c : ℕ) → (Owned cs c → C) → ((Owned cs c → ⊥) → C) → C
  by_owned cs c f g = by_eq c 0 (λ e. g (λ o. o.some e)) (λ n. by_eq (version_at cs c).owner.0 id (λ e. f (record { some = n; owner = e })) (λ e. g (λ o. e o.owner)))

  unlock_length : (w : Write) (cs : List (List ℕ)) → length (unlock_base id w cs) ≡ length cs
  unlock_length w cs = by_owned cs w.base (λ o. rw (unlock_on w cs o) (length_put cs w.base (unlocked (version_at cs w.base)) (link_at cs w.base))) (λ n. rw (unlock_off w cs n))

  -- one write: its base where it is owned, and nothing else
  unlock_else : (w : Write) (cs : List (List ℕ)) (c : ℕ) → (c ≡ w.base → Owned cs c → ⊥) → cell_at (unlock_base id w cs) c ≡ cell_at cs c
  unlock_else w cs c n = by_owned cs w.base
      (λ o. rw (unlock_on w cs o) (put_else cs w.base (unlocked (version_at cs w.base)) (link_at cs w.base) c (positive w.base o.some) (λ e. n e (subst (Owned cs) (sym e) o))))
      (λ o. rw (unlock_off w cs o))

  unlock_same : (w : Write) (cs : List (List ℕ)) (c : ℕ) → c ≡ w.base → c ≤ length cs → Owned cs c → version_at (unlock_base id w cs) c ≡ unlocked (version_at cs c)
  unlock_same w cs c e b o = rw (unlock_on w cs (subst (Owned cs) e o), e) (put_on cs w.base (unlocked (version_at cs w.base)) (link_at cs w.base) (record { low = positive w.base (λ q. o.some (e ∙ q)); high = omega (arith, e) }))

  -- every link is as it was
  unlock_links : (w : Write) (cs : List (List ℕ)) (c : ℕ) → w.base ≤ length cs → link_at (unlock_base id w cs) c ≡ link_at cs c
  unlock_links w cs c b = by_owned cs w.base
      (λ o. rw (unlock_on w cs o)
      (by_eq c w.base
      (λ e. rw e (put_link cs w.base (unlocked (version_at cs w.base)) (link_at cs w.base) (record { low = positive w.base o.some; high = b })))
      (λ e. ap (λ (y : List ℕ). get_or y 7 0) (put_else cs w.base (unlocked (version_at cs w.base)) (link_at cs w.base) c (positive w.base o.some) e))))
      (λ o. rw (unlock_off w cs o))

  -- ---- all of them
  abbrev unlock_all : List Write → List (List ℕ) → List (List ℕ)
  unlock_all ws cs = fold (unlock_base id) ws cs

  pub unlock_all_length : (ws : List Write) (cs : List (List ℕ)) → length (unlock_all ws cs) ≡ length cs
  unfolding fold
  unlock_all_length [] cs = refl
  unlock_all_length (w ∷ ws) cs = unlock_all_length ws (unlock_base id w cs) ∙ unlock_length w cs

  -- what is unlocked stays so: unlocking twice is unlocking once
  stays : (ws : List Write) (cs : List (List ℕ)) (c : ℕ) (v : Version) → c ≤ length cs → version_at cs c ≡ unlocked v → version_at (unlock_all ws cs) c ≡ unlocked v
  unfolding fold
  stays [] cs c v b e = e
  stays (w ∷ ws) cs c v b e =
      stays ws (unlock_base id w cs) c v (rw (unlock_length w cs) b)
      (by_eq c w.base
      (λ q. by_owned cs c (λ o. unlock_same w cs c q b o ∙ ap unlocked e) (λ o. ap version_of (unlock_else w cs c (λ _. o)) ∙ e))
      (λ q. ap version_of (unlock_else w cs c (λ p. absurd (q p))) ∙ e))

  -- a base that this id owns is unlocked
  pub unlock_all_on : (ws : List Write) (cs : List (List ℕ)) (c : ℕ) → In c (bases ws) → c ≤ length cs → Owned cs c → version_at (unlock_all ws cs) c ≡ unlocked (version_at cs c)
  unfolding fold
  unlock_all_on [] cs c i b o = absurd i
  unlock_all_on (w ∷ ws) cs c i b o = by_eq c w.base
      (λ q. stays ws (unlock_base id w cs) c (version_at cs c) (rw (unlock_length w cs) b) (unlock_same w cs c q b o))
      (λ q.
      let e : version_at (unlock_base id w cs) c ≡ version_at cs c = ap version_of (unlock_else w cs c (λ p. absurd (q p))) in
      unlock_all_on ws (unlock_base id w cs) c (later q i) (rw (unlock_length w cs) b) (record { some = o.some; owner = ap (λ (v : Version). v.owner.0) e ∙ o.owner }) ∙ ap unlocked e)
    where
      later : c ≢ w.base → In c (bases (w ∷ ws)) → In c (bases ws)
      later q (inl e) = absurd (q e)
      later q (inr j) = j

  -- every other cell is as it was
  pub unlock_all_else : (ws : List Write) (cs : List (List ℕ)) (c : ℕ) → (In c (bases ws) → Owned cs c → ⊥) → cell_at (unlock_all ws cs) c ≡ cell_at cs c
  unfolding fold
  unlock_all_else [] cs c n = refl
  unlock_all_else (w ∷ ws) cs c n =
      let e : cell_at (unlock_base id w cs) c ≡ cell_at cs c = unlock_else w cs c (λ q. n (inl q)) in
      unlock_all_else ws (unlock_base id w cs) c (λ i o. n (inr i) (record { some = o.some; owner = sym (ap (λ (y : List ℕ). (version_of y).owner.0) e) ∙ o.owner })) ∙ e

  pub unlock_all_links : (ws : List Write) (cs : List (List ℕ)) (c : ℕ) → All (λ b. b ≤ length cs) (bases ws) → link_at (unlock_all ws cs) c ≡ link_at cs c
  unfolding fold
  unlock_all_links [] cs c h = refl
  unlock_all_links (w ∷ ws) cs c h = unlock_all_links ws (unlock_base id w cs) c (all_map (λ b. b ≤ length cs) (λ b. b ≤ length (unlock_base id w cs)) (λ x q. rw (unlock_length w cs) q) (bases ws) h.1) ∙ unlock_links w cs c h.0

-- ---- the call
module _ {z : Sizes} (m : Mem z) (s id : ℕ) (accepted : NoneOf (abort_lines m s id)) where
  abbrev ws : List Write
  ws = (slot_at m s).writes

  abbrev after : Mem z
  after = (abort_out m s id).after

  abbrev unlocked_mem : Mem z
  unlocked_mem = with_cells m (fold (unlock_base id) ws m.cells)

  -- exactly 01's memory
  pub abort_leaves_exactly : abort_out m s id ≡ out Done [] (with_slot (give_all (news ws) unlocked_mem) s (emptied z))
  abort_leaves_exactly = (abort_refuses_exactly m s id).otherwise accepted

  after_is : after ≡ with_slot (give_all (news ws) unlocked_mem) s (emptied z)
  after_is = ap (λ (o : Outcome z Answer ℕ). o.after) abort_leaves_exactly

  fitting : Fitting m (size_r m) (size_n m)
  fitting = store_fits m accepted.0

  sound : All (λ w. NoneOf (undo_lines m w)) ws
  sound = (none_each (undo_lines m) ws).0 ((none_append (slot_lines m s id) (each_of (undo_lines m) ws)).0 accepted).1

  bases_inside : (l : List Write) → All (λ w. NoneOf (undo_lines m w)) l → All (λ b. b ≤ length m.cells) (bases l)
  bases_inside [] h = tt
  bases_inside (w ∷ l) h = (by_le w.base (size_n m) (λ b. omega (arith, fitting.cells)) (λ b. absurd (h.0.0 b)), bases_inside l h.1)

  news_inside : (l : List Write) → All (λ w. NoneOf (undo_lines m w)) l → All (HasCell m.cells) (news l)
  news_inside [] h = tt
  news_inside (w ∷ l) h = (
    by_bool (is_cell (size_n m) w.new)
        (λ e. let o = (is_cell_lem (size_n m) w.new).yes e in record { low = o.low; high = omega (arith, o.high, fitting.cells) })
        (λ e. absurd (h.0.1.0 ((is_cell_lem (size_n m) w.new).no e))),
    news_inside l h.1,
  )

  has_news : All (HasCell unlocked_mem.cells) (news ws)
  has_news = all_map (HasCell m.cells) (HasCell unlocked_mem.cells) (λ x q. record { low = q.low; high = rw (unlock_all_length id ws m.cells) q.high }) (news ws) (news_inside ws sound)

  lows : All (λ c. 1 ≤ c) (news ws)
  lows = all_map (HasCell m.cells) (λ c. 1 ≤ c) (λ x q. q.low) (news ws) (news_inside ws sound)

  after_cell : (c : ℕ) → (In c (news ws) → ⊥) → cell_at after.cells c ≡ cell_at unlocked_mem.cells c
  after_cell c n = rw after_is (give_all_else (news ws) unlocked_mem lows c n)

  -- each base whose owner is this id is unlocked, the rest of its version kept
  pub abort_unlocks_each_base_it_owns : (c : ℕ) → (In c (news ws) → ⊥) → In c (bases ws) → Owned id m.cells c → version_at after.cells c ≡ unlocked (version_at m.cells c)
  abort_unlocks_each_base_it_owns c n i o = ap version_of (after_cell c n) ∙ unlock_all_on id ws m.cells c i (all_in (λ b. b ≤ length m.cells) (bases ws) (bases_inside ws sound) c i) o

  -- and no other: every other cell that is not given back is as it was
  pub abort_unlocks_no_other : (c : ℕ) → (In c (news ws) → ⊥) → (In c (bases ws) → Owned id m.cells c → ⊥) → cell_at after.cells c ≡ cell_at m.cells c
  abort_unlocks_no_other c n e = after_cell c n ∙ unlock_all_else id ws m.cells c e

  -- the cells of the write set are cleared
  pub abort_clears_its_cells : (c : ℕ) → In c (news ws) → version_at after.cells c ≡ empty_version
  abort_clears_its_cells c i = rw after_is (give_all_cleared (news ws) unlocked_mem has_news c i)

  -- "give cells back in write order": the last is the next handed out, then the one before it, and so on to the old free list
  pub abort_gives_cells_back_in_write_order : (l : List ℕ) → FreeList m l → Once (news ws) → ((c : ℕ) → In c (news ws) → In c l → ⊥) → FreeList after (reverse_aux (news ws) l)
  abort_gives_cells_back_in_write_order l f o n =
      rw after_is
      (give_all_in_front (news ws) unlocked_mem l (omega (arith, fitting.metas)) has_news o n
      (free_agree m.cells unlocked_mem.cells l (free m) (in_all (λ x. link_at m.cells x ≡ link_at unlocked_mem.cells x) l (λ x i. sym (unlock_all_links id ws m.cells x (bases_inside ws sound)))) f))

  -- heads stay, and R, N and the clock
  pub abort_keeps_heads_and_clock : (after.rows ≡ m.rows) × ((j : ℕ) → j ≢ FREE → get_or after.meta j 0 ≡ get_or m.meta j 0)
  abort_keeps_heads_and_clock = (rw after_is (give_all_rows (news ws) unlocked_mem), λ j n. rw after_is (give_all_meta (news ws) unlocked_mem j n))

  -- "empty the slot"
  pub abort_empties_the_slot : s < length m.slots → get_or after.slots s [] ≡ emptied z
  abort_empties_the_slot b = rw (after_is, give_all_slots (news ws) unlocked_mem) (get_or-set_same m.slots s (emptied z) [] b)
