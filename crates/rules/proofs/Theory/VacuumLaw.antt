-- What a vacuum leaves: of its row the head and what is not reclaimable behind it, in order; of every other row all.
use Rattle.std.specs.Prelude.{not, ◌≡◌, ℕ, ◌<◌, ◌≤◌, get_or, length}
use mathlib.Core.List.{List, [], ◌∷◌, ◌++◌}
use Rattle.std.proofs.Common.{ap, ◌∙◌, sym, subst, arith, get_or-set_same, get_or-set_other, le-ltb, lt-ltb}
use Rattle.std.proofs.Math.Path.{refl}
use Rattle.std.proofs.lemmas.Bool.{lt-leb}
use Rattle.kinds.specs.Answer.{Answer, Vacuumed}
use Rattle.words.specs.Sizes.{Sizes}
use Rattle.rules.specs.Numbers.{result_full}
use Rattle.words.specs.Lists.{keep, fold}
use Rattle.kinds.specs.Versions.{version_at, value_of}
use Rattle.rules.specs.Memory.{Mem, with_cells, size_r}
use Rattle.rules.specs.Chain.{Chain, ends}
use Rattle.rules.specs.Snapshot.{horizon}
use Rattle.rules.specs.Outcome.{out, guard, refuse, store_tests, row_test, Outcome}
use Rattle.rules.specs.Abort.{give_back}
use Rattle.rules.specs.Vacuum.{relink, reports, swept, vacuum_now, vacuum_out}
use Rattle.kinds.specs.Versions.{reclaimable}
use Rattle.rules.specs.Reachable.{chain_at, Swept, sweeps, behind, bare}
use Rattle.rules.specs.Theory.View.{view_of}
use Rattle.rules.specs.Theory.Inv.{Hist, Spelled, nexts}
use Rattle.rules.proofs.Theory.Chains.{spelled_same}
use Rattle.rules.proofs.Theory.Guard.{guard_passed, passed_join}
use Rattle.rules.proofs.Theory.Good.{Good}
use Rattle.rules.proofs.Theory.VacuumCall.{row_chain_lem, swept_rows, horizon_under, vacuum_good}
use Rattle.rules.proofs.Theory.Never.{store_passed}

module _ {z : Sizes} (R N : ℕ) (m : Mem z) (h : Hist) (gd : Good R N m h) (row : ℕ) (in_r : row < R) (request : ℕ) where
  abbrev hz : ℕ
  hz = horizon m request

  abbrev dead : List ℕ → List ℕ
  dead l = keep (λ c. reclaimable hz (version_at m.cells c)) l

  abbrev left : List ℕ → List ℕ
  left l = keep (λ c. not (reclaimable hz (version_at m.cells c))) l

  -- two memories with the same rows' chains, whatever is known of the second
  same_chain : (n : Mem z) → Good R N n h → (r : ℕ) → r < R → (l : List ℕ) → Spelled (nexts (view_of n)) ((view_of n).heads r) l → (chain_at n r).cells ≡ l
  same_chain n gn r lt l sp =
      ap (λ (c : Chain). c.cells) (row_chain_lem R N n h gn r lt) ∙ spelled_same (nexts (view_of n)) ((view_of n).heads r) (get_or gn.ghost.rows r []) l (gn.inv.chain r lt) sp

  old_chain : (r : ℕ) → r < R → get_or gd.ghost.rows r [] ≡ (chain_at m r).cells
  old_chain r lt = sym (ap (λ (c : Chain). c.cells) (row_chain_lem R N m h gd r lt))

  module _ (hd : ℕ) (l : List ℕ) (here : get_or gd.ghost.rows row [] ≡ hd ∷ l) where
    abbrev done : Mem z
    done = fold give_back (dead l) (with_cells m (relink (hd ∷ left l) m.cells))

    done_comes : Good R N done h → Swept m row request (hd ∷ l) (out (Vacuumed (length (dead l)) (value_of (version_at m.cells hd))) (reports m.cells (dead l)) done)
    done_comes gn =
        let rows = swept_rows R N m h gd row in_r hz (horizon_under m request) hd l here in
        sweeps hd l _ refl refl
        (same_chain done gn row in_r (hd ∷ left l)
        (subst (λ (x : List ℕ). Spelled (nexts (view_of done)) ((view_of done).heads row) x) (get_or-set_same gd.ghost.rows row (hd ∷ left l) [] (omega (arith, gd.inv.rowed))) (rows row in_r)))
        (λ r lt ne.
        let lt' : r < R = rw gd.rows at lt in
        same_chain done gn r lt' (chain_at m r).cells
        (subst (λ (x : List ℕ). Spelled (nexts (view_of done)) ((view_of done).heads r) x) (get_or-set_other gd.ghost.rows row r (hd ∷ left l) [] ne ∙ old_chain r lt') (rows r lt')))

    swept_comes : (room : ℕ) → Good R N (swept m hz room hd l).after h → length (dead l) ≤ room → Swept m row request (hd ∷ l) (swept m hz room hd l)
    unfolding swept guard
    swept_comes room gn fit = rw (le-ltb room (length (dead l)) fit) (done_comes (rw (le-ltb room (length (dead l)) fit) at gn))

    swept_full : (room : ℕ) → room < length (dead l) → swept m hz room hd l ≡ refuse m result_full 0
    unfolding swept guard
    swept_full room lt = rw (lt-ltb room (length (dead l)) lt) refl

  now_comes : (room : ℕ) (l : List ℕ) → get_or gd.ghost.rows row [] ≡ l → Good R N (vacuum_now m hz room l ends).after h → length (dead (behind l)) ≤ room → Swept m row request l (vacuum_now m hz room l ends)
  unfolding vacuum_now
  now_comes room [] e gn fit = bare
  now_comes room (hd ∷ l) e gn fit = swept_comes hd l e room gn fit

  now_full : (room : ℕ) (l : List ℕ) → get_or gd.ghost.rows row [] ≡ l → room < length (dead (behind l)) → vacuum_now m hz room l ends ≡ refuse m result_full 0
  unfolding vacuum_now keep
  now_full room [] e lt = absurd (omega arith)
  now_full room (hd ∷ l) e lt = swept_full hd l e room lt

  vacuum_passed : (room : ℕ) → vacuum_out m row request room ≡ vacuum_now m hz room (chain_at m row).cells (chain_at m row).after
  unfolding vacuum_out
  vacuum_passed room = guard_passed (refuse m) (store_tests m ++ row_test m row ∷ []) _ (passed_join (store_tests m) (row_test m row ∷ []) (store_passed R N m h gd) (lt-leb (size_r m) row (rw gd.rows in_r), tt))

  ended : (room : ℕ) → vacuum_out m row request room ≡ vacuum_now m hz room (chain_at m row).cells ends
  ended room = vacuum_passed room ∙ ap (vacuum_now m hz room (chain_at m row).cells) (ap (λ (c : Chain). c.after) (row_chain_lem R N m h gd row in_r))

  pub vacuum_comes : (room : ℕ) → length (dead (behind (chain_at m row).cells)) ≤ room → Swept m row request (chain_at m row).cells (vacuum_out m row request room)
  vacuum_comes room fit =
      let gn = subst (λ (o : Outcome z Answer (List ℕ)). Good R N o.after h) (ended room) (vacuum_good R N m h gd row request room) in
      rw (ended room) (now_comes room (chain_at m row).cells (old_chain row in_r) gn fit)

  pub vacuum_full : (room : ℕ) → room < length (dead (behind (chain_at m row).cells)) → vacuum_out m row request room ≡ refuse m result_full 0
  vacuum_full room lt = ended room ∙ now_full room (chain_at m row).cells (old_chain row in_r) lt
