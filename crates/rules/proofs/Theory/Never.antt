-- No call on a store of which all holds answers 15: each thing that damage could be is excluded by what holds.
use Rattle.std.specs.Prelude.{◌||◌, false, not, ◌≢◌, ◌≡◌, refl, ℕ, ◌<◌, suc, ◌≤◌, ltb, leb, get_or, length}
use Rattle.std.proofs.Common.{true≢false, ◌∙◌, subst}
use mathlib.Core.List.{[], List, ◌∷◌, ◌++◌}
use Rattle.std.proofs.Math.Option.{some, Option, none}
use Rattle.std.proofs.Math.Path.{ap, sym}
use native.Mathlib.Omega.{arith}
use borrow.Author.Tests.{ne_eqb, le-ltb, leb-false, lt-leb, eq-eqb, le-leb}
use Rattle.kinds.specs.Answer.{Answer}
use Rattle.kinds.specs.ReadAnswer.{ReadAnswer}
use Rattle.words.specs.Sizes.{Sizes, ACTIVE, WRITES, READS, ID}
use Rattle.rules.specs.Numbers.{damaged, number_of, read_number}
use Rattle.words.specs.Lists.{fold, from}
use Rattle.kinds.specs.Versions.{version_at}
use Rattle.words.specs.Slots.{slot_of, Slot, Write, Rec}
use Rattle.rules.specs.Memory.{Mem, size_r, size_n, clock, words_at, head_at, free, slot_at}
use Rattle.rules.specs.Chain.{ends}
use Rattle.rules.specs.Snapshot.{horizon}
use Rattle.rules.specs.Outcome.{store_tests, Test, each, slot_tests, is_cell, Outcome, refuse, refuse_read, row_test}
use Rattle.rules.specs.Create.{create_out}
use Rattle.rules.specs.Begin.{begin_out}
use Rattle.rules.specs.Read.{own, Sight, read_end, read_at, read_out, sees, answer_at}
use Rattle.rules.specs.Write.{write_now, head_tests, write_out}
use Rattle.rules.specs.Commit.{record_tests, commit_tests, base_tests, new_tests, commit_out}
use Rattle.rules.specs.Abort.{news, abort_out, abort_tests}
use Rattle.rules.specs.Vacuum.{vacuum_now, swept, vacuum_out}
use Rattle.rules.specs.Lookup.{Found, stopped, got, list_row, is_key, find_row, find, lookup_end, own_row_tests, own_rows, candidate_tests, lookup_out, lookup_all_out}
use Rattle.rules.specs.Run.{write, read, begin, commit, abort, vacuum, lookup, lookup_all, create, Call, reply_number, step}
use Rattle.rules.proofs.RefusedChangesNothing.{answer_plain}
use Rattle.rules.specs.Reachable.{All}
use Rattle.rules.proofs.Theory.Cases.{by_eq, by_bool}
use Rattle.rules.specs.Theory.View.{view_of}
use Rattle.rules.proofs.Theory.View.{get_slots}
use Rattle.rules.specs.Theory.Effects.{slot_v}
use Rattle.rules.specs.Theory.Counting.{cnt}
use Rattle.rules.proofs.Theory.Counting.{cnt_head, cnt_tail}
use Rattle.rules.specs.Theory.Inv.{Hist, Open, Ver, Entries, in_slot, vers}
use Rattle.rules.proofs.Theory.Inv.{all_map}
use Rattle.rules.proofs.Theory.Places.{chain_cell, head_among, free_alone, spelled_first, own_cell}
use Rattle.rules.proofs.Theory.SlotSteps.{open_in}
use Rattle.rules.proofs.Theory.Locks.{Holds}
use Rattle.rules.specs.Theory.Reading.{Own}
use Rattle.rules.proofs.Theory.Reading.{Right, own_write_lem, no_version_lem, old_version, new_version_lem, long, full, read_right, own_is}
use Rattle.rules.specs.Theory.Guard.{Passed, Safe}
use Rattle.rules.proofs.Theory.Guard.{safe_append, safe_passed, passed_join, guard_safe, passed_split, safe_each}
use Rattle.rules.specs.Theory.Good.{Owner}
use Rattle.rules.proofs.Theory.Good.{Good, view_open, owner}
use Rattle.rules.proofs.Theory.BeginCall.{slots_length}
use Rattle.rules.proofs.Theory.LookupCall.{rows_below, all_rows_below}
use Rattle.rules.proofs.Theory.VacuumCall.{row_chain_lem}
use Rattle.rules.proofs.Theory.CreateCall.{fits_true}

-- the tests that a store and an open slot pass
module _ {z : Sizes} (R N : ℕ) (m : Mem z) (h : Hist) (gd : Good R N m h) where
  pub store_passed : Passed (store_tests m)
  unfolding store_tests
  store_passed =
      let sh = gd.shaped in
      let f = fits_true m (size_r m) (size_n m) (record {
        some_rows = sh.some_rows;
        most_rows = sh.most_rows;
        some_cells = sh.some_cells;
        most_cells = sh.most_cells;
        metas = sh.metas;
        rows = sh.rows;
        cells = sh.cells;
        slots = sh.slots.count;
      }) in
      (rw (f, ne_eqb (clock m) 0 gd.inv.ticking), tt)

  counts_fine : (s : ℕ) → s < z.slots
      → (ltb z.slots (get_or (words_at m s) ACTIVE 0) || (ltb z.writes (get_or (words_at m s) (WRITES z) 0) || ltb z.reads (get_or (words_at m s) (READS z) 0))) ≡ false
  counts_fine s lt =
      let ok = gd.shaped.slots.each s lt in
      rw (le-ltb z.slots (get_or (words_at m s) ACTIVE 0) ok.actives, le-ltb z.writes (get_or (words_at m s) (WRITES z) 0) ok.writes, le-ltb z.reads (get_or (words_at m s) (READS z) 0) ok.reads)

  slot_safe : (s id : ℕ) → Safe damaged (slot_tests m s id)
  unfolding slot_tests
  slot_safe s id = safe_append damaged (store_tests m) _ (safe_passed damaged (store_tests m) store_passed)
      (λ _. ((λ q. omega arith), λ a. ((λ q. omega arith), λ b. ((λ q. absurd (true≢false (sym q ∙ counts_fine s (leb-false _ _ a)))), λ _. tt))))

  pub open_slot : (s id : ℕ) → id ≢ 0 → h.who s ≡ id → Owner m s id
  unfolding slot_of
  open_slot s id nz e =
      let w : (slot_v (view_of m) s).id ≡ id = gd.inv.known s ∙ e in
      let lt : s < z.slots = rw (slots_length z m.slots gd.shaped.slots.count) at (open_in (view_of m).slots s (rw w nz)) in
      record { slot = lt; real = nz; own = sym w ∙ ap (λ (t : Slot). t.id) (get_slots z m.slots s lt) }

  -- an open transaction passes the tests of its slot
  pub slot_passed : (s id : ℕ) → Owner m s id → Passed (slot_tests m s id)
  unfolding slot_tests
  slot_passed s id o = passed_join (store_tests m) _ store_passed
      (lt-leb z.slots s o.slot, (rw (ne_eqb id 0 o.real, eq-eqb id (get_or (words_at m s) ID 0) o.own), (counts_fine s o.slot, tt)))

  -- a cell of the store
  cell_fine : (c : ℕ) → c ≢ 0 → c < suc N → not (is_cell (size_n m) c) ≡ false
  cell_fine c nz lt = rw (ne_eqb c 0 nz, le-leb c (size_n m) (omega (arith, gd.cells)))

  -- a head is 0 or a cell
  head_in : (r : ℕ) → r < R → head_at m r ≤ size_n m
  head_in r lt = by_eq (head_at m r) 0 (λ e. omega arith)
      (λ nz. omega (arith, gd.cells, (chain_cell R (suc N) (view_of m) gd.ghost h [] (head_at m r) r gd.inv (head_among R (suc N) (view_of m) gd.ghost h [] r gd.inv lt nz)).inside))

  free_in : free m ≤ size_n m
  free_in = by_eq (free m) 0 (λ e. omega arith)
      (λ nz. omega (arith, gd.cells, (free_alone R (suc N) (view_of m) gd.ghost h (free m) gd.inv (spelled_first (view_of m).links (free m) gd.ghost.fl gd.inv.frees nz)).1))

  module _ (s id : ℕ) (o : Owner m s id) where
    abbrev t : Slot
    t = slot_v (view_of m) s

    e : t ≡ slot_at m s
    e = get_slots z m.slots s o.slot

    op : t.id ≢ 0
    op = view_open m s id o

    abbrev q : Open R (view_of m) gd.ghost h s
    q = gd.inv.opens s op

    -- what is right of a write of the slot
    pub record Entered (w : Write) : Type 0 where
      pub row_in : w.row < R
      pub base_in : w.base ≤ size_n m
      pub new_in : not (is_cell (size_n m) w.new) ≡ false

    entered : (f : ℕ → Ver) (k : ℕ) (ws : List Write) → Entries f R k ws → All (Holds (view_of m) t) ws → ((c : ℕ) → cnt c (news ws) ≢ 0 → in_slot c t ≢ 0) → All Entered ws
    entered f k [] en hs sub = tt
    entered f k (w ∷ l) en hs sub =
        let c = own_cell R (suc N) (view_of m) gd.ghost h s w.new gd.inv (sub w.new (λ y. cnt_head w.new w.new (news l) y refl)) in (
          record {
            row_in = en.0;
            base_in = by_eq w.base 0 (λ y. omega arith) (λ nz. omega (arith, (hs.0 nz).headed, head_in w.row en.0));
            new_in = cell_fine w.new c.0 c.1;
          },
          entered f k l en.4 hs.1 (λ d nz. sub d (λ y. nz (cnt_tail d w.new (news l) y))),
        )

    pub all_entered : All Entered (slot_at m s).writes
    all_entered = subst (λ (u : Slot). All Entered u.writes) e (entered (vers (view_of m)) t.id t.writes q.entries (gd.locks.held s op) (λ c nz. nz))

    -- what is right of a record of the slot
    all_placed : All (λ (y : Rec). not (is_cell (size_n m) y.cell) ≡ false) (slot_at m s).recs
    all_placed = subst (λ (u : Slot). All (λ (y : Rec). not (is_cell (size_n m) y.cell) ≡ false) u.recs) e
        (all_map _ _ t.recs (λ y a. let k = chain_cell R (suc N) (view_of m) gd.ghost h [] y.cell y.row gd.inv a.placed in cell_fine y.cell k.real k.inside) q.records)

  -- ---- call by call
  never_begin : number_of (begin_out m).answer ≢ damaged
  unfolding begin_out
  never_begin = guard_safe (λ (x : Outcome z Answer ℕ). number_of x.answer) (refuse m) damaged (λ n x. refl) _ _
      (safe_append damaged (store_tests m) _ (safe_passed damaged (store_tests m) store_passed) (λ _. ((λ q. omega arith), λ _. ((λ q. omega arith), λ _. tt)))) (λ _. omega arith)

  -- a sight that is right is no 15
  sight_safe : (g : Hist) (s row : ℕ) (rs : List Rec) (x : Sight) → Right z (view_of m) gd.ghost g s row rs x → read_number (read_end m s x).answer ≢ damaged
  unfolding read_end
  sight_safe g s row rs _ (own_write_lem v a c b) = rw (answer_plain (version_at m.cells) c) (omega arith)
  sight_safe g s row rs _ (no_version_lem a b d e) = rw (answer_plain (version_at m.cells) 0) (omega arith)
  sight_safe g s row rs _ (old_version a c b d e f) = rw (answer_plain (version_at m.cells) c) (omega arith)
  sight_safe g s row rs _ (new_version_lem a c b d e f k) = rw (answer_plain (version_at m.cells) c) (omega arith)
  sight_safe g s row rs _ (long a b) = omega arith
  sight_safe g s row rs _ (full a b) = omega arith

  -- one row's read, by the caller of a slot
  pub right_at : (s id row : ℕ) (rs : List Rec) → Owner m s id → row < R → Right z (view_of m) gd.ghost h s row rs (read_at m (slot_v (view_of m) s) rs row)
  right_at s id row rs o lt = rw gd.cells (read_right z R N (view_of m) gd.ghost h s row gd.inv (view_open m s id o) lt rs)

  never_read : (s id row : ℕ) → read_number (read_out m s id row).answer ≢ damaged
  unfolding read_out
  never_read s id row = guard_safe (λ (x : Outcome z ReadAnswer ℕ). read_number x.answer) (refuse_read m) damaged (λ n x. refl) _ _
      (safe_append damaged (slot_tests m s id) _ (slot_safe s id) (λ _. ((λ q. omega arith), λ _. tt)))
      (λ p.
      let y = passed_split (slot_tests m s id) (row_test m row ∷ []) p in
      let o = owner m s id y.0 in
      let lt : row < R = rw gd.rows at (leb-false (size_r m) row y.1.0) in
      sight_safe h s row (slot_at m s).recs _ (subst (λ (u : Slot). Right z (view_of m) gd.ghost h s row (slot_at m s).recs (read_at m u (slot_at m s).recs row)) (e s id o) (right_at s id row (slot_at m s).recs o lt)))

  now_safe : (s id row : ℕ) (v : Option ℕ) (o : Owner m s id) → row < R → (w : Option Write) → Own (vers (view_of m)) (slot_at m s).writes row w → number_of (write_now m s id row v w).answer ≢ damaged
  unfolding write_now head_tests
  now_safe s id row v o lt none a = guard_safe (λ (x : Outcome z Answer ℕ). number_of x.answer) (refuse m) damaged (λ n x. refl) _ _ (
    (λ y. absurd (true≢false (sym y ∙ le-ltb (size_n m) (head_at m row) (head_in row lt)))),
    λ _. (
      (λ y. omega arith),
      λ _. (
        (λ y. omega arith),
        λ _. (
          (λ y. omega arith),
          λ _. (
            (λ y. omega arith),
            λ _.
                ((λ y. absurd (true≢false (sym y ∙ le-ltb (size_n m) (free m) free_in))), λ _. tt),
          ),
        ),
      ),
    ),
  )
      (λ _. omega arith)
  now_safe s id row v o lt (some w) a =
      let c = own_cell R (suc N) (view_of m) gd.ghost h s w.new gd.inv (rw (e s id o) a.1) in
      guard_safe (λ (x : Outcome z Answer ℕ). number_of x.answer) (refuse m) damaged (λ n x. refl) _ _
      ((λ y. absurd (true≢false (sym y ∙ cell_fine w.new c.0 c.1))), λ _. tt) (λ _. omega arith)

  never_write : (s id row : ℕ) (v : Option ℕ) → number_of (write_out m s id row v).answer ≢ damaged
  unfolding write_out
  never_write s id row v = guard_safe (λ (x : Outcome z Answer ℕ). number_of x.answer) (refuse m) damaged (λ n x. refl) _ _
      (safe_append damaged (slot_tests m s id) _ (slot_safe s id) (λ _. ((λ y. omega arith), λ _. tt)))
      (λ p.
      let y = passed_split (slot_tests m s id) (row_test m row ∷ []) p in
      let o = owner m s id y.0 in
      let lt : row < R = rw gd.rows at (leb-false (size_r m) row y.1.0) in
      let a = own_is (vers (view_of m)) row R (t s id o).id (t s id o).writes (q s id o).entries in
      now_safe s id row v o lt (own (slot_at m s).writes row) (subst (λ (u : Slot). Own (vers (view_of m)) u.writes row (own u.writes row)) (e s id o) a))

  record_safe : (u : Slot) (y : Rec) → not (is_cell (size_n m) y.cell) ≡ false → Safe damaged (record_tests m u y)
  record_safe u y a = ((λ b. absurd (true≢false (sym b ∙ a))), λ _. ((λ b. omega arith), λ _. tt))

  commit_safe : (s id : ℕ) (o : Owner m s id) (u : Slot) (ws : List Write) → All (λ (y : Rec). not (is_cell (size_n m) y.cell) ≡ false) u.recs → All (Entered s id o) ws → Safe damaged (commit_tests m u ws)
  unfolding commit_tests
  commit_safe s id o u [] rs es = tt
  commit_safe s id o u (w ∷ l) rs es =
      safe_append damaged (each (record_tests m u) u.recs ++ each (base_tests m) (w ∷ l)) (each (new_tests m) (w ∷ l))
      (safe_append damaged (each (record_tests m u) u.recs) (each (base_tests m) (w ∷ l)) (safe_each damaged (record_tests m u) u.recs (all_map _ _ u.recs (record_safe u) rs))
      (λ _. safe_each damaged (base_tests m) (w ∷ l) (all_map _ _ (w ∷ l) base_safe es)))
      (λ _. safe_each damaged (new_tests m) (w ∷ l) (all_map _ _ (w ∷ l) (λ x a. ((λ b. absurd (true≢false (sym b ∙ a.new_in))), λ _. tt)) es))
    where
      base_safe : (x : Write) → Entered s id o x → Safe damaged (base_tests m x)
      base_safe x a = (
        (λ b. absurd (true≢false (sym b ∙ lt-leb (size_r m) x.row (rw gd.rows a.row_in)))),
        λ _. (
          (λ b. omega arith),
          λ _.
              ((λ b. absurd (true≢false (sym b ∙ le-ltb (size_n m) x.base a.base_in))), λ _. ((λ b. omega arith), λ _. tt)),
        ),
      )

  never_commit : (s id : ℕ) → number_of (commit_out m s id).answer ≢ damaged
  unfolding commit_out
  never_commit s id = guard_safe (λ (x : Outcome z Answer ℕ). number_of x.answer) (refuse m) damaged (λ n x. refl) _ _
      (safe_append damaged (slot_tests m s id) _ (slot_safe s id)
      (λ p. let o = owner m s id p in commit_safe s id o (slot_at m s) (slot_at m s).writes (all_placed s id o) (all_entered s id o)))
      (λ _. omega arith)

  never_abort : (s id : ℕ) → number_of (abort_out m s id).answer ≢ damaged
  unfolding abort_out
  never_abort s id = guard_safe (λ (x : Outcome z Answer ℕ). number_of x.answer) (refuse m) damaged (λ n x. refl) _ _
      (safe_append damaged (slot_tests m s id) _ (slot_safe s id)
      (λ p.
      let o = owner m s id p in
      safe_each damaged (abort_tests m) (slot_at m s).writes (all_map _ _ (slot_at m s).writes
      (λ x a. ((λ b. absurd (true≢false (sym b ∙ le-ltb (size_n m) x.base a.base_in))), λ _. ((λ b. absurd (true≢false (sym b ∙ a.new_in))), λ _. tt))) (all_entered s id o))))
      (λ _. omega arith)

  sweep_safe : (hz room : ℕ) (l : List ℕ) → number_of (vacuum_now m hz room l ends).answer ≢ damaged
  unfolding vacuum_now swept
  sweep_safe hz room [] = omega arith
  sweep_safe hz room (c ∷ l) = guard_safe (λ (x : Outcome z Answer (List ℕ)). number_of x.answer) (refuse m) damaged (λ n x. refl) _ _ ((λ y. omega arith), λ _. tt) (λ _. omega arith)

  never_vacuum : (row request room : ℕ) → number_of (vacuum_out m row request room).answer ≢ damaged
  unfolding vacuum_out
  never_vacuum row request room = guard_safe (λ (x : Outcome z Answer (List ℕ)). number_of x.answer) (refuse m) damaged (λ n x. refl) _ _
      (safe_append damaged (store_tests m) _ (safe_passed damaged (store_tests m) store_passed) (λ _. ((λ y. omega arith), λ _. tt)))
      (λ p.
      let lt : row < R = rw gd.rows at (leb-false (size_r m) row (passed_split (store_tests m) (row_test m row ∷ []) p).1.0) in
      rw (row_chain_lem R N m h gd row lt) (sweep_safe (horizon m request) room (get_or gd.ghost.rows row [])))

  -- ---- the lookups
  abbrev NotStopped : Found → Type 0
  NotStopped (stopped k x) = k ≢ damaged
  NotStopped (got recs rows) = Unit {0}

  module _ (s id : ℕ) (o : Owner m s id) (key room : ℕ) where
    seen_safe : (r : ℕ) (recs : List Rec) (rows : List ℕ) (c : ℕ) (new : List Rec) → NotStopped (list_row m (t s id o) key room r recs rows (sees c new))
    unfolding list_row
    seen_safe r recs rows c new = by_bool (is_key key (answer_at (version_at m.cells) c))
        (λ y. rw y (by_bool (leb room (length rows)) (λ f. rw f (omega arith)) (λ f. rw f tt)))
        (λ y. rw y tt)

    list_safe : (r : ℕ) (rs recs : List Rec) (rows : List ℕ) (x : Sight) → Right z (view_of m) gd.ghost h s r rs x → NotStopped (list_row m (t s id o) key room r recs rows x)
    unfolding list_row
    list_safe r rs recs rows _ (long a b) = omega arith
    list_safe r rs recs rows _ (full a b) = omega arith
    list_safe r rs recs rows _ (own_write_lem v a c b) = seen_safe r recs rows c []
    list_safe r rs recs rows _ (no_version_lem a b d f) = seen_safe r recs rows 0 []
    list_safe r rs recs rows _ (old_version a c b d f y) = seen_safe r recs rows c []
    list_safe r rs recs rows _ (new_version_lem a c b d f y k) = seen_safe r recs rows c _

    row_safe : (r : ℕ) → r < R → (f : Found) → NotStopped f → NotStopped (find_row m (t s id o) key room r f)
    unfolding find_row
    row_safe r lt (stopped k x) a = a
    row_safe r lt (got recs rows) a = list_safe r ((t s id o).recs ++ recs) recs rows _ (right_at s id r ((t s id o).recs ++ recs) o lt)

    find_safe : (l : List ℕ) → All (λ r. r < R) l → (f : Found) → NotStopped f → NotStopped (fold (find_row m (t s id o) key room) l f)
    unfolding fold
    find_safe [] a f b = b
    find_safe (r ∷ l) a f b = find_safe l a.1 (find_row m (t s id o) key room r f) (row_safe r a.0 f b)

    end_safe : (late : List Test) → Safe damaged late → (f : Found) → NotStopped f → number_of (lookup_end m s late f).answer ≢ damaged
    unfolding lookup_end
    end_safe late sf (stopped k x) a = a
    end_safe late sf (got recs rows) a = guard_safe (λ (x : Outcome z Answer ℕ). number_of x.answer) (refuse m) damaged (λ n x. refl) late _ sf (λ _. omega arith)

    lookup_safe : (late : List Test) → Safe damaged late → (l : List ℕ) → All (λ r. r < R) l → number_of (lookup_end m s late (find m (slot_at m s) key room l)).answer ≢ damaged
    lookup_safe late sf l a = end_safe late sf _ (subst (λ (u : Slot). NotStopped (find m u key room l)) (e s id o) (find_safe l a (got [] []) tt))

  own_rows_safe : (s id : ℕ) (o : Owner m s id) (ws : List Write) → All (Entered s id o) ws → Safe damaged (each (own_row_tests m) (own_rows ws))
  unfolding each
  own_rows_safe s id o [] a = tt
  own_rows_safe s id o (w ∷ l) a = ((λ b. absurd (true≢false (sym b ∙ lt-leb (size_r m) w.row (rw gd.rows a.0.row_in)))), λ _. own_rows_safe s id o l a.1)

  cands_safe : (cands : List ℕ) → Safe damaged (each (candidate_tests m) cands)
  unfolding each
  cands_safe [] = tt
  cands_safe (r ∷ l) = ((λ b. omega arith), λ _. cands_safe l)

  never_lookup : (s id key : ℕ) (cands : List ℕ) (room : ℕ) → number_of (lookup_out m s id key cands room).answer ≢ damaged
  unfolding lookup_out
  never_lookup s id key cands room = guard_safe (λ (x : Outcome z Answer ℕ). number_of x.answer) (refuse m) damaged (λ n x. refl) _ _
      (safe_append damaged (slot_tests m s id) _ (slot_safe s id) (λ _. cands_safe cands))
      (λ p.
      let o = owner m s id (passed_split (slot_tests m s id) (each (candidate_tests m) cands) p).0 in
      lookup_safe s id o key room _ (own_rows_safe s id o (slot_at m s).writes (all_entered s id o)) _ (rows_below R N m h gd (slot_at m s).writes cands))

  never_lookup_all : (s id key room : ℕ) → number_of (lookup_all_out m s id key room).answer ≢ damaged
  unfolding lookup_all_out
  never_lookup_all s id key room = guard_safe (λ (x : Outcome z Answer ℕ). number_of x.answer) (refuse m) damaged (λ n x. refl) _ _ (slot_safe s id)
      (λ p. lookup_safe s id (owner m s id p) key room [] tt (from 0 (size_r m)) (all_rows_below R N m h gd))

  never_create : (n r : ℕ) → number_of (create_out m n r).answer ≢ damaged
  unfolding create_out
  never_create n r = guard_safe (λ (x : Outcome z Answer ℕ). number_of x.answer) (refuse m) damaged (λ n x. refl) _ _ ((λ y. omega arith), λ _. tt) (λ _. omega arith)

  pub never_damaged : (c : Call) → reply_number (step c m).reply ≢ damaged
  unfolding step
  never_damaged (create n r) = never_create n r
  never_damaged begin = never_begin
  never_damaged (read s id row) = never_read s id row
  never_damaged (write s id row v) = never_write s id row v
  never_damaged (commit s id) = never_commit s id
  never_damaged (abort s id) = never_abort s id
  never_damaged (vacuum row request room) = never_vacuum row request room
  never_damaged (lookup s id key cands room) = never_lookup s id key cands room
  never_damaged (lookup_all s id key room) = never_lookup_all s id key room
