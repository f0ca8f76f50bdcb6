-- 15, call by call: "saved sizes out of range or not fitting the lent lengths, clock 0, a saved count of the named slot above its limit,
-- .. or, at the moment the call would use it .., a saved row at R or above, a cell or link above N, or cell 0 as the new cell of an
-- entry or the cell of a read record". And 6, of the calls that name a row. Vacuum's 15 stands with its 14.
use Rattle.std.specs.Prelude.{ℕ, ◌≤◌, ◌<◌, List, [], ◌∷◌, ◌++◌, ◌≡◌, refl, ◌≢◌, ◌↔◌, ◌⊎◌}
use Rattle.std.proofs.Math.Option.{Option}
use Rattle.std.proofs.Math.Logic.Iff
use Rattle.std.proofs.Common.{inl, inr, ⊎_elim, arith}
use Rattle.kinds.specs.ReadAnswer.{ReadAnswer}
use Rattle.kinds.specs.Answer.{Answer}
use Rattle.words.specs.Sizes.{Sizes, ACTIVE, WRITES, READS}
use Rattle.rules.specs.Numbers.{bad_row, damaged}
use Rattle.rules.proofs.Theory.Cases.{by_eq, by_le}
use Rattle.kinds.specs.Versions.{version_at}
use Rattle.words.specs.Slots.{Write, Rec, Slot}
use Rattle.rules.specs.Memory.{Mem, size_r, size_n, free, head_at, slot_at}
use Rattle.rules.specs.Begin.{begin_out}
use Rattle.rules.specs.Read.{read_out}
use Rattle.rules.specs.Write.{write_out}
use Rattle.rules.specs.Commit.{commit_out}
use Rattle.rules.specs.Abort.{abort_out}
use Rattle.rules.specs.Vacuum.{vacuum_out}
use Rattle.rules.specs.Chain.{too_long, harmed}
use Rattle.rules.specs.Exactly.{All, Refuses, NoneOf, each_of, under}
use Rattle.rules.proofs.Exactly.{all_map, FirstOf, in_answer, in_read, refused_iff, refuses_append, refuses_past, refuses_before, refuses_each, refuses_under, none_append, none_each}
use Rattle.rules.specs.Terms.{CellOf, NoEntry}
use Rattle.rules.proofs.Terms.{entry_or_none, StoreDamaged}
use Rattle.rules.proofs.Along.{Harmed, look_apart}
use Rattle.rules.proofs.SharedLines.{slot_lines, id_at, count_at, row_line, row_lines}
use Rattle.rules.proofs.CreateRefuses.{begin_lines, begin_refuses_exactly}
use Rattle.rules.proofs.ReadRefuses.{sight_lines_at, read_refuses_exactly}
use Rattle.rules.proofs.WriteRefuses.{OwnHarmed, now_lines, write_refuses_exactly}
use Rattle.rules.proofs.WriteRefusedWhen.{HeadFine, fine}
use Rattle.rules.proofs.CommitRefuses.{record_lines, base_lines, new_lines, valid_lines, commit_refuses_exactly}
use Rattle.rules.proofs.CommitRefusedWhen.{cell_of, Stands, stands, stood, Ready, is_ready, ready_is}
use Rattle.rules.proofs.AbortRefuses.{undo_lines, abort_refuses_exactly}
use Rattle.rules.proofs.VacuumRefuses.{vacuum_lines, vacuum_refuses_exactly}

-- an if-and-only-if on each side of an or
pub either_iff : {A B C D : Type 0} → A ↔ C → B ↔ D → (A ⊎ B) ↔ (C ⊎ D)
either_iff h k = (⊎_elim (λ a. inl (h.0 a)) (λ b. inr (k.0 b)), ⊎_elim (λ c. inl (h.1 c)) (λ d. inr (k.1 d)))

module _ {z : Sizes} (m : Mem z) where
  pub begin_refused_15_exactly_when : (x : ℕ) → ((begin_out m).answer ≡ Answer.Refused damaged x) ↔ (StoreDamaged m × (x ≡ 0))
  begin_refused_15_exactly_when x = Iff.trans (refused_iff in_answer m _ _ _ (begin_refuses_exactly m) damaged x) (to, λ q. inl (q.0, refl, q.1))
    where
      to : Refuses (begin_lines m) damaged x → StoreDamaged m × (x ≡ 0)
      to (inl q) = (q.0, q.2)
      to (inr (_, inl q)) = absurd (omega (arith, q.1))
      to (inr (_, inr (_, inl q))) = absurd (omega (arith, q.1))
      to (inr (_, inr (_, inr q))) = absurd q.1

  module _ (s id : ℕ) where
    -- "a saved count of the named slot above its limit"
    abbrev pub CountAbove : Type 0
    CountAbove = (z.slots < count_at m s ACTIVE) ⊎ ((z.writes < count_at m s (WRITES z)) ⊎ (z.reads < count_at m s (READS z)))

    -- the store is damaged; or it is not, the slot is there and its own, and a count is too high
    abbrev pub SlotDamaged : Type 0
    SlotDamaged = StoreDamaged m ⊎ ((StoreDamaged m → ⊥) × (s < z.slots) × (id ≢ 0) × (id ≡ id_at m s) × CountAbove)

    pub slot_15 : (x : ℕ) → Refuses (slot_lines m s id) damaged x ↔ (SlotDamaged × (x ≡ 0))
    slot_15 x = (to, λ q. from_slot q.0 q.1)
      where
        to : Refuses (slot_lines m s id) damaged x → SlotDamaged × (x ≡ 0)
        to (inl q) = (inl q.0, q.2)
        to (inr (_, inl q)) = absurd (omega (arith, q.1))
        to (inr (_, inr (_, inl q))) = absurd (omega (arith, q.1))
        to (inr (a, inr (b, inr (c, inl q)))) =
            (inr (a, by_le z.slots s (λ y. absurd (b y)) (λ y. y), (λ e. c (inl e)), by_eq id (id_at m s) (λ e. e) (λ e. absurd (c (inr e))), q.0), q.2)
        to (inr (_, inr (_, inr (_, inr q)))) = absurd q.1

        from_slot : SlotDamaged → x ≡ 0 → Refuses (slot_lines m s id) damaged x
        from_slot (inl d) e = inl (d, refl, e)
        from_slot (inr d) e = inr (d.0, inr (λ b. omega (arith, d.1), inr (⊎_elim d.2 (λ n. n d.3), inl (d.4, refl, e))))

  module _ (s id row : ℕ) where
    row_15 : (x : ℕ) → Refuses (row_lines m s id row) damaged x ↔ (SlotDamaged s id × (x ≡ 0))
    row_15 x = Iff.trans (refuses_before damaged x (slot_lines m s id) (row_line m row ∷ []) (λ e. omega arith, tt)) (slot_15 s id x)

    row_6 : (x : ℕ) → Refuses (row_lines m s id row) bad_row x ↔ (NoneOf (slot_lines m s id) × ((size_r m ≤ row) × (x ≡ row)))
    row_6 x = Iff.trans (refuses_past bad_row x (slot_lines m s id) (row_line m row ∷ []) (λ e. omega arith, (λ e. omega arith, (λ e. omega arith, (λ e. omega arith, tt))))) (Iff.and (λ e. e, λ e. e) (to, λ q. inl (q.0, refl, q.1)))
      where
        to : Refuses (row_line m row ∷ []) bad_row x → (size_r m ≤ row) × (x ≡ row)
        to (inl q) = (q.0, q.2)
        to (inr q) = absurd q.1

    -- ---- read
    pub read_refused_6_exactly_when : (x : ℕ) → ((read_out m s id row).answer ≡ ReadAnswer.Refused bad_row x) ↔ (NoneOf (slot_lines m s id) × ((size_r m ≤ row) × (x ≡ row)))
    read_refused_6_exactly_when x =
        Iff.trans (refused_iff in_read m _ _ _ (read_refuses_exactly m s id row) bad_row x)
        (Iff.trans (refuses_before bad_row x (row_lines m s id row) (sight_lines_at m s id row) (λ e. omega arith, (λ e. omega arith, (λ e. omega arith, (λ e. omega arith, tt))))) (row_6 x))

    -- the own write's cell, or a pointer above N before a version is seen
    abbrev pub ReadHarmed : Type 0
    ReadHarmed = OwnHarmed m s row ⊎ (NoEntry (slot_at m s).writes row × Harmed (size_n m) (version_at m.cells) (slot_at m s) z.walk (head_at m row))

    sight_15 : (x : ℕ) → Refuses (sight_lines_at m s id row) damaged x ↔ (ReadHarmed × (x ≡ 0))
    sight_15 x = (to, λ q. back q.0 q.1)
      where
        to : Refuses (sight_lines_at m s id row) damaged x → ReadHarmed × (x ≡ 0)
        to (inl q) = (inl q.0, q.2)
        to (inr (_, inl q)) = absurd (omega (arith, q.1))
        to (inr (_, inr (_, inl q))) = (inr q.0, q.2)
        to (inr (_, inr (_, inr (_, inl q)))) = absurd (omega (arith, q.1))
        to (inr (_, inr (_, inr (_, inr q)))) = absurd q.1

        back : ReadHarmed → x ≡ 0 → Refuses (sight_lines_at m s id row) damaged x
        back (inl h) e = inl (h, refl, e)
        back (inr h) e =
            inr (
              λ w. entry_or_none _ row w.0 w.1 h.0,
              inr (
                λ y.
                    let g : harmed ≡ too_long = look_apart (size_n m) (version_at m.cells) (slot_at m s) z.walk (head_at m row) harmed too_long h.1 y.1 in
                    let o : ◌≡◌ {A = ℕ} 0 1 = cc in
                    omega arith,
                inl (h, refl, e),
              ),
            )

    pub read_refused_15_exactly_when : (x : ℕ) → ((read_out m s id row).answer ≡ ReadAnswer.Refused damaged x) ↔ ((SlotDamaged s id × (x ≡ 0)) ⊎ (NoneOf (row_lines m s id row) × (ReadHarmed × (x ≡ 0))))
    read_refused_15_exactly_when x =
        Iff.trans (refused_iff in_read m _ _ _ (read_refuses_exactly m s id row) damaged x)
        (Iff.trans (refuses_append damaged x (row_lines m s id row) (sight_lines_at m s id row)) (either_iff (row_15 x) (Iff.and (λ e. e, λ e. e) (sight_15 x))))

    -- ---- write
    pub write_refused_6_exactly_when : (v : Option ℕ) (x : ℕ) → ((write_out m s id row v).answer ≡ Answer.Refused bad_row x) ↔ (NoneOf (slot_lines m s id) × ((size_r m ≤ row) × (x ≡ row)))
    write_refused_6_exactly_when v x =
        Iff.trans (refused_iff in_answer m _ _ _ (write_refuses_exactly m s id row v) bad_row x)
        (Iff.trans (refuses_before bad_row x (row_lines m s id row) (now_lines m s id row) (λ e. omega arith, (λ e. omega arith, (λ e. omega arith, (λ e. omega arith, (λ e. omega arith, (λ e. omega arith, (λ e. omega arith, tt)))))))) (row_6 x))

    -- the own entry's cell; or, where an entry is to be added, the head; or, where one is added, the first free cell
    abbrev pub WriteHarmed : Type 0
    WriteHarmed = OwnHarmed m s row ⊎ (NoEntry (slot_at m s).writes row × ((size_n m < head_at m row) ⊎ (HeadFine m s id row × (count_at m s (WRITES z) < z.writes) × (free m ≢ 0) × (size_n m < free m))))

    now_15 : (x : ℕ) → Refuses (now_lines m s id row) damaged x ↔ (WriteHarmed × (x ≡ 0))
    now_15 x = (to, λ q. back q.0 q.1)
      where
        to : Refuses (now_lines m s id row) damaged x → WriteHarmed × (x ≡ 0)
        to (inl q) = (inl q.0, q.2)
        to (inr (_, inl q)) = (inr (q.0.0, inl q.0.1), q.2)
        to (inr (_, inr (_, inl q))) = absurd (omega (arith, q.1))
        to (inr (_, inr (_, inr (_, inl q)))) = absurd (omega (arith, q.1))
        to (inr (_, inr (_, inr (_, inr (_, inl q))))) = absurd (omega (arith, q.1))
        to (inr (_, inr (_, inr (_, inr (_, inr (_, inl q)))))) = absurd (omega (arith, q.1))
        to (inr (_, inr (a, inr (b, inr (c, inr (d, inr (f, inl q))))))) =
            let n = q.0.0 in
            (inr (n, inr (fine m s id row (λ y. a (n, y)) (λ y. b (n, y)) (λ y. c (n, y)), by_le z.writes (count_at m s (WRITES z)) (λ y. absurd (d (n, y))) (λ y. y), (λ e. f (n, e)), q.0.1)), q.2)
        to (inr (_, inr (_, inr (_, inr (_, inr (_, inr (_, inr q))))))) = absurd q.1

        back : WriteHarmed → x ≡ 0 → Refuses (now_lines m s id row) damaged x
        back (inl h) e = inl (h, refl, e)
        back (inr (n, inl h)) e = inr (λ w. entry_or_none _ row w.0 w.1 n, inl ((n, h), refl, e))
        back (inr (n, inr (h, c, f, g))) e =
            inr (
              λ w. entry_or_none _ row w.0 w.1 n,
              inr (
                λ y. omega (arith, y.1, h.sound),
                inr (
                  λ y. h.unlocked y.1.0 y.1.1,
                  inr (
                    λ y. y.1.1 (h.seen y.1.0),
                    inr (
                      λ y. omega (arith, y.1, c),
                      inr (
                        λ y. f y.1,
                        inl ((n, g), refl, e),
                      ),
                    ),
                  ),
                ),
              ),
            )

    pub write_refused_15_exactly_when : (v : Option ℕ) (x : ℕ) → ((write_out m s id row v).answer ≡ Answer.Refused damaged x) ↔ ((SlotDamaged s id × (x ≡ 0)) ⊎ (NoneOf (row_lines m s id row) × (WriteHarmed × (x ≡ 0))))
    write_refused_15_exactly_when v x =
        Iff.trans (refused_iff in_answer m _ _ _ (write_refuses_exactly m s id row v) damaged x)
        (Iff.trans (refuses_append damaged x (row_lines m s id row) (now_lines m s id row)) (either_iff (row_15 x) (Iff.and (λ e. e, λ e. e) (now_15 x))))

  -- ---- commit
  module _ (s id : ℕ) where
    abbrev t : Slot
    t = slot_at m s

    -- the first record that does not stand has no cell of the store
    pub record RecordLost : Type 0 where
      pub before : List Rec
      pub lost : Rec
      pub after : List Rec
      pub parts : t.recs ≡ before ++ lost ∷ after
      pub stand : All (Stands m s id) before
      pub no_cell : CellOf (size_n m) lost.cell → ⊥

    -- the first write that is not ready has a row at R or above; or a head that is its base, above N
    pub record WriteLost : Type 0 where
      pub before : List Write
      pub lost : Write
      pub after : List Write
      pub parts : t.writes ≡ before ++ lost ∷ after
      pub ready : All (Ready m s id) before
      pub damage : (size_r m ≤ lost.row) ⊎ ((lost.row < size_r m) × (head_at m lost.row ≡ lost.base) × (size_n m < lost.base))

    -- the first new cell that is 0 or above N
    pub record NewLost : Type 0 where
      pub before : List Write
      pub lost : Write
      pub after : List Write
      pub parts : t.writes ≡ before ++ lost ∷ after
      pub cells : All (λ (w : Write). CellOf (size_n m) w.new) before
      pub no_cell : CellOf (size_n m) lost.new → ⊥

    -- a new cell's damage is told after every head and base test: it is used only in the changes
    abbrev pub CommitHarmed : Type 0
    CommitHarmed = RecordLost ⊎ ((All (Stands m s id) t.recs × WriteLost) ⊎ ((All (Stands m s id) t.recs × All (Ready m s id) t.writes) × NewLost))

    recs_15 : (x : ℕ) → Refuses (each_of (record_lines m t) t.recs) damaged x ↔ (RecordLost × (x ≡ 0))
    recs_15 x = Iff.trans (refuses_each damaged x (record_lines m t) t.recs) ((λ q. to q q.refuses), λ q. back q.0 q.1)
      where
        to : (q : FirstOf damaged x (record_lines m t) t.recs) → Refuses (record_lines m t q.member) damaged x → RecordLost × (x ≡ 0)
        to q (inl r) = (record { before = q.before; lost = q.member; after = q.after; parts = q.parts; stand = all_map _ (Stands m s id) (stands m s id) q.before q.fine; no_cell = r.0 }, r.2)
        to q (inr (_, inl r)) = absurd (omega (arith, r.1))
        to q (inr (_, inr r)) = absurd r.1

        back : RecordLost → x ≡ 0 → FirstOf damaged x (record_lines m t) t.recs
        back q e = record { before = q.before; member = q.lost; after = q.after; parts = q.parts; fine = all_map (Stands m s id) _ (stood m s id) q.before q.stand; refuses = inl (q.no_cell, refl, e) }

    bases_15 : (x : ℕ) → Refuses (each_of (base_lines m) t.writes) damaged x ↔ (WriteLost × (x ≡ 0))
    bases_15 x = Iff.trans (refuses_each damaged x (base_lines m) t.writes) ((λ q. to q q.refuses), λ q. back q.0 q.0.damage q.1)
      where
        told : (q : FirstOf damaged x (base_lines m) t.writes) → (size_r m ≤ q.member.row) ⊎ ((q.member.row < size_r m) × (head_at m q.member.row ≡ q.member.base) × (size_n m < q.member.base)) → WriteLost
        told q d = record { before = q.before; lost = q.member; after = q.after; parts = q.parts; ready = all_map _ (Ready m s id) (is_ready m s id) q.before q.fine; damage = d }

        to : (q : FirstOf damaged x (base_lines m) t.writes) → Refuses (base_lines m q.member) damaged x → WriteLost × (x ≡ 0)
        to q (inl r) = (told q (inl r.0), r.2)
        to q (inr (_, inl r)) = absurd (omega (arith, r.1))
        to q (inr (a, inr (b, inl r))) =
            (told q (inr (by_le (size_r m) q.member.row (λ y. absurd (a y)) (λ y. y), by_eq (head_at m q.member.row) q.member.base (λ y. y) (λ y. absurd (b y)), r.0)), r.2)
        to q (inr (_, inr (_, inr (_, inl r)))) = absurd (omega (arith, r.1))
        to q (inr (_, inr (_, inr (_, inr r)))) = absurd r.1

        shown : (q : WriteLost) → Refuses (base_lines m q.lost) damaged x → FirstOf damaged x (base_lines m) t.writes
        shown q r = record { before = q.before; member = q.lost; after = q.after; parts = q.parts; fine = all_map (Ready m s id) _ (ready_is m s id) q.before q.ready; refuses = r }

        back : (q : WriteLost) → (size_r m ≤ q.lost.row) ⊎ ((q.lost.row < size_r m) × (head_at m q.lost.row ≡ q.lost.base) × (size_n m < q.lost.base)) → x ≡ 0 → FirstOf damaged x (base_lines m) t.writes
        back q (inl d) e = shown q (inl (d, refl, e))
        back q (inr d) e = shown q (inr (λ y. omega (arith, y, d.0), inr (λ y. y d.1, inl (d.2, refl, e))))

    news_15 : (x : ℕ) → Refuses (each_of (new_lines m) t.writes) damaged x ↔ (NewLost × (x ≡ 0))
    news_15 x = Iff.trans (refuses_each damaged x (new_lines m) t.writes) ((λ q. to q q.refuses), λ q. back q.0 q.1)
      where
        to : (q : FirstOf damaged x (new_lines m) t.writes) → Refuses (new_lines m q.member) damaged x → NewLost × (x ≡ 0)
        to q (inl r) = (record { before = q.before; lost = q.member; after = q.after; parts = q.parts; cells = all_map _ (λ (w : Write). CellOf (size_n m) w.new) (λ w n. cell_of m s id w.new n.0) q.before q.fine; no_cell = r.0 }, r.2)
        to q (inr r) = absurd r.1

        back : NewLost → x ≡ 0 → FirstOf damaged x (new_lines m) t.writes
        back q e = record { before = q.before; member = q.lost; after = q.after; parts = q.parts; fine = all_map (λ (w : Write). CellOf (size_n m) w.new) _ (λ w c. (λ n. n c, tt)) q.before q.cells; refuses = inl (q.no_cell, refl, e) }

    all_stand : NoneOf (each_of (record_lines m t) t.recs) ↔ All (Stands m s id) t.recs
    all_stand = Iff.trans (none_each (record_lines m t) t.recs) (all_map _ (Stands m s id) (stands m s id) t.recs, all_map (Stands m s id) _ (stood m s id) t.recs)

    all_ready : NoneOf (each_of (base_lines m) t.writes) ↔ All (Ready m s id) t.writes
    all_ready = Iff.trans (none_each (base_lines m) t.writes) (all_map _ (Ready m s id) (is_ready m s id) t.writes, all_map (Ready m s id) _ (ready_is m s id) t.writes)

    valid_15 : (x : ℕ) → Refuses (valid_lines m t) damaged x ↔ (CommitHarmed × (x ≡ 0))
    valid_15 x =
        let recs = each_of (record_lines m t) t.recs in
        let bases = each_of (base_lines m) t.writes in
        let news = each_of (new_lines m) t.writes in
        Iff.trans (refuses_append damaged x (recs ++ bases) news)
        (Iff.trans
        (either_iff
        (Iff.trans (refuses_append damaged x recs bases) (either_iff (recs_15 x) (Iff.and all_stand (bases_15 x))))
        (Iff.and (Iff.trans (none_append recs bases) (Iff.and all_stand all_ready)) (news_15 x)))
        (to, λ q. back q.0 q.1))
      where
        to : ((RecordLost × (x ≡ 0)) ⊎ (All (Stands m s id) t.recs × (WriteLost × (x ≡ 0)))) ⊎ ((All (Stands m s id) t.recs × All (Ready m s id) t.writes) × (NewLost × (x ≡ 0))) → CommitHarmed × (x ≡ 0)
        to (inl (inl q)) = (inl q.0, q.1)
        to (inl (inr q)) = (inr (inl (q.0, q.1.0)), q.1.1)
        to (inr q) = (inr (inr (q.0, q.1.0)), q.1.1)

        back : CommitHarmed → x ≡ 0 → ((RecordLost × (x ≡ 0)) ⊎ (All (Stands m s id) t.recs × (WriteLost × (x ≡ 0)))) ⊎ ((All (Stands m s id) t.recs × All (Ready m s id) t.writes) × (NewLost × (x ≡ 0)))
        back (inl q) e = inl (inl (q, e))
        back (inr (inl q)) e = inl (inr (q.0, (q.1, e)))
        back (inr (inr q)) e = inr (q.0, (q.1, e))

    pub commit_refused_15_exactly_when : (x : ℕ) → ((commit_out m s id).answer ≡ Answer.Refused damaged x) ↔ ((SlotDamaged s id × (x ≡ 0)) ⊎ (NoneOf (slot_lines m s id) × ((t.writes ≢ []) × (CommitHarmed × (x ≡ 0)))))
    commit_refused_15_exactly_when x =
        Iff.trans (refused_iff in_answer m _ _ _ (commit_refuses_exactly m s id) damaged x)
        (Iff.trans (refuses_append damaged x (slot_lines m s id) (under (t.writes ≢ []) (valid_lines m t)))
        (either_iff (slot_15 s id x) (Iff.and (λ e. e, λ e. e) (Iff.trans (refuses_under (t.writes ≢ []) (valid_lines m t) damaged x) (Iff.and (λ e. e, λ e. e) (valid_15 x))))))

    -- ---- abort
    -- an entry that can be undone: its base is 0 or a cell, its new cell is one
    pub record Undoable (w : Write) : Type 0 where
      pub base : w.base ≤ size_n m
      pub new : CellOf (size_n m) w.new

    -- the first entry that cannot
    pub record UndoLost : Type 0 where
      pub before : List Write
      pub lost : Write
      pub after : List Write
      pub parts : t.writes ≡ before ++ lost ∷ after
      pub undoable : All Undoable before
      pub damage : (size_n m < lost.base) ⊎ ((lost.base ≤ size_n m) × (CellOf (size_n m) lost.new → ⊥))

    undo_15 : (x : ℕ) → Refuses (each_of (undo_lines m) t.writes) damaged x ↔ (UndoLost × (x ≡ 0))
    undo_15 x = Iff.trans (refuses_each damaged x (undo_lines m) t.writes) ((λ q. to q q.refuses), λ q. back q.0 q.0.damage q.1)
      where
        told : (q : FirstOf damaged x (undo_lines m) t.writes) → (size_n m < q.member.base) ⊎ ((q.member.base ≤ size_n m) × (CellOf (size_n m) q.member.new → ⊥)) → UndoLost
        told q d =
            record {
              before = q.before;
              lost = q.member;
              after = q.after;
              parts = q.parts;
              undoable = all_map _ Undoable (λ w n. record { base = by_le w.base (size_n m) (λ y. y) (λ y. absurd (n.0 y)); new = cell_of m s id w.new n.1.0 }) q.before q.fine;
              damage = d;
            }

        to : (q : FirstOf damaged x (undo_lines m) t.writes) → Refuses (undo_lines m q.member) damaged x → UndoLost × (x ≡ 0)
        to q (inl r) = (told q (inl r.0), r.2)
        to q (inr (a, inl r)) = (told q (inr (by_le q.member.base (size_n m) (λ y. y) (λ y. absurd (a y)), r.0)), r.2)
        to q (inr (_, inr r)) = absurd r.1

        shown : (q : UndoLost) → Refuses (undo_lines m q.lost) damaged x → FirstOf damaged x (undo_lines m) t.writes
        shown q r = record { before = q.before; member = q.lost; after = q.after; parts = q.parts; fine = all_map Undoable _ (λ w u. (λ y. omega (arith, y, u.base), (λ n. n u.new, tt))) q.before q.undoable; refuses = r }

        back : (q : UndoLost) → (size_n m < q.lost.base) ⊎ ((q.lost.base ≤ size_n m) × (CellOf (size_n m) q.lost.new → ⊥)) → x ≡ 0 → FirstOf damaged x (undo_lines m) t.writes
        back q (inl d) e = shown q (inl (d, refl, e))
        back q (inr d) e = shown q (inr (λ y. omega (arith, y, d.0), inl (d.1, refl, e)))

    pub abort_refused_15_exactly_when : (x : ℕ) → ((abort_out m s id).answer ≡ Answer.Refused damaged x) ↔ ((SlotDamaged s id × (x ≡ 0)) ⊎ (NoneOf (slot_lines m s id) × (UndoLost × (x ≡ 0))))
    abort_refused_15_exactly_when x =
        Iff.trans (refused_iff in_answer m _ _ _ (abort_refuses_exactly m s id) damaged x)
        (Iff.trans (refuses_append damaged x (slot_lines m s id) (each_of (undo_lines m) t.writes)) (either_iff (slot_15 s id x) (Iff.and (λ e. e, λ e. e) (undo_15 x))))

  -- ---- vacuum
  pub vacuum_refused_6_exactly_when : (row request room x : ℕ) → ((vacuum_out m row request room).answer ≡ Answer.Refused bad_row x) ↔ ((StoreDamaged m → ⊥) × (size_r m ≤ row) × (x ≡ row))
  vacuum_refused_6_exactly_when row request room x = Iff.trans (refused_iff in_answer m _ _ _ (vacuum_refuses_exactly m row request room) bad_row x) (to, λ q. inr (q.0, inl (q.1, refl, q.2)))
    where
      to : Refuses (vacuum_lines m row request room) bad_row x → (StoreDamaged m → ⊥) × (size_r m ≤ row) × (x ≡ row)
      to (inl q) = absurd (omega (arith, q.1))
      to (inr (a, inl q)) = (a, q.0, q.2)
      to (inr (_, inr (_, inl q))) = absurd (omega (arith, q.1))
      to (inr (_, inr (_, inr (_, inl q)))) = absurd (omega (arith, q.1))
      to (inr (_, inr (_, inr (_, inr q)))) = absurd q.1
