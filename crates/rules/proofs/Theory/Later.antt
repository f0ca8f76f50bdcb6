-- An open transaction after further calls: what it is answered then, and that its records stand.
use Rattle.std.specs.Prelude.{List, [], ◌∷◌, ◌≢◌, refl, ◌≡◌, ℕ, ◌<◌}
use Rattle.std.proofs.Common.{inl, inr, subst, ap, ◌∙◌, sym}
use Rattle.std.proofs.Math.Option.{Option}
use Rattle.words.specs.Sizes.{Sizes}
use Rattle.rules.specs.Numbers.{read_number}
use Rattle.words.specs.Lists.{or_else}
use Rattle.words.specs.Slots.{Rec}
use Rattle.rules.specs.Memory.{Mem, clock, slot_at}
use Rattle.rules.specs.Read.{read_out}
use Rattle.rules.specs.Run.{Call, run}
use Rattle.rules.specs.History.{Log, who_in, log_of, view_in, rows_in, answer_of, own_in, Val, cells_in}
use Rattle.rules.specs.Reachable.{In, StillOpen, All, TrueStill}
use Rattle.rules.specs.Theory.Steps.{hist_of}
use Rattle.rules.proofs.Theory.Steps.{Sound, run_sound}
use Rattle.rules.proofs.Theory.Never.{open_slot}
use Rattle.rules.proofs.Theory.ReadLaw.{ReadIs, read_is, answered}
use Rattle.rules.proofs.Theory.Facts.{records_true}
use Rattle.rules.proofs.Theory.Continuing.{Bound, run_bound}
use Rattle.rules.proofs.Theory.RecordsStay.{run_keeps}

module _ {z : Sizes} (m : Mem z) (l : Log) (so : Sound m l) (s : ℕ) (op : who_in l s ≢ 0) where
  abbrev later_log : List Call → Log
  later_log cs = log_of cs (run cs m).0 l

  later_sound : (cs : List Call) → Sound (run cs m).1 (later_log cs)
  later_sound cs = run_sound cs m l so

  past : who_in l s < clock m
  past = subst (λ (x : ℕ). x < clock m) (so.inv.known s) (so.inv.opens s (rw (so.inv.known s) op)).snap.begun

  bound : (cs : List Call) → StillOpen m l s cs → Bound s (who_in l s) op (view_in l s) (rows_in l) (run cs m).1 (later_log cs)
  bound cs k = run_bound s (who_in l s) op (view_in l s) (rows_in l) cs m l so k.going (record { past = past; rows = refl; same = λ _ r. refl })

  -- the value answered is the own write, else what was seen at begin
  pub later_is : (row : ℕ) → row < rows_in l → (cs : List Call) → StillOpen m l s cs → read_number (read_out (run cs m).1 s (who_in l s) row).answer ≡ 0
      → (read_out (run cs m).1 s (who_in l s) row).answer ≡ answer_of (or_else (own_in (later_log cs) s row) (view_in l s row))
  later_is row in_r cs k z0 =
      let n = (run cs m).1 in
      let sn = later_sound cs in
      let b = bound cs k in
      let o : who_in (later_log cs) s ≢ 0 = rw k.still op in
      let i : row < rows_in (later_log cs) = rw b.rows in_r in
      let r = subst (λ (x : ℕ). ReadIs n (later_log cs) sn s row o i (read_out n s x row).answer) k.still (read_is n (later_log cs) sn s row o i) in
      answered n (later_log cs) sn s row o i _ r z0 ∙ ap (λ (x : Option Val). answer_of (or_else (own_in (later_log cs) s row) x)) (b.same k.still row)

  all_in : (P : Rec → Type 0) (k : List Rec) (q : Rec) → All P k → In q k → P q
  all_in P [] q a i = absurd i
  all_in P (x ∷ k) q a (inl e) = subst P (sym e) a.0
  all_in P (x ∷ k) q a (inr i) = all_in P k q a.1 i

  pub later_records : (cs : List Call) → StillOpen m l s cs → (q : Rec) → In q (slot_at m s).recs → In q (slot_at (run cs m).1 s).recs × TrueStill (run cs m).1 s q
  later_records cs k q i =
      let n = (run cs m).1 in
      let k' = later_log cs in
      let stays = run_keeps z s (who_in l s) op cs m l so past k.going k.still q i in
      let o = open_slot (rows_in k') (cells_in k') n (hist_of k') (later_sound cs) s (who_in l s) op k.still in
      (stays, all_in (TrueStill n s) (slot_at n s).recs q (records_true (rows_in k') (cells_in k') n (hist_of k') (later_sound cs) s (who_in l s) o) stays)
