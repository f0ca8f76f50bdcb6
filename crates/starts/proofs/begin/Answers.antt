use Rattle.std.proofs.Common.{◌≡◌, ◌<◌, ℕ, List, Option, Some, None, Ok, length, length-take, refl, arith, rules}
use Rattle.std.specs.Option.{ok_or}
use Rattle.std.proofs.lemmas.Result.{err_from_is_err_and}
use Rattle.words.specs.Sizes.{base}
use Rattle.kinds.specs.declared.refusals.Refusal.{Refusal}
use Rattle.rules.specs.Snapshot.{vacant}
use Rattle.slots.specs.OccupiedLaws.{IsLowestEmpty}
use Rattle.starts.specs.BeginLaws.{begin_full, begin_spent, begin_done}
use Rattle.starts.proofs.begin.Goals as goal

-- the slot that was found
place : (ss : List (List ℕ)) (o : Option ℕ) (s : ℕ) (x : Refusal) → Ok s ≡ ok_or o x → IsLowestEmpty ss o → (s ≡ vacant ss) × (s < length ss)
place ss (Some i) s x e h = let p : i ≡ s = cc in rw p at h
place ss None s x e h = absurd (let z : ◌≡◌ {A = ℕ} 0 1 = cc in omega arith)

pub returns-in_err-s : goal.returns-in_err-s
returns-in_err-s c =
    let p = err_from_is_err_and c.from_residual.result c.from_residual.ensures.1 in
    let e : c.lowest_empty.result ≡ None = grind arith in
    let n : c.in_err-s.field-0.0 ≡ Refusal.NoFreeSlot = grind arith in
    rw (p.1, p.2, n) (begin_full _ _ refl (omega (arith, rw e at c.lowest_empty.ensures, length-take base.slots c.args.slots.now)))

pub returns-then-id : goal.returns-then-id
returns-then-id c =
    let h = place _ _ _ _ c.in_ok-s.ensures.value c.lowest_empty.ensures in
    begin_spent _ _ h.0 (omega (arith, length-take base.slots c.args.slots.now)) c.if-id.true

pub occupy-requires : goal.occupy-requires
occupy-requires c =
    let h = place _ _ _ _ c.in_ok-s.ensures.value c.lowest_empty.ensures in
    (omega (arith, length-take base.slots c.args.slots.now), search rules)

pub returns : goal.returns
returns c =
    let h = place _ _ _ _ c.in_ok-s.ensures.value c.lowest_empty.ensures in
    begin_done _ _ h.0 _ _ (omega (arith, length-take base.slots c.args.slots.now)) c.if-id.false refl c.occupy.ensures
