use Rattle.std.proofs.Common.{◌+◌, ◌-◌, ◌/◌, ap, ◌∙◌, take, drop, length}
use Rattle.std.specs.Simd.{first_chunks}
use Rattle.std.proofs.lemmas.List.{take_all, length-drop}
use native.Mathlib.Omega.{arith}
use Rattle.lists.proofs.Chunks.{take_chunks}
use Rattle.lists.proofs.triples.Goals as goal

pub returns : goal.returns
returns c =
    let t = c.args.slot.now in
    let a = c.args.place + 1 in
    let l = take_all (504 - a) (drop a t) (omega (arith, length-drop a t)) in
    ap (take c.min-count.result) (c.as_chunks.ensures.front ∙ ap (λ l. first_chunks 3 (length l / 3) l) l)
    ∙ take_chunks 3 _ (length (drop a t) / 3) (drop a t) (omega (arith, length-drop a t, c.min-count.ensures, c.requires, c.told-slot))
    ∙ ap (λ k. first_chunks 3 k (drop a t)) c.min-count.ensures
