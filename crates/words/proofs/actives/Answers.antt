use Rattle.std.proofs.Common.{◌+◌, sym, ap, ◌∙◌, take, drop}
use Rattle.std.proofs.lemmas.List.{take_all, length-drop}
use native.Mathlib.Omega.{arith}
use Rattle.words.specs.Sizes.{ACTIVE}
use Rattle.words.specs.Slots.{words, slot_of}
use Rattle.words.specs.WordLaws.{words_take}
use Rattle.words.proofs.actives.Goals as goal

pub returns : goal.returns
unfolding slot_of
returns c =
    let t = c.args.slot.now in
    ap (take c.min-count.result) (take_all 500 (drop 4 t) (omega (arith, length-drop 4 t)))
    ∙ sym (words_take t (ACTIVE + 1) _ (omega arith))
    ∙ ap (words t (ACTIVE + 1)) c.min-count.ensures
