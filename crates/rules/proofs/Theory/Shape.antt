-- The shape that creation gives the memory and every call keeps: arenas long enough for the saved sizes, which are in range; every slot a slot.
use Rattle.std.specs.Prelude.{List, [], ℕ, ◌<◌, set}
use Rattle.std.proofs.Common.{arith, length-set, get_or-set_same, get_or-set_other}
use Rattle.words.specs.Sizes.{Sizes}
use Rattle.rules.proofs.Theory.Cases.{by_eq}
use Rattle.rules.specs.Theory.SlotLaws.{SlotOk}
use Rattle.rules.specs.Theory.Shape.{SlotsOk}

-- a slot stored over another
module _ {z : Sizes} (ss : List (List ℕ)) (s : ℕ) (t : List ℕ) (ok : SlotsOk z ss) (lt : s < z.slots) where
  pub slots_ok : SlotOk z t → SlotsOk z (set ss s t)
  slots_ok k = record {
    count = simp length-set ok.count;
    each = λ j lj. by_eq j s
        (λ e. rw (e, get_or-set_same ss s t [] (omega (arith, ok.count))) k)
        (λ ne. rw (get_or-set_other ss s j t [] ne) (ok.each j lj));
  }
