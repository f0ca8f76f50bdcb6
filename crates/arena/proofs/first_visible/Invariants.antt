use Prim.Native.Nat.{◌-◌}
use Rattle.rules.specs.Chain.{look}
use Rattle.words.specs.Slots.{slot_of}
use Rattle.kinds.specs.Versions.{version_at}
use Rattle.words.specs.Sizes.{base}
use mathlib.Core.Path.{◌≡◌}
use Rattle.arena.proofs.first_visible.Given as goal

abbrev pub invariant-loop : goal.invariant-loop
invariant-loop l = look l.n (slot_of base l.slot) (version_at l.cells) (base.walk - l.counter) l.c.0 ≡ look l.n (slot_of base l.slot) (version_at l.cells) base.walk l.initial.c.0
