-- Commit: the slot is closed, and its writes are published one by one.
use Rattle.std.specs.Prelude.{List, [], ◌∷◌, ℕ}
use Rattle.std.proofs.Math.Path.{◌≡◌}
use Rattle.words.specs.Slots.{Write}
use Rattle.rules.specs.Theory.View.{View, empty_slot}
use Rattle.rules.specs.Theory.Effects.{slot_v, publish_all_v, put_slot}

-- the tests of commit: every write's base is its row's head
abbrev pub Tested : (ℕ → ℕ) → List Write → Type 0
Tested hs [] = Unit {0}
Tested hs (w ∷ l) = (hs w.row ≡ w.base) × Tested hs l

abbrev pub commit_v : ℕ → View → View
commit_v i st = publish_all_v (slot_v st i).id (slot_v st i).writes (put_slot st i empty_slot)
