-- The first visible version of a chain, pointer by pointer: what a walk knows at each of its ways out and at its step. The rules take
-- the chain as a list first; a walk that stops early finds the same.
use Prim.Native.Nat.{ℕ, zero, suc, ◌+◌, ◌-◌, ◌≤◌, ◌<◌}
use Rattle.std.specs.Prelude.{true, false, ◌≡◌, refl, ◌≢◌}
use native.Mathlib.Omega.{arith}
use borrow.Author.Tests.{ne_eqb, lt-ltb, le-ltb}
use Rattle.kinds.specs.declared.Version.{Version}
use Rattle.words.specs.Lists.{first}
use Rattle.words.specs.Slots.{Slot}
use Rattle.kinds.specs.Visible.{visible}
use Rattle.rules.specs.Chain.{found, nothing, too_long, harmed, chain, look}

module _ (n : ℕ) (t : Slot) (f : ℕ → Version) where
  pub look_end : (k c : ℕ) → c ≡ 0 → look n t f k c ≡ nothing
  unfolding look chain first
  look_end zero c e = rw e
  look_end (suc k) c e = rw e

  pub look_limit : (k c : ℕ) → k ≡ 0 → c ≢ 0 → look n t f k c ≡ too_long
  unfolding look chain first
  look_limit k c z e = rw (z, ne_eqb c 0 e)

  pub look_harmed : (k c : ℕ) → k ≢ 0 → c ≢ 0 → n < c → look n t f k c ≡ harmed
  unfolding look chain first
  look_harmed zero c z e h = absurd (z refl)
  look_harmed (suc k) c z e h = rw (ne_eqb c 0 e, lt-ltb n c h)

  pub look_found : (k c : ℕ) → k ≢ 0 → c ≢ 0 → c ≤ n → visible t (f c) ≡ true → look n t f k c ≡ found c
  unfolding look chain first
  look_found zero c z e h v = absurd (z refl)
  look_found (suc k) c z e h v = rw (ne_eqb c 0 e, le-ltb n c h, v)

  -- the step of a walk that has taken i of w
  pub look_next : (w i c : ℕ) → i < w → c ≢ 0 → c ≤ n → visible t (f c) ≡ false → look n t f (w - i) c ≡ look n t f (w - (i + 1)) (f c).next.0
  unfolding look chain first
  look_next w i c h e b v =
      let q : w - i ≡ suc (w - (i + 1)) = omega arith in
      rw (q, ne_eqb c 0 e, le-ltb n c b, v)
