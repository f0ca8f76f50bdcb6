-- What holds of a memory and of the history that led to it: the shape, and of its view the invariant and the locks.
use Rattle.std.specs.Prelude.{◌≢◌, ◌≡◌, ℕ, ◌<◌, get_or}
use Rattle.std.proofs.Math.Option.{none, Option, some}
use Rattle.words.specs.Sizes.{Sizes, ID}
use Rattle.words.specs.Lists.{or_else}
use Rattle.rules.specs.Memory.{Mem, words_at}
use Rattle.rules.specs.History.{said}
use Rattle.rules.specs.Theory.View.{upd}
use Rattle.rules.specs.Theory.Inv.{Hist}

-- ---- what the accepted calls do to the history
abbrev pub hist_begin : Hist → ℕ → ℕ → Hist
hist_begin h s id = record { last = h.last; who = upd h.who s id; view = upd h.view s h.last; own = upd h.own s (λ _. none) }

abbrev pub hist_write : Hist → ℕ → ℕ → ℕ → Option ℕ → Hist
hist_write h s id row v = record { last = h.last; who = h.who; view = h.view; own = upd h.own s (upd (h.own s) row (some (said v id))) }

abbrev pub hist_end : Hist → ℕ → Hist
hist_end h s = record { last = h.last; who = upd h.who s 0; view = h.view; own = h.own }

abbrev pub hist_commit : Hist → ℕ → Hist
hist_commit h s = record { last = λ r. or_else (h.own s r) (h.last r); who = upd h.who s 0; view = h.view; own = h.own }

-- ---- the caller of a slot
-- slot in range, presented id the slot's own and not 0
pub record Owner {z : Sizes} (m : Mem z) (s id : ℕ) : Type 0 where
  pub slot : s < z.slots
  pub real : id ≢ 0
  pub own : id ≡ get_or (words_at m s) ID 0
