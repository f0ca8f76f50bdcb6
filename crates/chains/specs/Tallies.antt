-- The judge of a chain: harmed, or how many of its versions are reclaimable. A count so far, and what is left of the chain, give what
-- the whole chain gives.
use Rattle.std.specs.Prelude.{ℕ, ◌+◌, ◌-◌, ◌≤◌, ◌<◌, Bool, true, false, not, List, ◌∷◌, ◌≢◌, ◌≡◌, refl, length}
use Rattle.std.proofs.Common.{arith, sym, ap}
use mir.Val.{bool_byte}
use Rattle.kinds.specs.declared.Version.{Version}
use Rattle.words.specs.Lists.{keep}
use Rattle.kinds.specs.Versions.{version_at}
use Rattle.rules.specs.Chain.{After, ends, goes_on, broken, Chain, chain}
use Rattle.kinds.specs.Versions.{reclaimable}
use Rattle.rules.proofs.Theory.Cases.{by_bool}
use Rattle.std.specs.Prelude.{Result, Ok, Err}
use Rattle.kinds.specs.declared.refusals.Refusal.{Refusal}
use Rattle.kinds.specs.declared.refusals.Refusal.TheVariants.{Damaged}
use Rattle.chains.specs.Lines.{chain_end, chain_limit, chain_broken, chain_next}

-- the versions that go, and those that stay
abbrev pub dead : List (List ℕ) → ℕ → ℕ → Bool
dead cs hz c = reclaimable hz (version_at cs c)

abbrev pub alive : List (List ℕ) → ℕ → ℕ → Bool
alive cs hz c = not (reclaimable hz (version_at cs c))

abbrev tally_of : (ℕ → Bool) → ℕ → List ℕ → After → Result ℕ Refusal
tally_of p k l ends = Ok (k + length (keep p l))
tally_of p k l goes_on = Err Damaged
tally_of p k l broken = Err Damaged

-- k counted before
unfoldable pub tally : (ℕ → Bool) → ℕ → Chain → Result ℕ Refusal
tally p k a = tally_of p k a.cells a.after

tally_cons : (p : ℕ → Bool) (k c : ℕ) (l : List ℕ) (a : After) → tally_of p k (c ∷ l) a ≡ tally_of p (k + bool_byte (p c)) l a
unfolding keep
tally_cons p k c l ends = ap Ok (by_bool (p c) (λ e. rw e (omega arith)) (λ e. rw e (omega arith)))
tally_cons p k c l goes_on = refl
tally_cons p k c l broken = refl

module _ (n : ℕ) (f : ℕ → Version) (p : ℕ → Bool) (k : ℕ) where
  pub tally_end : (left c : ℕ) → c ≡ 0 → tally p k (chain n f left c) ≡ Ok k
  unfolding tally keep
  tally_end left c e = rw (chain_end n f left c e) (ap Ok (omega arith))

  pub tally_limit : (left c : ℕ) → left ≡ 0 → c ≢ 0 → tally p k (chain n f left c) ≡ Err Damaged
  unfolding tally
  tally_limit left c z e = rw (chain_limit n f left c z e)

  pub tally_broken : (left c : ℕ) → left ≢ 0 → c ≢ 0 → n < c → tally p k (chain n f left c) ≡ Err Damaged
  unfolding tally
  tally_broken left c z e h = rw (chain_broken n f left c z e h)

  pub tally_next : (left c : ℕ) → left ≢ 0 → c ≢ 0 → c ≤ n → tally p k (chain n f left c) ≡ tally p (k + bool_byte (p c)) (chain n f (left - 1) (f c).next.0)
  unfolding tally
  tally_next left c z e h = rw (chain_next n f left c z e h) (tally_cons p k c (chain n f (left - 1) (f c).next.0).cells (chain n f (left - 1) (f c).next.0).after)

-- what a sound chain has shown
tally_sound : (p : ℕ → Bool) (k x : ℕ) (l : List ℕ) (a : After) → tally_of p k l a ≡ Ok x → (a ≡ ends) × (x ≡ k + length (keep p l))
tally_sound p k x l ends e = (refl, let q : k + length (keep p l) ≡ x = cc in sym q)
tally_sound p k x l goes_on e = absurd (let q : ◌≡◌ {A = ℕ} 0 1 = cc in omega arith)
tally_sound p k x l broken e = absurd (let q : ◌≡◌ {A = ℕ} 0 1 = cc in omega arith)

pub sound : (p : ℕ → Bool) (x : ℕ) (a : Chain) → tally p 0 a ≡ Ok x → (a.after ≡ ends) × (x ≡ length (keep p a.cells))
unfolding tally
sound p x a e = let f = tally_sound p 0 x a.cells a.after e in (f.0, omega (arith, f.1))

pub bit_le : (b : Bool) → bool_byte b ≤ 1
bit_le true = omega arith
bit_le false = omega arith
