use Rattle.std.specs.Prelude.{◌≡◌, ◌-◌, ◌≤◌}
use Rattle.chains.specs.Tallies.{dead, tally}
use Rattle.rules.specs.Chain.{chain}
use Rattle.kinds.specs.Versions.{version_at}
use Rattle.chains.proofs.count_dead.Given as goal

abbrev pub invariant-loop : goal.invariant-loop
invariant-loop l = (l.count ≤ l.counter)
    × (tally (dead l.cells l.horizon) l.count (chain l.n (version_at l.cells) (l.most - l.counter) l.c.0)
    ≡ tally (dead l.cells l.horizon) 0 (chain l.n (version_at l.cells) l.most l.initial.c.0))
