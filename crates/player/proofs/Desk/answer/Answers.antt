use Rattle.std.proofs.Common.{◌≡◌, arith, length}
use Rattle.player.proofs.Desk.answer.Goals as goal

pub returns-clause-laid : goal.returns-clause-laid
returns-clause-laid g c =
    let r : length c.args.self.now.reports ≡ g.row.REPORTS = omega arith in
    let n : length c.args.self.now.numbers ≡ g.row.NUMBERS = omega arith in
    rw (r, n) at c.perform.ensures.laid

pub returns-clause-memory_after : goal.returns-clause-memory_after
returns-clause-memory_after g c =
    let r : length c.args.self.now.reports ≡ g.row.REPORTS = omega arith in
    let n : length c.args.self.now.numbers ≡ g.row.NUMBERS = omega arith in
    rw (r, n) at c.perform.ensures.memory_after
