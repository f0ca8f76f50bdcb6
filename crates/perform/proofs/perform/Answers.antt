use native.Mathlib.Omega.{arith}
use Rattle.perform.specs.Laws.{line_as, after_as, said_fits}
use Rattle.answers.specs.Laws.{laid_as}
use Rattle.perform.proofs.perform.Goals as goal

pub returns : goal.returns
returns c = record { upper_bound = omega (arith, said_fits c.act-said.result _ c.put_said.ensures, c.requires.numbers_in_bounds); laid = laid_as c.put_said.ensures (line_as _ _ _ _ _ c.act-said.ensures.text c.parse_line-line.ensures); memory_after = after_as _ _ _ _ _ c.act-said.ensures.memory c.parse_line-line.ensures }
