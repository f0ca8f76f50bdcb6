use Rattle.std.proofs.Common.{sym, arith}
use Rattle.digits.specs.Laws.{leads_none, leads_one, leads_more}
use Rattle.digits.proofs.leads.Goals as goal

pub returns-in-empty : goal.returns-in-empty
returns-in-empty c = sym (leads_none c.args.s.now (omega arith))

pub returns-in-len1 : goal.returns-in-len1
returns-in-len1 c = sym (leads_one c.args.s.now (omega arith))

pub returns-in-len1-up : goal.returns-in-len1-up
returns-in-len1-up c = sym (leads_more c.args.s.now (omega arith))
