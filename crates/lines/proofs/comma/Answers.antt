use Rattle.lines.specs.Fields.{cut_comma, cut_end}
use Rattle.lines.proofs.comma.Goals as goal

pub returns-in-Some : goal.returns-in-Some
returns-in-Some c = cut_comma c.args.s.now c.args.from c.requires c.in-Some.i c.in-Some.ensures

pub returns-in-None : goal.returns-in-None
returns-in-None c = cut_end c.args.s.now c.args.from c.requires c.in-None.ensures
