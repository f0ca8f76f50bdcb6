use native.Mathlib.Omega.{arith}
use Rattle.answers.specs.Laws.{laid_length, list_fits, answered}
use Rattle.answers.proofs.put_answer.Goals as goal

pub put_bytes-requires : goal.put_bytes-requires
put_bytes-requires c = omega (arith, list_fits c.args.ns.now c.put_fields-q.ensures, c.put_bytes-p.ensures.past, laid_length c.put_bytes-p.ensures, laid_length c.put_fields-q.ensures)

pub returns : goal.returns
returns c = answered c.args.ns.now c.put_bytes-p.ensures c.put_fields-q.ensures c.put_bytes.ensures
