use Rattle.answers.specs.Laws.{laid_length, laid_then, field_fits, list_fits, answered}
use Rattle.answers.specs.Answers.{fields}
use mathlib.Core.List.{◌∷◌}
use native.Mathlib.Omega.{arith}
use Rattle.answers.proofs.counted.Goals as goal

pub put_fields-e-requires : goal.put_fields-e-requires
put_fields-e-requires c = omega (arith, field_fits _ c.put_field-q.ensures, c.put_bytes-p.ensures.past, laid_length c.put_bytes-p.ensures, laid_length c.put_field-q.ensures)

pub put_bytes-requires : goal.put_bytes-requires
put_bytes-requires c = omega (arith, list_fits c.args.ns.now c.put_fields-e.ensures, field_fits _ c.put_field-q.ensures, c.put_bytes-p.ensures.past, laid_length c.put_bytes-p.ensures, laid_length c.put_field-q.ensures, laid_length c.put_fields-e.ensures)

pub returns : goal.returns
unfolding fields
returns c = answered (c.args.count ∷ c.args.ns.now) c.put_bytes-p.ensures (laid_then c.put_field-q.ensures c.put_fields-e.ensures) c.put_bytes.ensures
