use Rattle.std.proofs.Common.{sym, ◌∙◌, arith}
use Rattle.digits.specs.Laws.{number_bad, number_start, read_done, read_low, read_high, read_big, read_step}
use Rattle.digits.proofs.parse.Goals as goal

pub returns-then-not-leads : goal.returns-then-not-leads
returns-then-not-leads c = sym (number_bad c.args.s.now (sym c.leads.ensures ∙ c.if-not-leads.true))

pub loop-b-init : goal.loop-b-init
loop-b-init c = record { in_width = omega arith; read = number_start c.args.s.now (sym c.leads.ensures ∙ c.if-not-leads.false) }

pub returns-in_default : goal.returns-in_default
returns-in_default c = sym (read_low c.args.s.now c.loop-b.v c.loop-b.b-index c.loop-b-test.true (omega arith)) ∙ c.loop-b.invariant.read

pub returns-in_default-2 : goal.returns-in_default-2
returns-in_default-2 c = sym (read_high c.args.s.now c.loop-b.v c.loop-b.b-index c.loop-b-test.true (omega arith)) ∙ c.loop-b.invariant.read

pub returns-in_err-checked_mul : goal.returns-in_err-checked_mul
returns-in_err-checked_mul c =
    c.from_residual.ensures
    ∙ sym (read_big c.args.s.now c.loop-b.v c.loop-b.b-index c.loop-b-test.true (omega arith) (omega arith) (omega (arith, c.in_err-checked_mul.ensures)))
    ∙ c.loop-b.invariant.read

pub returns-in_err-v : goal.returns-in_err-v
returns-in_err-v c =
    c.from_residual-in_err-v.ensures
    ∙ sym (read_big c.args.s.now c.loop-b.v c.loop-b.b-index c.loop-b-test.true (omega arith) (omega arith) (omega (arith, c.in_ok-checked_mul.ensures, c.in_err-v.ensures)))
    ∙ c.loop-b.invariant.read

pub loop-b-preserved : goal.loop-b-preserved
loop-b-preserved c = record {
  in_width = omega (arith, c.in_ok-v.ensures);
  read =
      sym (read_step c.args.s.now c.loop-b.v c.loop-b.b-index c.loop-b-test.true (omega arith) (omega arith) c.in_ok-v.v (omega (arith, c.in_ok-checked_mul.ensures, c.in_ok-v.ensures)))
      ∙ c.loop-b.invariant.read;
}

pub returns : goal.returns
returns c = sym (read_done c.args.s.now c.loop-b.v c.loop-b.b-index c.loop-b-test.false c.loop-b.invariant.in_width) ∙ c.loop-b.invariant.read
