-- A code within the table is read there; outside it there is no operator.
use Rattle.std.proofs.Common.{◌≡◌, sym, arith}
use Rattle.ints.specs.declared.operators.Op.TheVariants.{NegS}
use Rattle.ints.proofs.Codes.{op_of_code-within, op_of_code-past, op_of_code-zero}
use Rattle.ints.proofs.operators.Op.from_code.Goals as goal
use Rattle.ints.proofs.operators.Op.from_code.Goals.{else-code-ge1-via-then-code-ge1+else-code-le27, else-code-ge1-via-else-code-ge1}

pub returns-then-code-le27 : goal.returns-then-code-le27
returns-then-code-le27 c =
    rw (← c.from-code.ensures) (sym (op_of_code-within c.from-code.result NegS (omega arith) (omega arith)))

pub returns-else-code-ge1 : goal.returns-else-code-ge1
returns-else-code-ge1 c =
    elim c.else-code-ge1.branch [
      | else-code-ge1-via-then-code-ge1+else-code-le27 w ↦ sym (op_of_code-past c.args.code (omega arith))
      | else-code-ge1-via-else-code-ge1 w ↦ let e : c.args.code ≡ 0 = omega arith in rw e (sym op_of_code-zero)
    ]
