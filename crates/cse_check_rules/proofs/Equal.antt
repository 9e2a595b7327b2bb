-- The derived equality of equations tells them apart exactly.
use Rattle.std.proofs.Common.{ap, rules}
use Rattle.std.proofs.lemmas.Bool.{eqb-true, and_parts, false≢true}
use denote.Enum.Bare.{same_true}
use Rattle.ints.specs.contracts.operators.Op as op_type
use Rattle.ints.specs.contracts.operators.OpPartialEq.TheImpl as op_eq
use Rattle.machine.proofs.Equal.{Tells}
use Rattle.rtl_acts.specs.contracts.arguments.ArgumentsPartialEq.TheImpl as arguments_eq
use Rattle.rtl_acts.proofs.Equal.{arguments_tells}
use Rattle.cse_check_rules.specs.contracts.equation.RightSidePartialEq.TheImpl as right_eq
use Rattle.cse_check_rules.specs.contracts.equation.EquationPartialEq.TheImpl as equation_eq
use Rattle.cse_check_rules.specs.declared.equation.RightSide.TheVariants.{Operation, Cell, Copy}

right_tells : Tells (right_eq.ghosts).eq
right_tells (Operation o a) (Operation p b) e =
    let q = and_parts ((op_eq.ghosts).eq o p) ((arguments_eq.ghosts).eq a b) e in
    λ i. Operation (same_true op_type.the_type (search rules) o p q.0 i) (arguments_tells a b q.1 i)
right_tells (Cell g a) (Cell h b) e = let p = and_parts _ _ e in λ i. Cell (eqb-true g h p.0 i) (eqb-true a b p.1 i)
right_tells (Copy a) (Copy b) e = ap (λ r. Copy r) (eqb-true a b e)
right_tells _ _ e = absurd (false≢true e)

pub equation_tells : Tells (equation_eq.ghosts).eq
equation_tells a b e =
    let p = and_parts _ ((right_eq.ghosts).eq a.right b.right) e in
    λ i. record { register = eqb-true a.register b.register p.0 i; right = right_tells a.right b.right p.1 i }
