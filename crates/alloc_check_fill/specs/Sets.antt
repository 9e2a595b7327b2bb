-- Lists as sets of equations: order and number do not count.
use Rattle.std.specs.Prelude.{List, ◌↔◌, Contains}
use Rattle.alloc_check_rules.specs.declared.equation.Equation.{Equation}

-- each equation of the first is in the second
abbrev pub Within : List Equation → List Equation → Type 0
Within es fs = (e : Equation) → Contains es e → Contains fs e

-- the same equations
abbrev pub SameSet : List Equation → List Equation → Type 0
SameSet es fs = (e : Equation) → Contains es e ↔ Contains fs e
