use Rattle.cminor_syntax.specs.Views.{expression_tree}
use Rattle.cminor_language.specs.Same.{same_expression}
use Rattle.cminor_language.proofs.Pointwise.{IsUnderWay}
use Rattle.cminor_language.proofs.same.same_expressions.Given as goal

abbrev pub invariant-loop-index : goal.invariant-loop-index
invariant-loop-index l = IsUnderWay (λ a b. same_expression (expression_tree a) (expression_tree b)) l.left l.right l.index
