use Rattle.cminor_syntax.specs.Views.{statement_tree}
use Rattle.cminor_language.specs.Same.{same_statement}
use Rattle.cminor_language.proofs.Pointwise.{IsUnderWay}
use Rattle.cminor_language.proofs.same.+statements.Given as goal

abbrev pub invariant-same_each-loop-index : goal.invariant-same_each-loop-index
invariant-same_each-loop-index l = IsUnderWay (λ a b. same_statement (statement_tree a) (statement_tree b)) l.left l.right l.index
