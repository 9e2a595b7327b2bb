use Rattle.std.proofs.Common.{◌≡◌, take, map}
use Rattle.cminor_syntax.specs.Views.{expression_tree}
use Rattle.cminor_language.proofs.copying.copy_expressions.Given as goal

abbrev pub invariant-loop-expression : goal.invariant-loop-expression
invariant-loop-expression l = map expression_tree l.copied.items ≡ map expression_tree (take l.expression-index l.expressions)
