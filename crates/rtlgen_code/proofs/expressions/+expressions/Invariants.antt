use Rattle.std.proofs.Common.{◌*◌, ◌+◌}
use Rattle.cminor_syntax.specs.Fits.{expression_height}
use Rattle.cminor_syntax.specs.Views.{expression_tree}
use Rattle.rtlgen_code.proofs.expressions.+expressions.Given as goal

abbrev pub decreases-add_expression : goal.decreases-add_expression
decreases-add_expression l = 2 * expression_height (expression_tree l.expression.now)

abbrev pub decreases-add_operand : goal.decreases-add_operand
decreases-add_operand l = 2 * expression_height (expression_tree l.expression.now) + 1
