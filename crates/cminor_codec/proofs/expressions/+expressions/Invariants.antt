use Rattle.std.proofs.Common.{◌+◌, ◌*◌}
use Rattle.cminor_codec.proofs.expressions.+expressions.Given as goal

abbrev pub decreases-read_expression : goal.decreases-read_expression
decreases-read_expression l = 4 * l.fuel

abbrev pub decreases-read_by_code : goal.decreases-read_by_code
decreases-read_by_code l = 4 * l.below + 3

abbrev pub decreases-read_load : goal.decreases-read_load
decreases-read_load l = 4 * l.below + 2

abbrev pub decreases-read_operation : goal.decreases-read_operation
decreases-read_operation l = 4 * l.below + 2

abbrev pub decreases-read_operands : goal.decreases-read_operands
decreases-read_operands l = 4 * l.below + 1

abbrev pub decreases-read_choice : goal.decreases-read_choice
decreases-read_choice l = 4 * l.below + 2
