use Rattle.std.proofs.Common.{length}
use Rattle.rtlgen_code.proofs.operands.+add_operands.Given as goal

abbrev pub decreases-add_operands : goal.decreases-add_operands
decreases-add_operands l = length l.arguments.now
