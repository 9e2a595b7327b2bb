use Rattle.std.proofs.Common.{length}
use Rattle.rtlgen_code.proofs.operands.+push_operand_registers.Given as goal

abbrev pub decreases-push_operand_registers : goal.decreases-push_operand_registers
decreases-push_operand_registers l = length l.arguments.now
