use Rattle.std.proofs.Common.{length}
use Rattle.rtlgen_code.proofs.temporaries.+operands_need.Given as goal

abbrev pub decreases-operands_need : goal.decreases-operands_need
decreases-operands_need l = length l.arguments.now
