use Rattle.std.proofs.Common.{length}
use Rattle.c_reader.proofs.Naming.{IsNaming}
use Rattle.c_reader.proofs.parameters.all_named.Given as goal

abbrev pub invariant-loop-parameter : goal.invariant-loop-parameter
invariant-loop-parameter l = IsNaming l.all.items l.rest l.parameters

abbrev pub decreases-loop-parameter : goal.decreases-loop-parameter
decreases-loop-parameter l = length l.rest
