use Rattle.std.proofs.Common.{take}
use Rattle.locations.specs.Fits.{AreDistinct}
use Rattle.oracle_graphs.proofs.parameters.are_distinct.Given as goal

abbrev pub invariant-loop-i : goal.invariant-loop-i
invariant-loop-i l = AreDistinct (take l.i l.locations)
