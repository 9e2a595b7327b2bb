use Rattle.std.proofs.Common.{drop}
use Rattle.c_checker.proofs.Walking.{IsTaken}
use Rattle.c_checker.proofs.unit.take_all.Given as goal

abbrev pub invariant-loop-declaration : goal.invariant-loop-declaration
invariant-loop-declaration l = IsTaken l.fn.bodies l.declarations l.progress (drop l.declaration-index l.declarations)
