use Rattle.c_checker.proofs.Numbering.{IsNumbering}
use Rattle.c_checker.proofs.bodies.bodies_of.Given as goal

abbrev pub invariant-loop-declaration : goal.invariant-loop-declaration
invariant-loop-declaration l = IsNumbering l.declarations l.bodies l.number l.declaration-index
