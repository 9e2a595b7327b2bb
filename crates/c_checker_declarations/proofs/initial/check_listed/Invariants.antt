use Rattle.std.proofs.Common.{drop}
use Rattle.c_checker_declarations.proofs.Listed.{IsUnderWay}
use Rattle.c_checker_declarations.proofs.initial.check_listed.Given as goal

abbrev pub invariant-loop-initial : goal.invariant-loop-initial
invariant-loop-initial l = IsUnderWay l.scope l.initials l.words.items (drop l.initial-index l.initials)
