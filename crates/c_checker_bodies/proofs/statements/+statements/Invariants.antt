use Rattle.std.proofs.Common.{drop}
use Rattle.c_checker_bodies.proofs.Turns.{IsUnderWay}
use Rattle.c_checker_bodies.proofs.statements.+statements.Given as goal

abbrev pub invariant-check_statements-loop-statement : goal.invariant-check_statements-loop-statement
invariant-check_statements-loop-statement l = IsUnderWay l.functions l.context l.initial.here l.all l.here l.actions.items (drop l.statement-index l.all)
