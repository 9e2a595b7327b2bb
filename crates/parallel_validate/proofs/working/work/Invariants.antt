use Rattle.std.specs.List.{AllByRecursion}
use Rattle.parallel_validate.specs.Verdicts.{IsRight}
use Rattle.parallel_validate.proofs.working.work.Given as goal

-- what was answered is right
abbrev pub invariant-loop : goal.invariant-loop
invariant-loop g l = AllByRecursion (IsRight g.P.Pass.accepts l.jobs) l.verdicts.items
