use Rattle.std.proofs.Common.{take}
use Rattle.parallel_validate.specs.Verdicts.{AreAnswers}
use Rattle.parallel_validate.proofs.collecting.finish.Given as goal

-- the answers so far are those of the first jobs
abbrev pub invariant-loop-number : goal.invariant-loop-number
invariant-loop-number g l = AreAnswers g.P.Pass.accepts (take l.number l.jobs) l.answers.items
