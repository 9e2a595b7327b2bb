use Rattle.acceptor_log.specs.Acknowledged.{IsSound}
use Rattle.worked_journals.proofs.again.appended.Given as goal

abbrev pub invariant-loop-entry : goal.invariant-loop-entry
invariant-loop-entry g l = IsSound g.D.Disk l.log
