use Rattle.acceptor_log.specs.Acknowledged.{IsSound}
use Rattle.worked_journals.proofs.crashes.filled.Given as goal

abbrev pub invariant-loop-number : goal.invariant-loop-number
invariant-loop-number g l = IsSound g.D.Disk l.log
