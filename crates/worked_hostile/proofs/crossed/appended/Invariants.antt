use Rattle.acceptor_log.specs.Acknowledged.{IsSound}
use Rattle.worked_hostile.proofs.crossed.appended.Given as goal

-- the journal may be asked
abbrev pub invariant-loop-entry : goal.invariant-loop-entry
invariant-loop-entry g l = IsSound g.D.Disk l.log
