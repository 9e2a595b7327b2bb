use Rattle.linear_faults_search.proofs.Found.{HasCome}
use Rattle.linear_faults_search.proofs.finding.go_on.Given as goal

abbrev pub invariant-loop-left : goal.invariant-loop-left
invariant-loop-left l = HasCome l.functions l.limit l.fn.run l.left l.run

abbrev pub decreases-loop-left : goal.decreases-loop-left
decreases-loop-left l = l.left
