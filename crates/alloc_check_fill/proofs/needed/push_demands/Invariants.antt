use Rattle.alloc_check_fill.proofs.Steps.{IsSoFar}
use Rattle.alloc_check_fill.proofs.needed.push_demands.Given as goal

abbrev pub invariant-loop-equation : goal.invariant-loop-equation
invariant-loop-equation l = IsSoFar l.block l.change l.behind l.equation-index l.fn.out.items l.out.items
