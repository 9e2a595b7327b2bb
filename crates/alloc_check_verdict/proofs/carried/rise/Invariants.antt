use Rattle.std.proofs.Common.{drop}
use Rattle.std.specs.Prelude.{◌↔◌}
use Rattle.alloc_check_lists.specs.Ranks.{RiseFrom}
use Rattle.alloc_check_verdict.proofs.carried.rise.Given as goal

abbrev pub invariant-loop-equation : goal.invariant-loop-equation
invariant-loop-equation l = RiseFrom l.lower (drop l.equation-index l.equations) ↔ RiseFrom 0 l.equations
