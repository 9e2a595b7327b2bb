use Rattle.std.proofs.Common.{take}
use Rattle.std.specs.List.{AllByRecursion}
use Rattle.cfarm_build_result.specs.Learned.{learned_by, IsUndecided}
use Rattle.cfarm_build_linking.proofs.linking.all_link.Given as goal

-- the first nodes link all functions
abbrev pub invariant-loop-number : goal.invariant-loop-number
invariant-loop-number g l = AllByRecursion (λ n. IsUndecided (learned_by n.seats.items) → ⊥) (take l.number l.nodes)
