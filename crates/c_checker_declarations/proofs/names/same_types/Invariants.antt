use Rattle.std.proofs.Common.{◌≡◌, length}
use Rattle.c_checker_rules.specs.Functions as F
use Rattle.c_checker_declarations.proofs.names.same_types.Given as goal

-- what is left is the same where the whole is
abbrev pub invariant-loop-left : goal.invariant-loop-left
invariant-loop-left l = F.same_types l.one l.other ≡ F.same_types l.left l.right

abbrev pub decreases-loop-left : goal.decreases-loop-left
decreases-loop-left l = length l.left
