use Rattle.std.proofs.Common.{◌≡◌, ◌++◌, length}
use Rattle.linearize_check_proof.specs.Layout.{order_code}
use Rattle.linearize_check_layout.proofs.layout.lay_out.Given as goal

-- the code so far, and that of the nodes that are left, is the whole
abbrev pub invariant-loop-node : goal.invariant-loop-node
invariant-loop-node l = l.code.items ++ order_code l.blocks l.rest ≡ order_code l.blocks l.order

abbrev pub decreases-loop-node : goal.decreases-loop-node
decreases-loop-node l = length l.rest
