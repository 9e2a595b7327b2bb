use Rattle.rooms_function.proofs.Passes.{InFront}
use Rattle.rooms_function.proofs.opening.unsettled_pass.Given as goal

-- in the passes so far all is settled
abbrev pub invariant-loop-pass : goal.invariant-loop-pass
invariant-loop-pass l = InFront l.quorums l.kept l.pass
