use Rattle.x86.proofs.Places.{IsBehind}
use Rattle.x86.proofs.jumping.find.Given as goal

abbrev pub invariant-loop-place : goal.invariant-loop-place
invariant-loop-place l = IsBehind l.label l.place l.code
