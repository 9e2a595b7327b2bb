-- Why the loop of `push_copies` over `step` keeps the invariant.
use Rattle.linearize_check_layout.proofs.Stretches.{copies_more}
use Rattle.linearize_check_layout.proofs.layout.push_copies.Goals as goal

pub loop-step-preserved : goal.loop-step-preserved
loop-step-preserved c = copies_more _ _ _ _ _ _ c.in_ok-push.ensures.items c.loop-step.invariant c.loop-step-test.true
