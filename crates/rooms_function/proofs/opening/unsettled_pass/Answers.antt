-- Why the loop of `unsettled_pass` over `pass` keeps the invariant.
use Rattle.rooms_function.proofs.Passes.{in_front}
use Rattle.rooms_function.proofs.opening.unsettled_pass.Goals as goal

pub loop-pass-preserved : goal.loop-pass-preserved
loop-pass-preserved c =
    in_front c.args.quorums c.args.kept.now c.loop-pass.pass c.loop-pass.invariant (c.is_settled_in.ensures.0 c.if-not-is_settled_in.false)
