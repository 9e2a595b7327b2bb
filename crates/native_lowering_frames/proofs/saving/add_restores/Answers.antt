-- Why the loop of `add_restores` keeps its invariant, and what that says at its end.
use Rattle.std.proofs.Common.{arith}
use Rattle.native_lowering_frames.proofs.Nexts.{restores_next, restores_end}
use Rattle.native_lowering_frames.proofs.Rests.{more, done}
use Rattle.native_lowering_frames.proofs.saving.add_restores.Goals as goal

pub loop-j-preserved : goal.loop-j-preserved
loop-j-preserved c =
    let written = rw c.register_of-target.ensures at c.in_ok-push.ensures.items in
    more c.args.out.now.items c.loop-j.out.items c.push.new.self.items _ _ _ _ c.loop-j.invariant (restores_next c.args.first c.loop-j.j 0 c.args.saved.now c.loop-j-test.true) written

pub returns : goal.returns
returns c = done c.args.out.now.items c.loop-j.out.items _ _ c.loop-j.invariant (restores_end c.args.first c.loop-j.j c.args.saved.now (omega arith))
