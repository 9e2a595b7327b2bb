-- Why the loop of `add_saves` keeps its invariant, and what that says at its end.
use Rattle.std.proofs.Common.{arith}
use Rattle.native_lowering_frames.proofs.Nexts.{saves_next, saves_end}
use Rattle.native_lowering_frames.proofs.Rests.{more, done}
use Rattle.native_lowering_frames.proofs.saving.add_saves.Goals as goal

pub loop-j-preserved : goal.loop-j-preserved
loop-j-preserved c =
    let written = rw c.register_of-source.ensures at c.in_ok-push.ensures.items in
    more c.args.out.now.items c.loop-j.out.items c.push.new.self.items _ _ _ _ c.loop-j.invariant (saves_next c.args.first c.loop-j.j 0 c.args.saved.now c.loop-j-test.true) written

pub returns : goal.returns
returns c = done c.args.out.now.items c.loop-j.out.items _ _ c.loop-j.invariant (saves_end c.args.first c.loop-j.j c.args.saved.now (omega arith))
