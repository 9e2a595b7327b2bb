-- Why the loop of `add_keeps` keeps its invariant, and what that says at its end.
use Rattle.std.proofs.Common.{◌-◌, arith}
use Rattle.locations.specs.Fits.{LocationFits}
use Rattle.native_lowering_frames.proofs.Nexts.{keeps_next, keeps_end}
use Rattle.native_lowering_frames.proofs.Rests.{more, done, all_at}
use Rattle.native_lowering_frames.proofs.passing.add_keeps.Goals as goal

pub add_keep-requires : goal.add_keep-requires
add_keep-requires c = all_at (LocationFits c.args.frame.now.slots) c.args.arguments.now c.loop-j.j _ c.requires.each (omega arith)

pub loop-j-preserved : goal.loop-j-preserved
loop-j-preserved c =
    let written = c.in_ok-add_keep.ensures in
    more c.args.out.now.items c.loop-j.out.items c.add_keep.new.out.items _ _ _ _ c.loop-j.invariant (keeps_next c.args.frame.now c.args.arguments.now c.loop-j.j _ (omega arith) (omega arith)) written

pub returns : goal.returns
returns c = done c.args.out.now.items c.loop-j.out.items _ _ c.loop-j.invariant (keeps_end c.args.frame.now (c.loop-j.j - 4) c.loop-j.j c.args.arguments.now (omega arith))
