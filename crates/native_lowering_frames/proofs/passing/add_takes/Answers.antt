-- Why the loop of `add_takes` keeps its invariant, and what that says at its end.
use Rattle.std.proofs.Common.{◌-◌, arith}
use Rattle.locations.specs.Fits.{LocationFits}
use Rattle.native_lowering_frames.proofs.Nexts.{takes_next, takes_end}
use Rattle.native_lowering_frames.proofs.Rests.{more, done, all_at}
use Rattle.native_lowering_frames.proofs.passing.add_takes.Goals as goal

pub add_take-requires : goal.add_take-requires
add_take-requires c = all_at (LocationFits c.args.frame.now.slots) c.args.parameters.now c.loop-j.j _ c.requires.each (omega arith)

pub loop-j-preserved : goal.loop-j-preserved
loop-j-preserved c =
    let written = rw c.argument_cell.ensures at c.in_ok-add_take.ensures in
    more c.args.out.now.items c.loop-j.out.items c.add_take.new.out.items _ _ _ _ c.loop-j.invariant (takes_next c.args.frame.now c.args.parameters.now c.loop-j.j _ (omega arith) (omega arith)) written

pub returns : goal.returns
returns c = done c.args.out.now.items c.loop-j.out.items _ _ c.loop-j.invariant (takes_end c.args.frame.now (c.loop-j.j - 4) c.loop-j.j c.args.parameters.now (omega arith))
