-- Why the loop of `add_fetches` keeps its invariant, and what that says at its end.
use Rattle.std.proofs.Common.{arith}
use Rattle.x86_syntax.specs.declared.register.Register.TheVariants.{Edi}
use Rattle.locations.specs.Fits.{LocationFits}
use Rattle.native_lowering_frames.proofs.Nexts.{fetches_next, fetches_end}
use Rattle.native_lowering_frames.proofs.Rests.{more, done, all_at}
use Rattle.native_lowering_frames.proofs.passing.add_fetches.Goals as goal

pub add_fetch-requires : goal.add_fetch-requires
add_fetch-requires c = all_at (LocationFits c.args.frame.now.slots) c.args.arguments.now c.loop-j.j _ c.requires (omega arith)

pub loop-j-preserved : goal.loop-j-preserved
loop-j-preserved c =
    let written = rw c.passes_in.ensures at c.in_ok-add_fetch.ensures in
    more c.args.out.now.items c.loop-j.out.items c.add_fetch.new.out.items _ _ _ _ c.loop-j.invariant (fetches_next c.args.frame.now c.args.arguments.now c.loop-j.j _ (omega arith) Edi (omega arith)) written

pub returns : goal.returns
returns c = done c.args.out.now.items c.loop-j.out.items _ _ c.loop-j.invariant (fetches_end c.args.frame.now c.loop-j.j c.args.arguments.now (omega arith))
