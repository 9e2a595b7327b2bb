-- All lines but the last were printed, or begun.
use Rattle.std.proofs.Common.{inr}
use Rattle.cfarm_fsck.proofs.Opened.{in_part}
use Rattle.cfarm_fsck.proofs.command.tell_unchained.Goals as goal

pub returns-in-Ok : goal.returns-in-Ok
returns-in-Ok g c = (c.requires.first, c.in-Ok.ensures.printed)

pub returns-in-Err : goal.returns-in-Err
returns-in-Err g c =
    in_part c.args.accept c.args.functions.now c.args.journals.now c.args.kept.now c.in-Err.fault (g.W.Write.contents c.args.out.now)
    (g.W.Write.contents c.print_front.new.out) c.in-Err.ensures.err (inr (inr (c.args.function, c.requires.first, c.in-Err.ensures.printed)))
