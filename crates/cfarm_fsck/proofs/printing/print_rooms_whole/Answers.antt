-- The lines were printed, and nothing behind them, or begun.
use Rattle.std.proofs.Common.{[], append-nil}
use Rattle.cfarm_fsck.specs.Telling.{room_lines}
use Rattle.cfarm_fsck.proofs.Begun.{prints_behind, prints_same}
use Rattle.cfarm_fsck.proofs.printing.print_rooms_whole.Goals as goal

pub returns-in-Ok-clause-printed : goal.returns-in-Ok-clause-printed
returns-in-Ok-clause-printed g c =
    let lines = room_lines c.args.accept c.args.kept.now c.args.functions.now in
    prints_same g.W.Write.contents c.flush.result c.args.out.now c.flush.new.out (append-nil lines)
    (prints_behind g.W.Write.contents lines [] c.flush.result c.args.out.now c.print_rooms.new.out c.flush.new.out c.in-Ok.ensures.printed c.flush.ensures.printed)
