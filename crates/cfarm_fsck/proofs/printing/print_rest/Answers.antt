-- The lines of the rooms were printed, or begun.
use Rattle.std.specs.Prelude.{codes}
use Rattle.cfarm_fsck.specs.Telling.{room_lines}
use Rattle.cfarm_fsck.proofs.Begun.{begun_longer, prints_behind}
use Rattle.cfarm_fsck.proofs.printing.print_rest.Goals as goal

pub returns-in-Ok-clause-printed : goal.returns-in-Ok-clause-printed
returns-in-Ok-clause-printed g c =
    let first = room_lines c.args.accept c.args.kept.now c.args.functions.now in
    let second = codes "ok\n" in
    prints_behind g.W.Write.contents first second c.print_ok.result c.args.out.now c.print_rooms.new.out c.print_ok.new.out c.in-Ok.ensures.printed c.print_ok.ensures.printed

pub returns-in-Err-clause-printed : goal.returns-in-Err-clause-printed
returns-in-Err-clause-printed g c =
    let first = room_lines c.args.accept c.args.kept.now c.args.functions.now in
    let second = codes "ok\n" in
    begun_longer first second (g.W.Write.contents c.args.out.now) (g.W.Write.contents c.print_rooms.new.out) c.in-Err.ensures.printed
