-- The first line was printed, or begun.
use Rattle.std.proofs.Common.{◌+◌}
use Rattle.cfarm_fsck.specs.Telling.{room_line}
use Rattle.cfarm_fsck.proofs.Begun.{begun_longer, prints_behind}
use Rattle.cfarm_fsck.proofs.printing.print_two.Goals as goal

pub returns-in-Ok-clause-printed : goal.returns-in-Ok-clause-printed
returns-in-Ok-clause-printed g c =
    let first = room_line c.args.accept c.args.kept.now c.args.name.now c.args.function c.args.pass in
    let second = room_line c.args.accept c.args.kept.now c.args.name.now c.args.function (c.args.pass + 1) in
    prints_behind g.W.Write.contents first second c.print_room-in-Ok.result c.args.out.now c.print_room.new.out c.print_room-in-Ok.new.out c.in-Ok.ensures.printed c.print_room-in-Ok.ensures.printed

pub returns-in-Err-clause-printed : goal.returns-in-Err-clause-printed
returns-in-Err-clause-printed g c =
    let first = room_line c.args.accept c.args.kept.now c.args.name.now c.args.function c.args.pass in
    let second = room_line c.args.accept c.args.kept.now c.args.name.now c.args.function (c.args.pass + 1) in
    begun_longer first second (g.W.Write.contents c.args.out.now) (g.W.Write.contents c.print_room.new.out) c.in-Err.ensures.printed
