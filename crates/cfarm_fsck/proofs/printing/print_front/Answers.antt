-- The lines of the nodes were printed, or begun.
use Rattle.cfarm_fsck.specs.Telling.{node_lines, room_lines}
use Rattle.cfarm_fsck.proofs.Begun.{begun_longer, prints_behind}
use Rattle.cfarm_fsck.proofs.printing.print_front.Goals as goal

pub returns-in-Ok-clause-printed : goal.returns-in-Ok-clause-printed
returns-in-Ok-clause-printed g c =
    let first = node_lines c.args.journals.now in
    let second = room_lines c.args.accept c.args.kept.now c.args.functions.now in
    prints_behind g.W.Write.contents first second c.print_rooms_whole.result c.args.out.now c.print_nodes.new.out c.print_rooms_whole.new.out c.in-Ok.ensures.printed c.print_rooms_whole.ensures.printed

pub returns-in-Err-clause-printed : goal.returns-in-Err-clause-printed
returns-in-Err-clause-printed g c =
    let first = node_lines c.args.journals.now in
    let second = room_lines c.args.accept c.args.kept.now c.args.functions.now in
    begun_longer first second (g.W.Write.contents c.args.out.now) (g.W.Write.contents c.print_nodes.new.out) c.in-Err.ensures.printed
