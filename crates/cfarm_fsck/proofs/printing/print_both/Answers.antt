-- The first bytes were printed, or begun.
use Rattle.cfarm_fsck.proofs.Begun.{begun_longer, prints_behind}
use Rattle.cfarm_fsck.proofs.printing.print_both.Goals as goal

pub returns-in-Ok-clause-printed : goal.returns-in-Ok-clause-printed
returns-in-Ok-clause-printed g c =
    let first = c.args.first.now in
    let second = c.args.second.now in
    prints_behind g.W.Write.contents first second c.print_bytes-in-Ok.result c.args.out.now c.print_bytes.new.out c.print_bytes-in-Ok.new.out c.in-Ok.ensures.printed c.print_bytes-in-Ok.ensures.printed

pub returns-in-Err-clause-printed : goal.returns-in-Err-clause-printed
returns-in-Err-clause-printed g c =
    let first = c.args.first.now in
    let second = c.args.second.now in
    begun_longer first second (g.W.Write.contents c.args.out.now) (g.W.Write.contents c.print_bytes.new.out) c.in-Err.ensures.printed
