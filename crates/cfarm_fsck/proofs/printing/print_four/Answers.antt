-- The first two lines were printed, or begun.
use Rattle.cfarm_fsck.specs.Telling.{two_lines}
use Rattle.cfarm_fsck.proofs.Begun.{begun_longer, prints_behind}
use Rattle.cfarm_fsck.proofs.printing.print_four.Goals as goal

pub returns-in-Ok-clause-printed : goal.returns-in-Ok-clause-printed
returns-in-Ok-clause-printed g c =
    let first = two_lines c.args.accept c.args.kept.now c.args.name.now c.args.function 0 in
    let second = two_lines c.args.accept c.args.kept.now c.args.name.now c.args.function 2 in
    prints_behind g.W.Write.contents first second c.print_two-in-Ok.result c.args.out.now c.print_two.new.out c.print_two-in-Ok.new.out c.in-Ok.ensures.printed c.print_two-in-Ok.ensures.printed

pub returns-in-Err-clause-printed : goal.returns-in-Err-clause-printed
returns-in-Err-clause-printed g c =
    let first = two_lines c.args.accept c.args.kept.now c.args.name.now c.args.function 0 in
    let second = two_lines c.args.accept c.args.kept.now c.args.name.now c.args.function 2 in
    begun_longer first second (g.W.Write.contents c.args.out.now) (g.W.Write.contents c.print_two.new.out) c.in-Err.ensures.printed
