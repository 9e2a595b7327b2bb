-- Why the loop of `print_all` begins and ends.
use Rattle.cfarm_output.proofs.Pieces.{no_more, some_more}
use Rattle.cfarm_output.proofs.printing.print_all.Goals as goal

pub loop-preserved : goal.loop-preserved
loop-preserved g c =
    let bytes = c.args.bytes.now in
    let before = c.loop.invariant in (
      no_more c.loop.done c.in-Ok.count bytes before.0 c.in-Ok.ensures.within,
      some_more c.loop.done c.in-Ok.count bytes (g.W.Write.contents c.args.out.now) (g.W.Write.contents c.loop.out) (g.W.Write.contents c.print_some.new.out) before.1 c.in-Ok.ensures.printed,
    )
