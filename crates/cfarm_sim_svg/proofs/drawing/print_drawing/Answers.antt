-- Why `print_drawing` meets its clauses `drawn` and `undrawn`.
use Rattle.std.proofs.Common.{◌∙◌}
use Rattle.cfarm_sim_svg.proofs.Ending.{drawn_of, partly_of}
use Rattle.cfarm_sim_svg.proofs.drawing.print_drawing.Goals as goal

pub returns-in-Ok-print_whole-clause-drawn : goal.returns-in-Ok-print_whole-clause-drawn
returns-in-Ok-print_whole-clause-drawn g c =
    drawn_of c.args.schedule.now c.args.played.now c.as_bytes.result.now (g.W.Write.contents c.args.out.now) (g.W.Write.contents c.print_whole.new.out)
    c.requires (c.as_bytes.ensures.value ∙ c.in-Ok.ensures) c.in-Ok-print_whole.ensures.printed

pub returns-clause-undrawn : goal.returns-clause-undrawn
returns-clause-undrawn g c =
    partly_of c.args.schedule.now c.args.played.now c.as_bytes.result.now (g.W.Write.contents c.args.out.now) (g.W.Write.contents c.print_whole.new.out)
    c.requires (c.as_bytes.ensures.value ∙ c.in-Ok.ensures) c.in-Err.ensures.begun
