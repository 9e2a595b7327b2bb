-- A beginning of the answer.
use Rattle.std.proofs.Common.{subst, ◌∙◌}
use Rattle.cfarm_output.specs.Begun.{IsBegun}
use Rattle.cfarm_judge.proofs.whole.judge.Goals as goal

pub returns-clause-printed : goal.returns-clause-printed
returns-clause-printed g c =
    let line = c.as_bytes.ensures.value ∙ c.in-Ok-line_of.ensures in
    let begun = subst (λ l. IsBegun l (g.W.Write.contents c.args.out.now) (g.W.Write.contents c.print_whole.new.out)) line c.in-Err-print_whole.ensures.begun in
    (c.in-Ok.pass, c.in-Ok.ensures.judged, begun)
