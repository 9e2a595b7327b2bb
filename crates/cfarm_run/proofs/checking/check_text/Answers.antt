-- Why `check_text` meets its clause `printed`.
use Rattle.std.proofs.Common.{ap, subst, ◌∙◌}
use Rattle.cfarm_output.specs.Begun.{IsBegun}
use Rattle.cfarm_run.specs.Counts.{counts_line}
use Rattle.cfarm_run.proofs.checking.check_text.Goals as goal

-- The writer failed: it holds a beginning of the counts.
pub returns-clause-printed : goal.returns-clause-printed
returns-clause-printed g c =
    let a = c.in_ok-program.ensures.accepted in
    let same = c.as_bytes.ensures.value ∙ c.in-Ok.ensures ∙ ap counts_line a.2 in
    (a.0, a.1, subst (λ t. IsBegun t (g.W.Write.contents c.args.out.now) (g.W.Write.contents c.print_whole.new.out)) same c.in-Err.ensures.begun)
