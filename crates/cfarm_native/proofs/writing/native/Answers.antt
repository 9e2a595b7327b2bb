-- Why `native` meets its clause `printed`.
use Rattle.std.proofs.Common.{List, ℕ, subst, ◌∙◌}
use Rattle.cfarm_output.specs.Begun.{IsBegun}
use Rattle.cfarm_native.proofs.writing.native.Goals as goal

pub returns-in-Ok-clause-printed : goal.returns-in-Ok-clause-printed
returns-in-Ok-clause-printed g c =
    let made = c.in-Ok.ensures.made in
    let before = g.W.Write.contents c.args.out.now in
    let after = g.W.Write.contents c.print_whole.new.out in
    (made.0, made.1, subst (λ (text : List ℕ). IsBegun text before after) (c.deref.ensures.value ∙ made.2) c.in-Err-print_whole.ensures.begun)
