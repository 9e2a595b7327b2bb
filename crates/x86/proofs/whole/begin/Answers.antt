use Rattle.std.proofs.Common.{ap, ◌∙◌}
use Rattle.x86_syntax.specs.declared.register.Register.TheVariants.{Eax}
use Rattle.x86.specs.Printing.{scrambled, all_scrambled}
use Rattle.x86.proofs.whole.begin.Goals as goal

pub returns : goal.returns
returns c =
    c.scramble_all.ensures.state ∙ ap all_scrambled (c.scramble.ensures.state ∙ ap (scrambled Eax) (c.in_ok-run.ensures c.args.junk.now))
