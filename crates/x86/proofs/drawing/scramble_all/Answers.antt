use Rattle.std.proofs.Common.{ap, ◌∙◌}
use Rattle.x86_syntax.specs.declared.register.Register.TheVariants.{Edx, Esi, Edi}
use Rattle.x86.specs.Printing.{scrambled}
use Rattle.x86.proofs.drawing.scramble_all.Goals as goal

pub returns-clause-state : goal.returns-clause-state
returns-clause-state c =
    c.scramble-4.ensures.state ∙ ap (scrambled Edi) (c.scramble-3.ensures.state ∙ ap (scrambled Esi) (c.scramble-2.ensures.state ∙ ap (scrambled Edx) c.scramble.ensures.state))
