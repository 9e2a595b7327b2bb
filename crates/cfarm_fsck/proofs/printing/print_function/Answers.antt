-- The name is that of the function.
use Rattle.std.proofs.Common.{ℕ, List, subst}
use Rattle.cfarm_fsck.specs.Printed.{Prints}
use Rattle.cfarm_fsck.specs.Telling.{four_lines}
use Rattle.cfarm_fsck.proofs.printing.print_function.Goals as goal

pub returns-clause-printed : goal.returns-clause-printed
returns-clause-printed g c =
    subst (λ (name : List ℕ). Prints g.W.Write.contents (four_lines c.args.accept c.args.kept.now name c.args.number) c.print_four.result c.args.out.now c.print_four.new.out)
    c.as_slice.ensures c.print_four.ensures.printed
