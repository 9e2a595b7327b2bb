-- So few statements that one sequence holds them.
use Rattle.std.proofs.Common.{◌≡◌, true, List, length, ap, ◌∙◌, sym}
use Rattle.std.specs.Prelude.{nat_le}
use Rattle.cminor_syntax.specs.declared.statement.Statement.{Statement}
use Rattle.cminor_syntax.specs.Fits.{statement_count}
use Rattle.cminor_syntax.specs.Trees.{StatementsTree, Sequence}
use Rattle.cminor_syntax.specs.Views.{statements_tree}
use Rattle.cminor_lowering.specs.Sequences.{gathered, most_statements, sequence}
use Rattle.cminor.proofs.Cutting as cutting

pub counted : (ss : List Statement) → statement_count (statements_tree ss) ≡ length ss
counted ss = cutting.counted ss

-- they are one sequence as they are
pub few_are : (ss : StatementsTree) → nat_le (statement_count ss) most_statements ≡ true → Sequence ss ≡ sequence ss
few_are ss few =
    let once : gathered ss ≡ ss = cutting.gathered_few ss few in
    ap (λ l. Sequence l) (sym (ap (λ l. gathered l) once ∙ once))
