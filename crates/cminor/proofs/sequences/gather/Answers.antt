use Rattle.std.proofs.Common.{◌≡◌, true, false, List, sym, ap, subst, ◌∙◌}
use Rattle.std.specs.Prelude.{IfOk, nat_le}
use Rattle.cminor_syntax.specs.declared.statement.Statement.{Statement}
use Rattle.cminor_syntax.specs.Fits.{statement_count}
use Rattle.cminor_syntax.specs.Views.{statements_tree}
use Rattle.cminor_lowering.specs.Sequences.{most_statements}
use Rattle.cminor.proofs.Cutting.{gathered_few, gathered_many}
use Rattle.cminor.proofs.sequences.gather.Goals as goal

pub returns-then-are_few : goal.returns-then-are_few
returns-then-are_few c =
    let ss = c.args.statements.items in
    let test = ap (λ (xs : List Statement). nat_le (statement_count (statements_tree xs)) most_statements) (sym c.as_slice.ensures.value) ∙ sym c.are_few.ensures in
    sym (gathered_few (statements_tree ss) (test ∙ c.if-are_few.true))

pub returns : goal.returns
returns c =
    let ss = c.args.statements.items in
    let test = ap (λ (xs : List Statement). nat_le (statement_count (statements_tree xs)) most_statements) (sym c.as_slice.ensures.value) ∙ sym c.are_few.ensures in
    subst (λ t. IfOk c.cut.result (λ made. statements_tree made.items ≡ t)) (sym (gathered_many (statements_tree ss) (test ∙ c.if-are_few.false))) c.cut.ensures
