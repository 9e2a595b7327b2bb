-- Why `add_return` meets its contract.
use Rattle.std.proofs.Common.{[], sym, subst}
use Rattle.std.specs.Prelude.{IfOk}
use Rattle.cminor_syntax.specs.Trees as T
use Rattle.cminor_syntax.specs.Views.{expression_tree, optional_tree}
use Rattle.rtlgen_definition.specs.Gen.{statement}
use Rattle.rtlgen_code.specs.Adding.{Adds}
use Rattle.rtlgen_code.proofs.StatementArms.{return_added}
use Rattle.rtlgen_code.proofs.plain.add_return.Goals as goal

pub returns-in_ok-last-in-Some : goal.returns-in_ok-last-in-Some
returns-in_ok-last-in-Some c =
    subst (λ v. IfOk c.add_operand.result (λ e. Adds (statement (T.Return (optional_tree expression_tree v)) c.args.temporary []) c.args.next c.args.graph.now c.add_operand.new.graph e)) (sym c.in-Some.is)
    (return_added c.args.temporary c.args.next c.add_operand.new.graph (expression_tree c.in-Some.value) c.add_operand.result c.operand_register.ensures c.in_ok-last-in-Some.ensures c.add_operand.ensures)
