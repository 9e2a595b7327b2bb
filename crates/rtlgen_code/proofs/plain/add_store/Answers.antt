-- Why `add_store` meets its contract.
use Rattle.std.proofs.Common.{ap, subst, add-one, ◌∙◌}
use Rattle.cminor_syntax.specs.Views.{expression_tree}
use Rattle.rtlgen_definition.specs.Gen.{operand, operand_register}
use Rattle.rtlgen_code.specs.Adding.{Adds}
use Rattle.rtlgen_code.proofs.StatementArms.{store_added}
use Rattle.rtlgen_code.proofs.plain.add_store.Goals as goal

pub returns : goal.returns
returns c =
    let n = c.args.temporary in
    let i = expression_tree c.args.index.now in
    let e = expression_tree c.args.word.now in
    let second = subst (λ m. Adds (operand e m) c.in_ok-last.last c.add_act.new.graph c.add_operand.new.graph c.in_ok-second.second) (add-one n) c.in_ok-second.ensures in
    store_added n c.add_operand-2.new.graph c.args.global i e c.add_operand-2.result c.operand_register.ensures (c.operand_register-2.ensures ∙ ap (operand_register e) (add-one n)) c.in_ok-last.ensures second c.add_operand-2.ensures
