-- Why `+add_operands` meets its contract, and it may call `add_operands`.
use Rattle.std.proofs.Common.{◌<◌, ◌+◌, length, map, sym, subst, add-one, arith}
use Rattle.std.specs.Prelude.{IfOk}
use Rattle.cminor_syntax.specs.Views.{expression_tree}
use Rattle.rtlgen_definition.specs.Gen.{operands, operands_need}
use Rattle.rtlgen_code.specs.Adding.{Adds}
use Rattle.rtlgen_code.proofs.Arms.{operands_added}
use Rattle.rtlgen_code.proofs.Rests.{others, first_others, fewer}
use Rattle.rtlgen_code.proofs.operands.+add_operands.Goals as goal

pub add_operands-requires : goal.add_operands-requires
add_operands-requires t c =
    let all = c.args.arguments.now in
    let cut = first_others all c.first-item.result c.in-len1-up.len_at_least c.first-item.is in
    let space = subst (λ xs. c.args.temporary + operands_need (map expression_tree xs) < 65536) cut c.requires in
    let falls : length (others all) < t = omega (arith, fewer all c.in-len1-up.len_at_least, c.decreases) in
    (falls, omega (arith, space))

pub returns-in_ok-behind-in-len1-up : goal.returns-in_ok-behind-in-len1-up
returns-in_ok-behind-in-len1-up t c =
    let all = c.args.arguments.now in
    let cut = first_others all c.first-item.result c.in-len1-up.len_at_least c.first-item.is in
    let r = c.add_operand.result in
    let behind = subst (λ n. Adds (operands (map expression_tree (others all)) n) c.args.next c.args.graph.now c.add_operands.new.graph c.in_ok-behind-in-len1-up.behind) (add-one c.args.temporary) c.in_ok-behind-in-len1-up.ensures in
    subst (λ xs. IfOk r (λ e. Adds (operands (map expression_tree xs) c.args.temporary) c.args.next c.args.graph.now c.add_operand.new.graph e)) (sym cut)
    (operands_added c.args.temporary c.add_operand.new.graph (expression_tree c.first-item.result) (map expression_tree (others all)) r behind c.add_operand.ensures)
