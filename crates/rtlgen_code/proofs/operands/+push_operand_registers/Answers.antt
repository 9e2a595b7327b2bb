-- Why `+push_operand_registers` may call `push_operand_registers`.
use Rattle.std.proofs.Common.{◌<◌, ◌+◌, length, map, subst, arith}
use Rattle.cminor_syntax.specs.Views.{expression_tree}
use Rattle.rtlgen_definition.specs.Gen.{operands_need}
use Rattle.rtlgen_code.proofs.Rests.{others, first_others, fewer}
use Rattle.rtlgen_code.proofs.operands.+push_operand_registers.Goals as goal

pub push_operand_registers-requires : goal.push_operand_registers-requires
push_operand_registers-requires t c =
    let all = c.args.arguments.now in
    let cut = first_others all c.first-item.result c.in-len1-up.len_at_least c.first-item.is in
    let space = subst (λ xs. c.args.temporary + operands_need (map expression_tree xs) < 65536) cut c.requires in
    let falls : length (others all) < t = omega (arith, fewer all c.in-len1-up.len_at_least, c.decreases) in
    (falls, omega (arith, space))
