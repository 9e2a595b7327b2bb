-- Why `blocks_of` meets its clause `fit`.
use Rattle.std.proofs.Common.{length, sym, subst, ◌∙◌, All}
use Rattle.std.proofs.lemmas.List.Elements.{All-from_recursion}
use Rattle.rtl_language.specs.Function.{InstructionFits}
use Rattle.oracle_graphs.proofs.blocks.blocks_of.Goals as goal

pub returns-clause-fit : goal.returns-clause-fit
returns-clause-fit c =
    let input = c.args.input.now in
    let P = InstructionFits input.registers (length input.nodes) in
    c.blocks_for.ensures.fit input.registers (length input.nodes)
    (subst (All P) (sym (c.as_slice.ensures ∙ c.nodes.ensures.nodes)) (All-from_recursion P input.nodes c.nodes.ensures.in_range.each))
