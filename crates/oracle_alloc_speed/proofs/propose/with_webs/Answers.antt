-- Why `with_webs` may call `with_assignment`.
use Rattle.std.proofs.Common.{length, sym, subst, ◌∙◌, All}
use Rattle.std.proofs.lemmas.List.Elements.{All-from_recursion}
use Rattle.rtl_language.specs.Function.{InstructionFits}
use Rattle.oracle_alloc_speed.proofs.propose.with_webs.Goals as goal

pub with_assignment-requires-clause-fit : goal.with_assignment-requires-clause-fit
with_assignment-requires-clause-fit c =
    let input = c.args.input.now in
    let P = InstructionFits input.registers (length input.nodes) in
    let whole = subst (All P) (sym (c.as_slice-nodes.ensures ∙ c.nodes.ensures.nodes)) (All-from_recursion P input.nodes c.nodes.ensures.in_range.each) in
    subst (All (InstructionFits 65536 (length input.nodes))) (sym c.deref-in-Some.ensures.value) (c.in_ok-by_webs.ensures.fit input.registers (length input.nodes) whole)
