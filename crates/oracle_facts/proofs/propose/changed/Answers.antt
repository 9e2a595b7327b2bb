-- Why the loop of `changed` over `n` keeps the invariant.
use Rattle.std.proofs.Common.{◌≡◌, length, sym, subst, ◌∙◌, arith}
use Rattle.std.proofs.lemmas.List.{length_push}
use Rattle.std.proofs.lemmas.List.Elements.{All-push}
use Rattle.rtl_language.specs.Function.{InstructionFits}
use Rattle.oracle_facts.proofs.Fitting.{node_fits}
use Rattle.oracle_facts.proofs.propose.changed.Goals as goal

pub loop-n-preserved : goal.loop-n-preserved
loop-n-preserved g c =
    let input = c.args.input.now in
    let fits = node_fits input c.nodes.ensures.in_range c.as_slice-instruction-items.result.now (c.as_slice-instruction-items.ensures ∙ c.nodes.ensures.nodes) c.loop-n.n c.instruction-item.result c.loop-n-test.true c.instruction-item.is in
    let registers : c.registers-registers.result ≡ input.registers = c.registers-registers.ensures in
    let chosen = subst (λ r. InstructionFits r (length input.nodes) c.in_ok-chosen.field-0) registers (c.in_ok-chosen.ensures (length input.nodes) (subst (λ r. InstructionFits r (length input.nodes) c.instruction-item.result) (sym registers) fits)) in
    rw c.in_ok-push.ensures.items (record {
      count = omega (arith, length_push c.loop-n.made.items c.in_ok-chosen.field-0, c.loop-n.invariant.count);
      fit = All-push (InstructionFits input.registers (length input.nodes)) c.loop-n.made.items c.in_ok-chosen.field-0 c.loop-n.invariant.fit chosen;
    })
