-- Why `why` meets its contract.
use Rattle.std.proofs.Common.{◌≡◌, length, inl, inr, ◌∙◌, rules}
use Rattle.std.specs.Option.{option_map}
use Rattle.std.proofs.lemmas.Bool.{iff_false, cases_lt}
use Rattle.lang_base.specs.declared.fault.Fault.TheVariants.{Node}
use Rattle.linearize_check_proof.specs.Layout.{order_code}
use Rattle.linearize_check_proof.specs.Orders.{ListsNodes}
use Rattle.linearize_check.specs.Faults.{HasShape}
use Rattle.linearize_check.proofs.Verdicts.{tells-lowest, right-from_tests}
use Rattle.linearize_check.proofs.verdict.why.Goals as goal

pub returns : goal.returns
returns c =
    let input = c.args.input.now in
    let output = c.args.output.now in
    let order = c.args.order.now in
    let mapped : c.map.result ≡ option_map Node c.lesser.result = search rules in
    let nodes = c.as_slice-nodes.ensures in
    let blocks = c.as_slice-blocks.ensures ∙ c.blocks-2.ensures.blocks in
    let code = c.as_slice.ensures ∙ c.code.ensures.code in
    let lists : ListsNodes input order = rw nodes at (c.lists_nodes.ensures.0 c.if-not-lists_nodes.false) in
    let shape : HasShape input output order = record {
      lists = lists;
      frame = c.has_frame.ensures.0 c.if-not-has_frame.false;
      no_more = elim (cases_lt (length (order_code input.blocks order)) (length output.code)) [
        | inl more ↦ absurd (iff_false (rw (blocks, nodes, code) at c.in_ok-walk.ensures.longer) c.if-walk.false more)
        | inr no_more ↦ no_more
      ];
    } in
    let lowest = right-from_tests input output order c.in_ok-disordered.disordered c.in_ok-walk.walk.misplaced (rw (blocks, nodes) at c.in_ok-disordered.ensures) (rw (blocks, nodes, code) at c.in_ok-walk.ensures.misplaced) in
    rw (mapped, c.lesser.ensures) (tells-lowest input output order _ shape lowest)
