-- One node further that did not fail.
use Rattle.std.proofs.Common.{sym, ◌∙◌, arith}
use native.Mathlib.Numerals.{unary_clauses}
use Rattle.farm_nodes_turn_node.specs.Held.{fault_in}
use Rattle.cfarm_build_turns.proofs.Lowest.{none_here, none_left, one_here}
use Rattle.cfarm_build_turns.proofs.failing.first_failed.Goals as goal

pub returns-in-Some : goal.returns-in-Some
returns-in-Some g c =
    let x = c.index-nodes-number.result in
    sym (c.loop-number.invariant ∙ one_here (λ n. fault_in n.halted) c.args.nodes.now c.loop-number.number x c.loop-number.number c.in-Some.fault.now
    c.loop-number-test.true c.index-nodes-number.is (sym c.in-Some.ensures))

pub loop-number-preserved : goal.loop-number-preserved
loop-number-preserved g c =
    let x = c.index-nodes-number.result in
    let next = none_here (λ n. fault_in n.halted) c.args.nodes.now c.loop-number.number x c.loop-number.number
    c.loop-number-test.true c.index-nodes-number.is (sym c.in-None.ensures) in
    simp unary_clauses (c.loop-number.invariant ∙ next)

pub returns : goal.returns
returns g c =
    sym (c.loop-number.invariant ∙ none_left (λ n. fault_in n.halted) c.args.nodes.now c.loop-number.number c.loop-number.number (omega (arith, c.loop-number-test.false)))
