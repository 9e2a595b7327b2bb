-- Why `branching` meets its contract.
use Rattle.oracle_graphs.proofs.blocks.branching.Goals as goal

pub returns : goal.returns
returns c = λ registers nodes test taken other.
    let asked = c.operands-asked.ensures registers _ test in
    let before = c.in_ok-before.ensures _ asked.first asked.second in
    record { before = before; body = (asked.arguments, taken, other) }
