-- Why `delivery_in` meets its contract.
use Rattle.std.proofs.Common.{refl, arith}
use Rattle.cfarm_sim_lines.proofs.Decimals.{first_is, second_is, has_blank}
use Rattle.cfarm_sim_lines.proofs.reading.delivery_in.Goals as goal

pub returns-in_err-node : goal.returns-in_err-node
returns-in_err-node c = λ i k below word e. absurd (has_blank i k c.args.words.now (omega arith) e (c.in_err-node.ensures.none refl))

pub returns-in_err-node_in : goal.returns-in_err-node_in
returns-in_err-node_in c = λ i k below word e.
    let node = c.in_err-node_in.ensures i below (first_is i k c.args.words.now c.in_ok-node.node.now (omega arith) e c.in_ok-node.ensures.first) in
    absurd (cc)

pub returns-in_err-number_in : goal.returns-in_err-number_in
returns-in_err-number_in c = λ i k below word e.
    let message = c.in_err-number_in.ensures k word (second_is i k c.args.words.now c.in_ok-node.node.now c.in_ok-node.message.now (omega arith) e c.in_ok-node.ensures.first c.in_ok-node.ensures.some) in
    absurd (cc)

pub returns : goal.returns
returns c = λ i k below word e.
    let node = c.in_ok-node_in.ensures i below (first_is i k c.args.words.now c.in_ok-node.node.now (omega arith) e c.in_ok-node.ensures.first) in
    let message = c.in_ok-number_in.ensures k word (second_is i k c.args.words.now c.in_ok-node.node.now c.in_ok-node.message.now (omega arith) e c.in_ok-node.ensures.first c.in_ok-node.ensures.some) in
    cc
