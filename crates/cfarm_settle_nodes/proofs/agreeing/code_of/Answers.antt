-- Why `code_of` meets its contract.
use Rattle.cfarm_settle_nodes.proofs.Three.{code_of_node}
use Rattle.cfarm_settle_nodes.proofs.agreeing.code_of.Goals as goal

pub returns-in-0 : goal.returns-in-0
returns-in-0 g c = code_of_node g.P.In.Language g.P.Out.Language g.P.Pass (λ v. v.items) c.args.node 0 c.args.first.now c.args.second.now c.args.third.now c.own_code.result c.in-0.is c.own_code.ensures

pub returns-in-1 : goal.returns-in-1
returns-in-1 g c = code_of_node g.P.In.Language g.P.Out.Language g.P.Pass (λ v. v.items) c.args.node 1 c.args.first.now c.args.second.now c.args.third.now c.own_code-in-1.result c.in-1.is c.own_code-in-1.ensures

pub returns-in-2 : goal.returns-in-2
returns-in-2 g c = code_of_node g.P.In.Language g.P.Out.Language g.P.Pass (λ v. v.items) c.args.node 2 c.args.first.now c.args.second.now c.args.third.now c.own_code-in-2.result c.in-2.is c.own_code-in-2.ensures
