-- Why `parted` meets its clauses `last` and `third`.
use Rattle.std.proofs.Common.{arith}
use Rattle.farm_nodes_turn_node.specs.Asked.{MayBeAsked}
use Rattle.worked_farm.proofs.Thirds.{all_apart, third_last}
use Rattle.worked_farm.proofs.turning.parted.Goals as goal

pub returns-in-Some-clause-last : goal.returns-in-Some-clause-last
returns-in-Some-clause-last g c =
    (all_apart (MayBeAsked g.D.Disk) c.args.nodes.items c.pop.new.self.items c.in-Some.node
    c.in-Some.ensures.items c.requires.fit).1

pub returns-in-Some-clause-third : goal.returns-in-Some-clause-third
returns-in-Some-clause-third g c digest third =
    third_last (λ n. n.log) digest c.args.nodes.items c.pop.new.self.items c.in-Some.node c.in-Some.ensures.items
    (omega (arith, c.if-len-ne3.false, c.len.ensures, c.args.nodes.ok.0)) third
