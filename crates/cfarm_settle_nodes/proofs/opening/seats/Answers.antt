-- Why `seats` meets its clause `nothing`.
use Rattle.std.proofs.Common.{ap}
use Rattle.paxos_core_world.specs.Quorum.{Sizes}
use Rattle.cfarm_settle_nodes.proofs.Openings.{three_unmade}
use Rattle.cfarm_settle_nodes.proofs.opening.seats.Goals as goal

pub returns-clause-nothing : goal.returns-clause-nothing
returns-clause-nothing g c f =
    three_unmade f c.three-quorums.result _ c.in_ok-offers.offers.items c.in-Ok.seats.items c.pop-third.new.self.items c.pop-second.new.self.items c.pop-first.new.self.items
    c.pop-first.result c.pop-second.result c.pop-third.result c.unwrap.result c.unwrap-2.result c.unwrap-3.result (ap (λ (q : Sizes). q.nodes) c.three-quorums.ensures) c.in_ok-offers.ensures c.in-Ok.ensures.ok
    c.pop-third.ensures.items c.pop-second.ensures.items c.pop-first.ensures.items c.unwrap.ensures c.unwrap-2.ensures c.unwrap-3.ensures
