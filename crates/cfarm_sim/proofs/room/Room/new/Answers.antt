-- Why `new` meets its clause `start`.
use Rattle.std.proofs.Common.{◌≡◌, List, sym, subst}
use Rattle.paxos_core_world.specs.declared.msg.Msg.{Msg}
use Rattle.cfarm_sim.specs.Rooms.{room_of, start}
use Rattle.cfarm_sim.proofs.Fresh.{is_start}
use Rattle.cfarm_sim.proofs.room.Room.new.Goals as goal

pub returns-clause-start : goal.returns-clause-start
returns-clause-start c =
    let q = c.args.quorums in
    let nodes = c.loop-me.nodes.items in
    subst (λ (sent : List Msg). room_of (record { quorums = q; nodes = nodes; sent = sent }) ≡ start q) (sym c.new-2.ensures.items)
    (is_start q nodes c.loop-me.invariant.new)
