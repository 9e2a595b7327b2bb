-- The world and the step that the program's lists and label stand for.
use Rattle.paxos_core_world.specs.Step.{Label, Offers, Starts, Promises, Proposes, Accepts, Learns, Restarts}
use Rattle.paxos_core_world.specs.World.{World, nodes_of}
use Rattle.paxos_reference.specs.declared.label.Label.{Label as Told}
use Rattle.paxos_reference.specs.declared.label.Label.TheVariants as told
use Rattle.paxos_reference.specs.declared.world.World.{World as Listed}

-- the world with these kept parts by node, and these messages, begun ballots and learned pairs, the newest first
abbrev pub world_of : Listed → World
world_of w =
    record {
      nodes = nodes_of w.nodes.items;
      sent = w.sent.items;
      begun = w.begun.items;
      learned = w.learned.items;
    }

-- the step
abbrev pub label_of : Told → Label
label_of (told.Offers i) = Offers i
label_of (told.Starts i b) = Starts i b
label_of (told.Promises a b) = Promises a b
label_of (told.Proposes b v) = Proposes b v
label_of (told.Accepts a b v) = Accepts a b v
label_of (told.Learns i v) = Learns i v
label_of (told.Restarts i) = Restarts i
