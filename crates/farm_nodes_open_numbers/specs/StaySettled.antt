-- What a run of a room's nodes leaves can be opened again.
use Rattle.std.specs.Prelude.{List}
use Rattle.paxos_core_world.specs.KeptPart.{KeptPart}
use Rattle.paxos_core_world.specs.Quorum.{Sizes}
use Rattle.paxos_core_world.specs.Settled.{Settled}
use Rattle.paxos_core_world.specs.World.{nodes_of}
use Rattle.farm_nodes_open_numbers.specs.Left.{AreLeft}

abbrev pub LeftIsSettled : Type 0
LeftIsSettled = (q : Sizes) (parts : List KeptPart) → AreLeft q parts → Settled q (nodes_of parts)
