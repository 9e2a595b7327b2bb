-- What a command hands over, and whether anything came of it.
use Rattle.std.specs.Prelude.{ℕ, Bool, true, List, Option, Some, None}
use Rattle.paxos_core_world.specs.declared.msg.Msg.{Msg}
use Rattle.paxos_core_node_steps.specs.NodeState.{NodeState}
use Rattle.cfarm_sim.specs.Noted.{has_noted}
use Rattle.cfarm_sim.specs.Plays.{numbered}
use Rattle.cfarm_sim_lines.specs.declared.command.Command.{Command}
use Rattle.cfarm_sim_lines.specs.declared.command.Command.TheVariants.{Offer, Start, Propose, Restart, Deliver}

-- the node that a command is about
abbrev pub node_of : Command → ℕ
node_of (Offer i) = i
node_of (Start i) = i
node_of (Propose i) = i
node_of (Restart i) = i
node_of (Deliver i k) = i

-- the message, of those sent, of which the newest stands first
abbrev pub handed : List Msg → Command → Option Msg
handed sent (Offer i) = None
handed sent (Start i) = None
handed sent (Propose i) = None
handed sent (Restart i) = None
handed sent (Deliver i k) = numbered sent k

-- the node, as it is behind the call, has noted it
abbrev pub has_come : NodeState → Option Msg → Bool
has_come s None = true
has_come s (Some m) = has_noted s m
