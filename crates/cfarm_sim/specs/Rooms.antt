-- A room as the program holds it: lists of its nodes and of the messages that they sent; and as the protocol has it.
use Rattle.std.specs.Prelude.{ℕ, ◌+◌, if◌then◌else◌, List, ◌++◌, Option, Some, None, length, reverse, slice_set, slice_index_or}
use Rattle.std.specs.Option.{option_to_list}
use Rattle.paxos_core_world.specs.Quorum.{Sizes}
use Rattle.paxos_core_world.specs.World.{no_nodes}
use Rattle.paxos_core_world.specs.declared.msg.Msg.{Msg}
use Rattle.paxos_core_node_steps.specs.NodeState.{NodeState, new_node}
use Rattle.paxos_core.specs.Call.{Call, Offer, Start, Proposal, On, Restart, after_call, answer_to}
use Rattle.paxos_core.specs.Schedule.{Room, NodeCall, opened}
use Rattle.cfarm_sim.specs.declared.told.Told.{Told}
use Rattle.cfarm_sim.specs.declared.told.Told.TheVariants as told

-- the quorums, the nodes by their numbers, and the messages that were sent, the oldest first
pub record Listed : Type 0 where
  pub quorums : Sizes
  pub nodes : List NodeState
  pub sent : List Msg

abbrev pub node_at : Listed → ℕ → NodeState
node_at r i = slice_index_or r.nodes i (new_node i r.quorums)

-- the room of the protocol
abbrev pub room_of : Listed → Room
room_of r = record { nodes = λ i. node_at r i; sent = reverse r.sent }

-- a room with quorums of these sizes of whose nodes none has done anything
abbrev pub start : Sizes → Room
start q = opened q no_nodes

-- the room after a call of node i, whose answer is sent last
abbrev pub after_call_of : Listed → ℕ → Call → Listed
after_call_of r i c = record {
  quorums = r.quorums;
  nodes = slice_set r.nodes i (after_call (node_at r i) c);
  sent = r.sent ++ option_to_list (answer_to (node_at r i) c);
}

-- what is learned where nothing was known before
abbrev pub learning : Option ℕ → Option ℕ → Told
learning None (Some v) = told.Learned v
learning None None = told.Nothing
learning (Some u) after = told.Nothing

-- what is told of a call that sends nothing
abbrev pub quiet : NodeState → Call → Told
quiet s Offer = if s.kept.offered then told.Nothing else told.Offered
quiet s Start = told.Refused
quiet s Proposal = told.Nothing
quiet s (On m) = learning s.learned (after_call s (On m)).learned
quiet s Restart = told.Restarted

-- what is told of a call of node i before which so many messages were sent
abbrev pub told_of : ℕ → ℕ → NodeState → Call → Option Msg → Told
told_of sent i s c (Some m) = told.Sent (sent + 1) i m
told_of sent i s c None = quiet s c

abbrev pub told_by : Room → NodeCall → Told
told_by room c = told_of (length room.sent) c.node (room.nodes c.node) c.call (answer_to (room.nodes c.node) c.call)

-- what is told of a call of node i
abbrev pub told_at : Listed → ℕ → Call → Told
told_at r i c = told_of (length r.sent) i (node_at r i) c (answer_to (node_at r i) c)
