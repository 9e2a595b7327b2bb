-- The calls that change a node: what each leaves, answers and takes of the protocol.
use Rattle.std.specs.Prelude.{nat_le, Bool, if◌then◌else◌, List, [], ◌∷◌, Option, Some, None}
use Rattle.paxos_core_world.specs.Step.{Label}
use Rattle.paxos_core_world.specs.declared.msg.Msg.{Msg}
use Rattle.paxos_core_world.specs.declared.msg.Msg.TheVariants.{Prepare}
use Rattle.paxos_core_late_offers.specs.Message.{reply, after_message}
use Rattle.paxos_core_late_offers.specs.NodeState.{NodeState, offered, restarted}
use Rattle.paxos_core_late_offers.specs.Proposer.{next_ballot, started, proposal, after_proposal}
use Rattle.paxos_core_late_offers.specs.Taken.{taken_by_offer, taken_by_start, taken_by_propose, taken_by_restart, taken_on}

-- a call of offer, start or propose, of on with a message, or of restart with what the node keeps
pub data Call : Type 0 where
  Offer : Call
  Start : Call
  Proposal : Call
  On : (message : Msg) → Call
  Restart : Call

-- a ballot is left for start
abbrev pub has_ballot : NodeState → Bool
has_ballot s = nat_le (next_ballot s) 65535

-- the node after the call
abbrev pub after_call : NodeState → Call → NodeState
after_call s Offer = offered s
after_call s Start = if has_ballot s then started s else s
after_call s Proposal = after_proposal s
after_call s (On message) = after_message s message
after_call s Restart = restarted s s.kept

-- the message that it answers, which is sent to all
abbrev pub answer_to : NodeState → Call → Option Msg
answer_to s Offer = None
answer_to s Start = if has_ballot s then Some (Prepare (next_ballot s)) else None
answer_to s Proposal = proposal s
answer_to s (On message) = reply s message
answer_to s Restart = None

-- the steps of the protocol that it takes
abbrev pub taken_by : NodeState → Call → List Label
taken_by s Offer = taken_by_offer s
taken_by s Start = if has_ballot s then taken_by_start s else []
taken_by s Proposal = taken_by_propose s
taken_by s (On message) = taken_on s message
taken_by s Restart = taken_by_restart s

-- the node after several calls, the newest first
abbrev pub after_calls : NodeState → List Call → NodeState
after_calls s [] = s
after_calls s (c ∷ cs) = after_call (after_calls s cs) c
