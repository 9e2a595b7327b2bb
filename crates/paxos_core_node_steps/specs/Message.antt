-- What a node does with a message: the answer, and the node after it.
use Rattle.std.specs.Prelude.{Option, None}
use Rattle.paxos_core_world.specs.KeptPart.{vote}
use Rattle.paxos_core_world.specs.declared.msg.Msg.{Msg}
use Rattle.paxos_core_world.specs.declared.msg.Msg.TheVariants.{Prepare, Promise, Propose, Accepted}
use Rattle.paxos_core_node_steps.specs.Acceptor.{promise_to, after_prepare, vote_for, after_propose}
use Rattle.paxos_core_node_steps.specs.Learner.{after_promise, after_vote}
use Rattle.paxos_core_node_steps.specs.NodeState.{NodeState}

-- the answer
abbrev pub reply : NodeState → Msg → Option Msg
reply s (Prepare b) = promise_to s b
reply s (Propose b v) = vote_for s (vote b v)
reply s (Promise a b report) = None
reply s (Accepted a b v) = None

-- the node after it
abbrev pub after_message : NodeState → Msg → NodeState
after_message s (Prepare b) = after_prepare s b
after_message s (Propose b v) = after_propose s (vote b v)
after_message s (Promise a b report) = after_promise s a b report
after_message s (Accepted a b v) = after_vote s a (vote b v)
