-- To note a promise or a vote in place is a step of the protocol as `on` takes it.
use Rattle.std.specs.Prelude.{None}
use Rattle.paxos_core_world.specs.declared.msg.Msg.{Msg}
use Rattle.paxos_core_late_offers.specs.NodeState.{NodeState}
use Rattle.paxos_core_late_offers.specs.Taken.{taken_on}
use Rattle.paxos_core_late_offers.specs.Takes.{TakesStepsOn}

-- the call that makes the node t of s takes the steps that s takes on the message, and answers nothing
abbrev pub TakesItsSteps : NodeState → Msg → NodeState → Type 0
TakesItsSteps s message t = TakesStepsOn s message t (taken_on s message) None
