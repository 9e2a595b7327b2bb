-- The promises of the definitions of a node: each call is a step of the protocol.
use Rattle.std.specs.Prelude.{◌≡◌, ℕ, ◌<◌, ◌≤◌, Some, None}
use Rattle.paxos_core_world.specs.KeptPart.{KeptPart}
use Rattle.paxos_core_world.specs.Quorum.{Sizes}
use Rattle.paxos_core_world.specs.World.{World}
use Rattle.paxos_core_world.specs.declared.msg.Msg.{Msg}
use Rattle.paxos_core_world.specs.declared.msg.Msg.TheVariants.{Prepare}
use Rattle.paxos_core_node_steps.specs.declared.step.Act.{Act}
use Rattle.paxos_core_node_steps.specs.declared.step.Act.TheVariants as act
use Rattle.paxos_core_node_steps.specs.Message.{reply, after_message}
use Rattle.paxos_core_node_steps.specs.NextBallot.{least_above, IsLeastAbove}
use Rattle.paxos_core_node_steps.specs.NodeState.{NodeState, offered, restarted}
use Rattle.paxos_core_node_steps.specs.Proposer.{next_ballot, started, proposal, after_proposal}
use Rattle.paxos_core_node_steps.specs.Taken.{taken_by_offer, taken_by_start, taken_by_propose, taken_by_restart, taken_on}
use Rattle.paxos_core_node_steps.specs.Takes.{Takes, TakesSteps, TakesStepsOn}
use Rattle.paxos_core_node_steps.specs.Would.{would, after_act, taken_by_act, IsDone}

-- the next ballot is the least own one
abbrev pub BallotsAreNext : Type 0
BallotsAreNext = (i n floor : ℕ) → i < n → IsLeastAbove i n floor (least_above i n floor)

-- offer
abbrev pub OffersAreSteps : Type 0
OffersAreSteps = (s : NodeState) → TakesSteps s (offered s) (taken_by_offer s) None

-- start, where a ballot is left
abbrev pub StartsAreSteps : Type 0
StartsAreSteps =
    (s : NodeState) → next_ballot s ≤ 65535 → TakesSteps s (started s) (taken_by_start s) (Some (Prepare (next_ballot s)))

-- propose
abbrev pub ProposalsAreSteps : Type 0
ProposalsAreSteps = (s : NodeState) → TakesSteps s (after_proposal s) (taken_by_propose s) (proposal s)

-- a message that was sent
abbrev pub MessagesAreSteps : Type 0
MessagesAreSteps = (s : NodeState) (m : Msg) → TakesStepsOn s m (after_message s m) (taken_on s m) (reply s m)

-- restart with what stands in the world
abbrev pub RestartsAreSteps : Type 0
RestartsAreSteps =
    (s : NodeState) (k : KeptPart) (q : Sizes) (w : World) → s.me < q.nodes → s.quorums ≡ q → w.nodes s.me ≡ k
    → Takes q w (taken_by_restart s) (restarted s k) None

-- what was told is what is done
abbrev pub WhatIsToldIsDone : Type 0
WhatIsToldIsDone = (s : NodeState) (a : Act) → IsDone s (after_act s a) (taken_by_act s a) (would s a)

-- after a call of propose nothing more is proposed
abbrev pub ProposalsAreOnce : Type 0
ProposalsAreOnce = (s : NodeState) → would (after_act s act.Propose) act.Propose ≡ None
