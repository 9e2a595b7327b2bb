-- What ties a call of a node to the protocol: in each world to which it belongs it takes steps that are allowed there,
-- belongs to the world after them, and its answer was sent in it.
use Rattle.std.specs.Prelude.{◌≡◌, ℕ, List, [], ◌∷◌, Option, IfSome}
use Rattle.paxos_core_world.specs.Ballot.{Owns}
use Rattle.paxos_core_world.specs.Quorum.{Sizes}
use Rattle.paxos_core_world.specs.Run.{IsRun, reached}
use Rattle.paxos_core_world.specs.Step.{Label, Offers, Starts, Promises, Proposes, Accepts, Learns, Restarts}
use Rattle.paxos_core_world.specs.World.{World, Has}
use Rattle.paxos_core_world.specs.declared.msg.Msg.{Msg}
use Rattle.paxos_core_node_steps.specs.Belongs.{Belongs}
use Rattle.paxos_core_node_steps.specs.NodeState.{NodeState}
use Rattle.paxos_core_node_steps.specs.Reached.{IsReached}

-- it is a step of node i, whose own the ballots are under which it proposes
abbrev pub IsStepOf : ℕ → ℕ → Label → Type 0
IsStepOf n i (Offers j) = j ≡ i
IsStepOf n i (Starts j b) = j ≡ i
IsStepOf n i (Promises a b) = a ≡ i
IsStepOf n i (Proposes b v) = Owns n i b
IsStepOf n i (Accepts a b v) = a ≡ i
IsStepOf n i (Learns j v) = j ≡ i
IsStepOf n i (Restarts j) = j ≡ i

-- they are steps of node i
abbrev pub AreStepsOf : ℕ → ℕ → List Label → Type 0
AreStepsOf n i [] = Unit {0}
AreStepsOf n i (l ∷ ls) = IsStepOf n i l × AreStepsOf n i ls

-- from world w the node takes these steps, is s after them, and gives this answer
pub record Takes (q : Sizes) (w : World) (labels : List Label) (s : NodeState) (answer : Option Msg) : Type 0 where
  pub run : IsRun q w labels
  pub own : AreStepsOf q.nodes s.me labels
  pub belongs : Belongs q (reached w labels) s
  pub sent : IfSome answer (λ m. Has m (reached w labels).sent)

-- a call that makes the node t of s takes these steps, in every world that can come about and to which s belongs
abbrev pub TakesSteps : NodeState → NodeState → List Label → Option Msg → Type 0
TakesSteps s t labels answer = (q : Sizes) (w : World) → IsReached q w → Belongs q w s → Takes q w labels t answer

-- the same for a call that is handed a message, which was sent
abbrev pub TakesStepsOn : NodeState → Msg → NodeState → List Label → Option Msg → Type 0
TakesStepsOn s m t labels answer =
    (q : Sizes) (w : World) → IsReached q w → Belongs q w s → Has m w.sent → Takes q w labels t answer
