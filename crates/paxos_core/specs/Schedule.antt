-- Schedules: calls of a room's nodes in any order. A message that was sent may be handed to any node at any time, again
-- and again, or never: that is delay, repetition, reordering and loss.
use Rattle.std.specs.Prelude.{◌≡◌, ℕ, ◌<◌, ◌==◌, if◌then◌else◌, List, [], ◌∷◌, ◌++◌, Some}
use Rattle.std.specs.Option.{option_to_list}
use Rattle.paxos_core_world.specs.KeptPart.{KeptPart}
use Rattle.paxos_core_world.specs.Quorum.{Sizes, AreQuorums}
use Rattle.paxos_core_world.specs.Run.{IsRun, reached}
use Rattle.paxos_core_world.specs.Settled.{Settled}
use Rattle.paxos_core_world.specs.Step.{Label}
use Rattle.paxos_core_world.specs.World.{Has, shown, opening}
use Rattle.paxos_core_world.specs.declared.msg.Msg.{Msg}
use Rattle.paxos_core_late_offers.specs.Belongs.{Belongs}
use Rattle.paxos_core.specs.Call.{Call, Offer, Start, Proposal, On, Restart, after_call, answer_to, taken_by}
use Rattle.paxos_core_late_offers.specs.NodeState.{NodeState, node_with}

-- a room's nodes, and all messages that were sent
pub record Room : Type 0 where
  pub nodes : ℕ → NodeState
  pub sent : List Msg

-- the room as it is opened with these quorums and kept parts
abbrev pub opened : Sizes → (ℕ → KeptPart) → Room
opened q kept = record { nodes = λ i. node_with i q (kept i); sent = shown q.nodes kept }

-- the call of a node
pub record NodeCall : Type 0 where
  pub node : ℕ
  pub call : Call

-- the nodes with another one at i
abbrev pub put_node : (ℕ → NodeState) → ℕ → NodeState → ℕ → NodeState
put_node nodes i s j = if j == i then s else nodes j

-- the room after a call, whose answer is sent
abbrev pub room_after : Room → NodeCall → Room
room_after room c =
    record {
      nodes = put_node room.nodes c.node (after_call (room.nodes c.node) c.call);
      sent = option_to_list (answer_to (room.nodes c.node) c.call) ++ room.sent;
    }

-- the room after a schedule, whose newest call stands first
abbrev pub played : Room → List NodeCall → Room
played room [] = room
played room (c ∷ cs) = room_after (played room cs) c

-- what is handed to the node was sent
abbrev pub WasSent : List Msg → Call → Type 0
WasSent sent Offer = Unit {0}
WasSent sent Start = Unit {0}
WasSent sent Proposal = Unit {0}
WasSent sent (On message) = Has message sent
WasSent sent Restart = Unit {0}

-- the calls are a schedule of n nodes: each message that is handed over was sent before
abbrev pub IsSchedule : ℕ → Room → List NodeCall → Type 0
IsSchedule n room [] = Unit {0}
IsSchedule n room (c ∷ cs) = IsSchedule n room cs × (c.node < n) × WasSent (played room cs).sent c.call

-- the steps of the protocol that a schedule takes, the newest first
abbrev pub steps_of : Room → List NodeCall → List Label
steps_of room [] = []
steps_of room (c ∷ cs) = taken_by ((played room cs).nodes c.node) c.call ++ steps_of room cs

-- the schedule is a run of the protocol: each node, still of its number, belongs to the world to which its steps lead,
-- in which the same messages were sent
pub record IsPlayed (q : Sizes) (kept : ℕ → KeptPart) (calls : List NodeCall) : Type 0 where
  pub run : IsRun q (opening q.nodes kept) (steps_of (opened q kept) calls)
  pub number : (i : ℕ) → i < q.nodes → ((played (opened q kept) calls).nodes i).me ≡ i
  pub nodes : (i : ℕ) → i < q.nodes → Belongs q (reached (opening q.nodes kept) (steps_of (opened q kept) calls)) ((played (opened q kept) calls).nodes i)
  pub sent : (played (opened q kept) calls).sent ≡ (reached (opening q.nodes kept) (steps_of (opened q kept) calls)).sent

-- two values that nodes have learned after a schedule are equal
abbrev pub AllLearnOne : ℕ → Room → Type 0
AllLearnOne n room = (i j v u : ℕ) → i < n → j < n → (room.nodes i).learned ≡ Some v → (room.nodes j).learned ≡ Some u → v ≡ u

-- ---- the promises

-- every schedule from settled kept parts is a run of the protocol
abbrev pub SchedulesAreRuns : Type 0
SchedulesAreRuns =
    (q : Sizes) (kept : ℕ → KeptPart) (calls : List NodeCall) → AreQuorums q → Settled q kept → IsSchedule q.nodes (opened q kept) calls → IsPlayed q kept calls

-- in every schedule from settled kept parts all nodes that learn a value learn the same
abbrev pub SchedulesLearnOne : Type 0
SchedulesLearnOne =
    (q : Sizes) (kept : ℕ → KeptPart) (calls : List NodeCall) → AreQuorums q → Settled q kept → IsSchedule q.nodes (opened q kept) calls
    → AllLearnOne q.nodes (played (opened q kept) calls)
