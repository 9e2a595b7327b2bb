-- What the journal of a seat's node may hold of its room.
use Rattle.std.specs.Prelude.{◌≡◌, ◌⊎◌}
use Rattle.paxos_core_world.specs.KeptPart.{KeptPart, with_offer}
use Rattle.paxos_core_node_steps.specs.Would.{kept_by_step}
use Rattle.paxos_core_crash.specs.Crash.{IsRecorded}
use Rattle.rooms_meeting.specs.SeatAct.{SeatAct}
use Rattle.rooms_meeting.specs.SeatState.{SeatState, seen_world}
use Rattle.rooms_meeting.specs.Would.{would, IsAmong}
use Rattle.rooms_crash.specs.OfRun.{StandsInRun}

-- what its node keeps; or that with the record of its offer, or of the step that it would take if it were asked this of a node of the room
abbrev pub MayHold : SeatState → KeptPart → Type 0
MayHold s k =
    (k ≡ s.node.kept) ⊎ (k ≡ with_offer s.node.kept)
    ⊎ ((a : SeatAct) × IsAmong s.node.quorums.nodes a × (k ≡ kept_by_step (would s a) s.node.kept))

-- ---- the promise

-- what its journal may hold is what its node may have recorded in the world that it has seen
abbrev pub HeldIsRecorded : Type 0
HeldIsRecorded =
    (s : SeatState) (k : KeptPart) → StandsInRun s → MayHold s k
    → IsRecorded s.view.opening.quorums (seen_world s) s.node.me k
