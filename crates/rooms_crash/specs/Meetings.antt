-- Meetings of the seats of a room, one after another, with nothing between them but meetings.
use Rattle.std.specs.Prelude.{◌≡◌, ◌≢◌, ℕ, ◌<◌, ◌⊎◌, List, [], ◌∷◌}
use Rattle.paxos_core_world.specs.Quorum.{Sizes}
use Rattle.paxos_core_world.specs.World.{Has}
use Rattle.rooms_meeting.specs.SeatState.{SeatState}
use Rattle.rooms_meeting.specs.Met.{HaveMet}
use Rattle.rooms_crash.specs.OfRun.{StandsInRun}
use Rattle.rooms_crash.specs.Rest.{AreAtRest}

-- the seats of these two nodes meet, and the others are as they were
pub record Meets (i j : ℕ) (old new : ℕ → SeatState) : Type 0 where
  pub two : i ≢ j
  pub met : HaveMet (old i) (old j) (new i) (new j)
  pub others : (k : ℕ) → k ≢ i → k ≢ j → new k ≡ old k

-- they meet in pairs, the newest first
abbrev pub Meetings : List (ℕ × ℕ) → (ℕ → SeatState) → (ℕ → SeatState) → Type 0
Meetings [] old new = (k : ℕ) → new k ≡ old k
Meetings (p ∷ ps) old new = (between : ℕ → SeatState) × Meetings ps old between × Meets p.0 p.1 between new

-- node i is one of the two in some meeting with h
abbrev pub MeetsIn : List (ℕ × ℕ) → ℕ → ℕ → Type 0
MeetsIn ps h i = Has (h, i) ps ⊎ Has (i, h) ps

-- each other node of n meets h
abbrev pub AllMeet : List (ℕ × ℕ) → ℕ → ℕ → Type 0
AllMeet ps n h = (i : ℕ) → i < n → i ≢ h → MeetsIn ps h i

-- it is the seat of node i of a room with quorums of these sizes
pub record IsSeatOf (q : Sizes) (i : ℕ) (s : SeatState) : Type 0 where
  pub stands : StandsInRun s
  pub me : s.node.me ≡ i
  pub quorums : s.node.quorums ≡ q

-- ---- the promise

-- Where each seat meets that of node h, and meets it again, their nodes rest as they were before in the run that h has seen between.
abbrev pub MeetingsJoin : Type 0
MeetingsJoin =
    (q : Sizes) (h : ℕ) (first second : List (ℕ × ℕ)) (old between new : ℕ → SeatState) → h < q.nodes
    → Meetings first old between → AllMeet first q.nodes h → Meetings second between new → AllMeet second q.nodes h
    → ((i : ℕ) → i < q.nodes → IsSeatOf q i (old i))
    → AreAtRest q (old h).view.opening (between h).view.seen old
