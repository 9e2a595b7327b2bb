-- What a seat knows of its room, and when that fits the run that the room has had.
use Rattle.std.specs.Prelude.{◌≡◌, ◌≢◌, ℕ, ◌+◌, ◌<◌, ◌≤◌, true, List, [], ◌∷◌, ◌++◌}
use Rattle.paxos_core_world.specs.Step.{Label}
use Rattle.paxos_core_world.specs.World.{World, nodes_of}
use Rattle.paxos_core.specs.Agreement.{IsSettledRun, world_of}
use Rattle.paxos_core.specs.Takes.{IsStepOf}
use Rattle.paxos_core.specs.LateOffer.{BelongsWithLateOffer}
use Rattle.rooms_words.specs.declared.event.Event.{Event}
use Rattle.rooms_words.specs.declared.view.Opening.{Opening}
use Rattle.rooms_words.specs.declared.view.View.{View}
use Rattle.rooms_words.specs.Events.{labels_of}

-- the world to which a run leads from the room's opening
abbrev pub world_after : Opening → List Event → World
world_after o run = world_of o.quorums.nodes (nodes_of o.kept) (labels_of run)

-- the run is one of the protocol, from settled kept parts
abbrev pub IsLegal : Opening → List Event → Type 0
IsLegal o run = IsSettledRun o.quorums (nodes_of o.kept) (labels_of run)

-- the run begins with these steps, which stand last in it
abbrev pub BeginsWith : List Event → List Event → Type 0
BeginsWith run first = (later : List Event) × (run ≡ later ++ first)

-- it is a step of another node than i
abbrev pub IsStepOfOther : ℕ → ℕ → Label → Type 0
IsStepOfOther n i l = (j : ℕ) × IsStepOf n j l × (i ≢ j)

-- they are steps of other nodes than i
abbrev pub AreStepsOfOthers : ℕ → ℕ → List Label → Type 0
AreStepsOfOthers n i [] = Unit {0}
AreStepsOfOthers n i (l ∷ ls) = IsStepOfOther n i l × AreStepsOfOthers n i ls

-- the seat may step for node i
abbrev pub IsMine : View → ℕ → Type 0
IsMine v i = (v.first ≤ i) × (i < v.end)

-- the seat is one node's: the one that it holds
pub record IsSeated (v : View) : Type 0 where
  pub live : v.live ≡ true
  pub first : v.first ≡ v.node.me
  pub last : v.end ≡ v.node.me + 1

-- the view fits the run: what it saw and what it was told are beginnings of it, no node of its own took a step behind
-- what it saw, and its node belongs to the world after the run
pub record Fits (o : Opening) (run : List Event) (v : View) : Type 0 where
  pub opening : v.live ≡ true → v.opening ≡ o
  pub later : List Event
  pub seen : run ≡ later ++ v.seen
  pub quiet : (i : ℕ) → IsMine v i → AreStepsOfOthers o.quorums.nodes i (labels_of later)
  pub told : BeginsWith run v.told
  pub told_by : v.live ≡ true → v.told_by ≡ o
  pub belongs : IsMine v v.node.me → BelongsWithLateOffer o.quorums (world_after o run) v.node
