-- Agreement in one room (Lamport, Paxos Made Simple, section 2: only a single value is chosen), over every run from settled kept parts,
-- and over every reopening of a room from what a run left.
use Rattle.std.specs.Prelude.{◌≡◌, ℕ, List, ◌++◌}
use Rattle.paxos_core_world.specs.KeptPart.{KeptPart}
use Rattle.paxos_core_world.specs.Quorum.{Sizes, AreQuorums}
use Rattle.paxos_core_world.specs.Run.{IsRun, reached}
use Rattle.paxos_core_world.specs.Settled.{Settled}
use Rattle.paxos_core_world.specs.Step.{Label, IsChosen}
use Rattle.paxos_core_world.specs.World.{World, Has, opening, no_nodes}

-- the world to which these steps lead n nodes that open with these kept parts
abbrev pub world_of : ℕ → (ℕ → KeptPart) → List Label → World
world_of n nodes steps = reached (opening n nodes) steps

-- with quorums that meet the steps are a run from settled kept parts
pub record IsSettledRun (q : Sizes) (nodes : ℕ → KeptPart) (steps : List Label) : Type 0 where
  pub sizes : AreQuorums q
  pub settled : Settled q nodes
  pub run : IsRun q (opening q.nodes nodes) steps

-- these later steps are a run of the room opened again from the kept parts that the steps before left
pub record IsReopening (q : Sizes) (nodes : ℕ → KeptPart) (before later : List Label) : Type 0 where
  pub first : IsSettledRun q nodes before
  pub again : IsRun q (opening q.nodes (world_of q.nodes nodes before).nodes) later

-- what is learned in the one world is what is learned in the other
abbrev pub LearnsAs : World → World → Type 0
LearnsAs w x = (i j v u : ℕ) → Has (i, v) w.learned → Has (j, u) x.learned → v ≡ u

-- two values that are learned, by whatever nodes, are equal
abbrev pub LearnsOne : World → Type 0
LearnsOne w = LearnsAs w w

-- two values that are chosen, under whatever ballots, are equal
abbrev pub ChoosesOne : Sizes → World → Type 0
ChoosesOne q w = (b c v u : ℕ) → IsChosen q w b v → IsChosen q w c u → v ≡ u

-- ---- the promises

-- a room in which nobody has kept anything is settled
abbrev pub NothingIsSettled : Type 0
NothingIsSettled = (q : Sizes) → Settled q no_nodes

-- every run from settled kept parts chooses one value at most
abbrev pub RunsChooseOne : Type 0
RunsChooseOne = (q : Sizes) (nodes : ℕ → KeptPart) (steps : List Label) → IsSettledRun q nodes steps → ChoosesOne q (world_of q.nodes nodes steps)

-- every run from settled kept parts learns one value at most
abbrev pub RunsLearnOne : Type 0
RunsLearnOne = (q : Sizes) (nodes : ℕ → KeptPart) (steps : List Label) → IsSettledRun q nodes steps → LearnsOne (world_of q.nodes nodes steps)

-- every run from settled kept parts leaves settled kept parts
abbrev pub RunsStaySettled : Type 0
RunsStaySettled = (q : Sizes) (nodes : ℕ → KeptPart) (steps : List Label) → IsSettledRun q nodes steps → Settled q (world_of q.nodes nodes steps).nodes

-- a run after a reopening is the old run going on, with its other messages unused
abbrev pub ReopeningsGoOn : Type 0
ReopeningsGoOn =
    (q : Sizes) (nodes : ℕ → KeptPart) (before later : List Label) → IsReopening q nodes before later → IsRun q (opening q.nodes nodes) (later ++ before)

-- what is learned after a reopening is what was learned before it
abbrev pub ReopeningsLearnAsBefore : Type 0
ReopeningsLearnAsBefore =
    (q : Sizes) (nodes : ℕ → KeptPart) (before later : List Label) → IsReopening q nodes before later
    → LearnsAs (world_of q.nodes nodes before) (world_of q.nodes (world_of q.nodes nodes before).nodes later)
