-- What a play of a room shows, whoever plays it: in one thread or in many.
use Rattle.std.specs.Prelude.{◌≡◌, ℕ, ◌<◌, List, Some}
use Rattle.paxos_core_world.specs.KeptPart.{KeptPart}
use Rattle.paxos_core_world.specs.Quorum.{Sizes, AreQuorums}
use Rattle.paxos_core_world.specs.Settled.{Settled}
use Rattle.paxos_core_world.specs.Step.{Label}
use Rattle.paxos_core_world.specs.World.{Has}
use Rattle.paxos_core_late_offers.specs.Agreement.{IsSettledRun, world_of}
use Rattle.paxos_core.specs.Schedule.{NodeCall, opened, played, IsSchedule, steps_of}

-- the steps that were taken are a run from settled kept parts, and at its end each node has learned v, and none
-- has learned another value
pub record AllLearned (q : Sizes) (kept : ℕ → KeptPart) (steps : List Label) (v : ℕ) : Type 0 where
  pub run : IsSettledRun q kept steps
  pub learned : (i : ℕ) → i < q.nodes → Has (i, v) (world_of q.nodes kept steps).learned
  pub only : (i u : ℕ) → Has (i, u) (world_of q.nodes kept steps).learned → u ≡ v

-- where each node has learned v after a schedule, the steps that it takes show it
abbrev pub SchedulesShowAllLearned : Type 0
SchedulesShowAllLearned =
    (q : Sizes) (kept : ℕ → KeptPart) (calls : List NodeCall) (v : ℕ) → AreQuorums q → Settled q kept → IsSchedule q.nodes (opened q kept) calls
    → ((i : ℕ) → i < q.nodes → ((played (opened q kept) calls).nodes i).learned ≡ Some v) → AllLearned q kept (steps_of (opened q kept) calls) v
