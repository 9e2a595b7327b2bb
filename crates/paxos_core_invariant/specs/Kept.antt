-- The invariant holds in every room that opens from settled kept parts, and each step that is allowed keeps it.
use Rattle.std.specs.Prelude.{ℕ}
use Rattle.paxos_core_world.specs.KeptPart.{KeptPart}
use Rattle.paxos_core_world.specs.Quorum.{Sizes, AreQuorums}
use Rattle.paxos_core_world.specs.Settled.{Settled}
use Rattle.paxos_core_world.specs.Step.{Label, Allowed, after}
use Rattle.paxos_core_world.specs.World.{World, opening}
use Rattle.paxos_core_invariant.specs.Invariant.{Invariant}

abbrev pub OpensWithInvariant : Type 0
OpensWithInvariant = (q : Sizes) (nodes : ℕ → KeptPart) → AreQuorums q → Settled q nodes → Invariant q (opening q.nodes nodes)

abbrev pub StepsKeepInvariant : Type 0
StepsKeepInvariant = (q : Sizes) (w : World) (step : Label) → Invariant q w → Allowed q w step → Invariant q (after w step)
