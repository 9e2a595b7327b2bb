-- A crash of all nodes of a room. A node records each of its steps in its journal before it takes it (Lamport, Paxos Made Simple,
-- section 3), so what its journal holds is what it keeps, perhaps with a step that it has recorded and not taken yet.
use Rattle.std.specs.Prelude.{◌≡◌, ℕ, ◌<◌, List}
use Rattle.paxos_core_world.specs.KeptPart.{KeptPart, with_offer}
use Rattle.paxos_core_world.specs.Quorum.{Sizes}
use Rattle.paxos_core_world.specs.Run.{IsRun, reached}
use Rattle.paxos_core_world.specs.Settled.{Settled}
use Rattle.paxos_core_world.specs.Step.{Label}
use Rattle.paxos_core_world.specs.World.{World, Has, opening}
use Rattle.paxos_core_world.specs.declared.msg.Msg.TheVariants.{Prepare, Propose}
use Rattle.paxos_core_theorem.specs.Agreement.{LearnsAs}
use Rattle.paxos_core_node_steps.specs.NodeState.{NodeState}
use Rattle.paxos_core_node_steps.specs.Reached.{IsReached}
use Rattle.paxos_core_node_steps.specs.Takes.{AreStepsOf}
use Rattle.paxos_core_node_steps.specs.Would.{would, kept_by_step}
use Rattle.paxos_core_node_steps.specs.declared.step.Act.{Act}
use Rattle.paxos_core_node_steps.specs.declared.step.Act.TheVariants as act
use Rattle.paxos_core_late_offers.specs.LateOffer.{BelongsWithLateOffer}

-- node i's journal holds this: what i keeps in the world, once it has taken steps of its own that it may take there
pub record IsRecorded (q : Sizes) (w : World) (i : ℕ) (holds : KeptPart) : Type 0 where
  pub steps : List Label
  pub own : AreStepsOf q.nodes i steps
  pub run : IsRun q w steps
  pub kept : (reached w steps).nodes i ≡ holds

-- the world can come about, and each node's journal holds such a kept part
pub record IsLeftByCrash (q : Sizes) (w : World) (left : ℕ → KeptPart) : Type 0 where
  pub reached : IsReached q w
  pub recorded : (i : ℕ) → i < q.nodes → IsRecorded q w i (left i)

-- these steps, with which the run goes on, leave these kept parts
pub record IsLeftByRun (q : Sizes) (w : World) (left : ℕ → KeptPart) (steps : List Label) : Type 0 where
  pub run : IsRun q w steps
  pub kept : (i : ℕ) → i < q.nodes → (reached w steps).nodes i ≡ left i

-- what a node has recorded and not done: nothing, that it offers, or what it was asked
pub data Waiting : Type 0 where
  Nothing : Waiting
  ToOffer : Waiting
  ToDo : (asked : Act) → Waiting

-- what it was asked rests on a message that was sent
abbrev pub WasSent : World → Waiting → Type 0
WasSent w Nothing = Unit {0}
WasSent w ToOffer = Unit {0}
WasSent w (ToDo act.Start) = Unit {0}
WasSent w (ToDo (act.Promise b)) = Has (Prepare b) w.sent
WasSent w (ToDo act.Propose) = Unit {0}
WasSent w (ToDo (act.Accept b v)) = Has (Propose b v) w.sent

-- what its journal holds then
abbrev pub journal_of : NodeState → Waiting → KeptPart
journal_of s Nothing = s.kept
journal_of s ToOffer = with_offer s.kept
journal_of s (ToDo asked) = kept_by_step (would s asked) s.kept

-- ---- the promises

-- what a crash leaves is what a run leaves that goes on
abbrev pub CrashesAreRuns : Type 0
CrashesAreRuns = (q : Sizes) (w : World) (left : ℕ → KeptPart) → IsLeftByCrash q w left → (steps : List Label) × IsLeftByRun q w left steps

-- what a crash leaves is settled
abbrev pub CrashesLeaveSettled : Type 0
CrashesLeaveSettled = (q : Sizes) (w : World) (left : ℕ → KeptPart) → IsLeftByCrash q w left → Settled q left

-- what is learned in a room opened from what a crash left is what was learned before the crash
abbrev pub CrashesLearnAsBefore : Type 0
CrashesLearnAsBefore =
    (q : Sizes) (w : World) (left : ℕ → KeptPart) (later : List Label) → IsLeftByCrash q w left
    → IsRun q (opening q.nodes left) later → LearnsAs w (reached (opening q.nodes left) later)

-- what the journal of a node of the world holds, whatever the node has recorded and not done
abbrev pub JournalsAreRecorded : Type 0
JournalsAreRecorded =
    (q : Sizes) (w : World) (s : NodeState) (waiting : Waiting) → IsReached q w → BelongsWithLateOffer q w s → WasSent w waiting
    → IsRecorded q w s.me (journal_of s waiting)
