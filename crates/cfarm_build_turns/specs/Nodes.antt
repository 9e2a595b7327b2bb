-- The nodes of a farm, from their disks to the end of their turns, and behind their meetings.
use Rattle.std.specs.Prelude.{◌≡◌, ◌≤◌, ◌↔◌, ℕ, suc, List, [], ◌∷◌, length, map, Option, Some, None, slice_get}
use Rattle.std.specs.Arc.{arc_value}
use Rattle.std.specs.List.{AllByRecursion, AllZip}
use Rattle.lang_base.specs.declared.program.Program.{Program}
use Rattle.rtl_language.specs.Function.{FunctionData}
use Rattle.durable_model.specs.declared.disk.Disk as disks
use Rattle.durable_pair.specs.declared.pair.Pair as pairs
use Rattle.rooms_hall.specs.declared.hall.Naming as naming
use Rattle.farm_nodes_turn_offer.specs.declared.halt.Fault.{Fault}
use Rattle.farm_nodes_turn_node.specs.Fours.{fours_of}
use Rattle.farm_nodes_turn_node.specs.Asked.{MayBeAsked}
use Rattle.farm_nodes_turn_node.specs.declared.farm_node.FarmNode.{FarmNode}
use Rattle.farm_nodes_turn_node.specs.Held.{fault_in}
use Rattle.cfarm_build_meeting.specs.Source.{Source}
use Rattle.paxos_core_world.specs.Quorum.{Sizes}
use Rattle.cfarm_build_meeting.specs.Alike.{KeepsLearned}
use Rattle.cfarm_build_meeting.specs.Going.{SeatsGoOn}
use Rattle.cfarm_build_meeting.specs.Learned.{learned_by}
use Rattle.cfarm_build_faults.specs.Nodes.{NodeCameBack}
use Rattle.cfarm_build_faults.specs.Stopped.{IsStoppedFor}
use Rattle.cfarm_build_faults.specs.Words.{generators}
use Rattle.cfarm_build_faults.specs.Back.{AreJournalsOn}
use Rattle.cfarm_build_faults.specs.Opened.{AreOpenFromJournals}
pub use Rattle.cfarm_build_meeting.specs.Counted.{AreCountedAt, AreMissed}
use Rattle.cfarm_build_meeting.specs.Twice.{HaveMetTwice, seats_in}

-- a program of as many functions at most as a text that was made ready has
abbrev pub HasFewFunctions : Program FunctionData → Type 0
HasFewFunctions p = length p.functions ≤ 64

-- A meeting leaves a node its program, its journal, its generator and what stopped it. Its seats go on, each in its room, what was learned is
-- learned still, and the journal stands for what they keep as it did.
pub record NodeStays {D O H : Type 0} {h : naming.Ghosts H} (disk : disks.Ghosts D) (n m : FarmNode D O H h) : Type 0 where
  pub program : m.program ≡ n.program
  pub log : m.log ≡ n.log
  pub draws : m.draws ≡ n.draws
  pub halted_same : m.halted ≡ n.halted
  pub seats_on : SeatsGoOn n.seats.items m.seats.items
  pub learned_still : KeepsLearned (learned_by n.seats.items) (learned_by m.seats.items)
  pub fit : MayBeAsked disk n → MayBeAsked disk m

-- the lowest node that a fault stopped, and the fault; the first one has this number
abbrev pub lowest_failed : ℕ → List (Option Fault) → Option (ℕ × Fault)
lowest_failed number [] = None
lowest_failed number (None ∷ faults) = lowest_failed (suc number) faults
lowest_failed number (Some fault ∷ faults) = Some (number, fault)

module _ {D O H : Type 0} {h : naming.Ghosts H} where
  abbrev pub failed_of : List (FarmNode D O H h) → Option (ℕ × Fault)
  failed_of nodes = lowest_failed 0 (map (λ n. fault_in n.halted) nodes)

  -- Each two neighbours met, from the first node to the last, and again on the way back, on which the last node learned nothing more.
  abbrev pub NodesMetTwice : List (FarmNode D O H h) → List (FarmNode D O H h) → Type 0
  NodesMetTwice old new = HaveMetTwice (seats_in (λ n. n.seats.items) old) (seats_in (λ n. n.seats.items) new)

  module _ (disk : disks.Ghosts D) (pair : pairs.Ghosts D) (q : Sizes) (source : Source) (given : List D) where
    -- The nodes opened on these pairs of disks, with quorums of these sizes and the generators of the seed; nothing has stopped one.
    pub record HaveOpened (seed : ℕ) (nodes : List (FarmNode D O H h)) : Type 0 where
      pub journals : AreJournalsOn disk pair q source.digest given (map (λ n. n.log) nodes)
      pub rooms : AreOpenFromJournals disk q (length (arc_value source.translated).functions)
          (map (λ n. n.log) nodes) (map (λ n. n.seats.items) nodes)
      pub draws : map (λ n. n.draws) nodes ≡ generators seed (length given)
      pub program : AllByRecursion (λ n. arc_value n.program ≡ arc_value source.translated) nodes
      pub going : AllByRecursion (λ n. n.halted ≡ None) nodes

    -- Node i's disk holds its journal, under the header of the quorums, this node and this source: it stands for what the node's seats keep and have
    -- offered. The disk is as honest as the pair that was given.
    pub record HoldsJournal (i : ℕ) (p : D) (n : FarmNode D O H h) : Type 0 where
      pub nodes : n.log.header.nodes ≡ q.nodes
      pub promise : n.log.header.promise ≡ q.promise
      pub accept : n.log.header.accept ≡ q.accept
      pub node : n.log.header.node ≡ i
      pub digest : n.log.header.digest ≡ source.digest
      pub honest : disk.is_honest n.log.disk ↔ pair.is_whole p
      pub fit : MayBeAsked disk n

    -- so does each node's, and there are as many nodes as pairs
    pub record AllHold (nodes : List (FarmNode D O H h)) : Type 0 where
      pub count : length nodes ≡ length given
      pub each : (i : ℕ) (p : D) (n : FarmNode D O H h) → slice_get given i ≡ Some p → slice_get nodes i ≡ Some n → HoldsJournal i p n

    -- The nodes are the farm's: as they opened they took at most so many turns each, which came to those that ran, and then met, if they did.
    -- Each one's disk holds its journal.
    pub record AreBack (seed turns : ℕ) (begun ran nodes : List (FarmNode D O H h)) : Type 0 where
      pub opened : HaveOpened seed begun
      pub turned : AllZip (NodeCameBack disk turns) begun ran
      pub met : AllZip (NodeStays disk) ran nodes
      pub hold : AllHold nodes

    -- The fault stopped the node of this number in one of its turns, and there is a cause: between the journal that it opened with and its
    -- journal now.
    pub record HasStopped (begun ran : List (FarmNode D O H h)) (number : ℕ) (fault : Fault) : Type 0 where
      pub first : FarmNode D O H h
      pub node : FarmNode D O H h
      pub there_first : slice_get begun number ≡ Some first
      pub there : slice_get ran number ≡ Some node
      pub stopped : fault_in node.halted ≡ Some fault
      pub cause : IsStoppedFor disk (arc_value source.translated).functions first.log node.log (fours_of node.seats.items) node.halted
