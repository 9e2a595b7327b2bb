-- What nodes come to that opened: they took their turns, met, and made something, or not.
use Rattle.std.specs.Prelude.{◌≡◌, ◌⊎◌, ℕ, List, None, Some, Result, IfErr, IfOk}
use Rattle.std.specs.List.{AllByRecursion, AllZip}
use Rattle.durable_model.specs.declared.disk.Disk as disks
use Rattle.rooms_hall.specs.declared.hall.Naming as naming
use Rattle.farm_nodes_source.specs.declared.source.Source.{Source}
use Rattle.cfarm_build_folder.specs.BuildError.{BuildError}
use Rattle.cfarm_build_folder.specs.BuildError.TheVariants.{NoMemory, NoThread, Source as TextFault, Disks, Failed, Undecided, Unlinked, Names}
use Rattle.cfarm_build_linking.specs.Built.{IsBuiltBy}
use Rattle.cfarm_build_linking.specs.Refused.{IsRefusedBy}
use Rattle.cfarm_build_turns.specs.Asked.{MayBeAsked}
use Rattle.cfarm_build_turns.specs.CameBackNodes.{NodeCameBack}
use Rattle.cfarm_build_turns.specs.FarmNode.{FarmNode}
use Rattle.cfarm_build_turns.specs.Nodes.{AreMissed, NodeStays, NodesMetTwice, failed_of}
use Rattle.cfarm_build.specs.Built.{Built, nodes_seen}

module _ {D O H : Type 0} {h : naming.Ghosts H} where
  -- Why nodes that ran make nothing: the lowest one that failed, and then none met; two neighbours that did not count all functions, or a node
  -- that does not link all; what is not linked. That memory or a thread was refused says nothing.
  abbrev pub IsUnmade : Source → (ran nodes : List (FarmNode D O H h)) → BuildError → Type 0
  IsUnmade source ran nodes NoMemory = Unit {0}
  IsUnmade source ran nodes NoThread = Unit {0}
  IsUnmade source ran nodes (TextFault fault) = ⊥
  IsUnmade source ran nodes (Disks fault) = ⊥
  IsUnmade source ran nodes (Failed number fault) = (failed_of ran ≡ Some (number, fault)) × (nodes ≡ ran)
  IsUnmade source ran nodes Undecided =
      (failed_of ran ≡ None) × (AreMissed (λ n. n.seats.items) nodes ⊎ IsRefusedBy source (nodes_seen nodes) Undecided)
  IsUnmade source ran nodes (Unlinked fault function) =
      (failed_of ran ≡ None) × IsRefusedBy source (nodes_seen nodes) (Unlinked fault function)
  IsUnmade source ran nodes Names = ⊥

  -- From these nodes so many turns at most came to those that ran, and meetings to those that are here now; and this is what they made.
  pub record HaveGone (disk : disks.Ghosts D) (turns : ℕ) (source : Source) (begun nodes : List (FarmNode D O H h)) (made : Result Built BuildError) : Type 0 where
    pub ran : List (FarmNode D O H h)
    pub turned : AllZip (NodeCameBack disk turns) begun ran
    pub fit : AllByRecursion (MayBeAsked disk) ran
    pub met : AllZip (NodeStays disk) ran nodes
    pub makes : IfOk made (λ built. (failed_of ran ≡ None) × IsBuiltBy source (nodes_seen nodes) built × NodesMetTwice ran nodes)
    pub makes_not : IfErr made (IsUnmade source ran nodes)
