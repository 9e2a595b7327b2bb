-- What is said of the first of all nodes.
use Rattle.std.proofs.Common.{◌≡◌, List, Some}
use Rattle.std.specs.Prelude.{slice_get}
use Rattle.rooms_hall.specs.declared.hall.Naming as naming
use Rattle.cfarm_build_result.specs.Source.{Source}
use Rattle.cfarm_build_linking.specs.Built.{AllDecided}
use Rattle.cfarm_build_result.specs.Node.{Node}
use Rattle.cfarm_build_linking.specs.Refused.{IsRefusedBy, IsUnlinkedBy}
use Rattle.cfarm_build_faults.specs.declared.error.BuildError.{BuildError}
use Rattle.cfarm_build_faults.specs.declared.error.BuildError.TheVariants.{NoMemory, NoThread, Source as TextFault, Disks, Failed, Undecided, Unlinked, Names}

module _ {D : Type 0} {H : Type 0} {h : naming.Ghosts H} (source : Source) (nodes : List (Node D H h)) (node : Node D H h)
    (decided : AllDecided nodes) (first : slice_get nodes 0 ≡ Some node) where
  pub refused : (e : BuildError) → IsUnlinkedBy source node.seats e → IsRefusedBy source nodes e
  refused NoMemory is = tt
  refused NoThread is = is
  refused (TextFault f) is = is
  refused (Disks f) is = is
  refused (Failed n f) is = is
  refused Undecided is = absurd is
  refused (Unlinked f function) is = record { decided = decided; node = node; first = first; is = is }
  refused Names is = is
