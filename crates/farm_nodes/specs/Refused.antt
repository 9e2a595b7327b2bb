-- Why the pairs of disks of a farm are refused: over what its text is compiled from, the first fault of what stands on them.
use Rattle.std.specs.Prelude.{◌≡◌, ℕ, List}
use Rattle.std.specs.Global.{Vec}
use Rattle.std.specs.Arc.{arc_value}
use Rattle.durable_model.specs.declared.disk.Disk as disks
use Rattle.durable_pair.specs.declared.pair.Pair as pairs
use Rattle.paxos_core_world.specs.Quorum.{Sizes}
use Rattle.farm_nodes_source.specs.declared.source.Source.{Source}
use Rattle.farm_nodes_source.specs.Refused.{IsUnprepared}
use Rattle.farm_nodes_source.specs.declared.fault.SourceFault.{SourceFault}
use Rattle.farm_nodes_open_nodes.specs.Back.{AllComeBack}
use Rattle.farm_nodes_open_nodes.specs.Refused.{TellsJournal, TellsOffer, TellsRoom}
use Rattle.farm_nodes_open_nodes.specs.OpenFault.{OpenFault}
use Rattle.farm_nodes.specs.Prepared.{IsSourceOf}
use Rattle.farm_nodes.specs.declared.error.FarmError.{FarmError}
use Rattle.farm_nodes.specs.declared.error.FarmError.TheVariants as error

-- what is compiled is this, with quorums of these sizes; the first fault of what stands on the pairs
pub record AreRefusedOver {D : Type 0} (disk : disks.Ghosts D) (pair : pairs.Ghosts D) (q : Sizes) (source : Source) (given back : List D) (fault : OpenFault) : Type 0 where
  -- all pairs come back
  pub returned : AllComeBack disk pair q source.digest given back
  -- a journal is refused, or its records are
  pub journal : TellsJournal disk pair q source.digest given (arc_value source.translated) (back, fault)
  -- an offer is refused by its pass
  pub refused : TellsOffer disk pair q source.digest given (arc_value source.translated) (back, fault)
  -- a room is not opened
  pub unopened : TellsRoom disk pair q source.digest given (arc_value source.translated) (back, fault)

pub record AreRefused {D : Type 0} (disk : disks.Ghosts D) (pair : pairs.Ghosts D) (q : Sizes) (text : List ℕ) (given back : List D) (fault : OpenFault) : Type 0 where
  pub source : Source
  pub is : IsSourceOf text source
  pub over : AreRefusedOver disk pair q source given back fault

-- what is told beside the pairs that come back: the text is not compiled, and they are as they were
abbrev pub LeavesPairs : {D : Type 0} → List ℕ → Vec D → Vec D × FarmError → Type 0
LeavesPairs text given told = (fault : SourceFault) → told.1 ≡ error.Source fault → IsUnprepared text fault × (told.0 ≡ given)

-- or they are refused over the source of the text
abbrev pub TellsDisks : {D : Type 0} → disks.Ghosts D → pairs.Ghosts D → Sizes → List ℕ → List D → Vec D × FarmError → Type 0
TellsDisks disk pair q text given told = (fault : OpenFault) → told.1 ≡ error.Disks fault → AreRefused disk pair q text given told.0.items fault
