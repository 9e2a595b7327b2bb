-- Why nothing is built, and what is given back then.
use Rattle.std.specs.Prelude.{◌≡◌, ◌⊎◌, ℕ, List, None, Some}
use Rattle.std.specs.Global.{Vec}
use Rattle.durable_model.specs.declared.disk.Disk as disks
use Rattle.durable_pair.specs.declared.pair.Pair as pairs
use Rattle.rooms_hall.specs.declared.hall.Naming as naming
use Rattle.farm_nodes_source.specs.declared.source.Source.{Source}
use Rattle.paxos_core_world.specs.Quorum.{Sizes}
use Rattle.cfarm_build_turns.specs.Fault.{Fault}
use Rattle.cfarm_build_folder.specs.Refused.{AreRefusedOver}
use Rattle.cfarm_build_folder.specs.BuildError.{BuildError}
use Rattle.cfarm_build_folder.specs.BuildError.TheVariants.{NoMemory, NoThread, Source as TextFault, Disks, Failed, Undecided, Unlinked, Names}
use Rattle.cfarm_build_linking.specs.Refused.{IsRefusedBy}
use Rattle.cfarm_build_turns.specs.Nodes.{AreBack, AreMissed, HasStopped, failed_of}
use Rattle.cfarm_build_turns.specs.Resting.{Resting}
use Rattle.cfarm_build.specs.Back.{AreDisksOf}
use Rattle.cfarm_build.specs.Built.{nodes_seen}

module _ {D : Type 0} (disk : disks.Ghosts D) (pair : pairs.Ghosts D) {H : Type 0} (h : naming.Ghosts H) (q : Sizes) (seed turns : ℕ) (source : Source)
    (given : List D) where
  -- the farm's nodes, whose disks hold their journals
  pub record ComeBack (nodes : List (Resting D H h)) : Type 0 where
    pub begun : List (Resting D H h)
    pub ran : List (Resting D H h)
    pub back : AreBack disk pair q source given seed turns begun ran nodes

  -- the lowest of them that failed is this, and there is a cause
  pub record HasFailed (number : ℕ) (fault : Fault) (nodes : List (Resting D H h)) : Type 0 where
    pub begun : List (Resting D H h)
    pub back : AreBack disk pair q source given seed turns begun nodes nodes
    pub failed : failed_of nodes ≡ Some (number, fault)
    pub stopped : HasStopped disk pair q source given begun nodes number fault

  -- none failed, they met, and so it is of them
  pub record HaveMetIn (Is : List (Resting D H h) → Type 0) (nodes : List (Resting D H h)) : Type 0 where
    pub begun : List (Resting D H h)
    pub ran : List (Resting D H h)
    pub back : AreBack disk pair q source given seed turns begun ran nodes
    pub going : failed_of ran ≡ None
    pub is : Is nodes

  -- two neighbours did not count all functions, or a node does not link all
  abbrev pub AreWanting : List (Resting D H h) → Type 0
  AreWanting nodes = AreMissed (λ n. n.seats.items) nodes ⊎ IsRefusedBy source (nodes_seen nodes) Undecided

  -- In this order: the disks, the lowest node that failed, what is not linked. The names are the program's. That memory or a thread was refused says
  -- nothing but what is given back: the pairs as they were given, or the disks of the nodes.
  abbrev pub IsUnbuilt : (back : List D) → BuildError → Type 0
  IsUnbuilt back NoMemory = (back ≡ given) ⊎ AreDisksOf h back ComeBack
  IsUnbuilt back NoThread = AreDisksOf h back ComeBack
  IsUnbuilt back (TextFault fault) = ⊥
  IsUnbuilt back (Disks fault) = AreRefusedOver disk pair q source given back fault
  IsUnbuilt back (Failed number fault) = AreDisksOf h back (HasFailed number fault)
  IsUnbuilt back Undecided = AreDisksOf h back (HaveMetIn AreWanting)
  IsUnbuilt back (Unlinked fault function) = AreDisksOf h back (HaveMetIn (λ nodes. IsRefusedBy source (nodes_seen nodes) (Unlinked fault function)))
  IsUnbuilt back Names = ⊥

-- the same of what is handed over
abbrev pub GivesUnbuilt : {D : Type 0} → disks.Ghosts D → pairs.Ghosts D → {H : Type 0} → naming.Ghosts H → Sizes → (seed turns : ℕ) → Source
    → (given back : Vec D) → BuildError → Type 0
GivesUnbuilt disk pair h q seed turns source given back fault = IsUnbuilt disk pair h q seed turns source given.items back.items fault
