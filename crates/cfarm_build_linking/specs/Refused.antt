-- Why nodes link nothing. That memory was refused says nothing.
use Rattle.std.specs.Prelude.{◌≡◌, ℕ, List, map, Some, slice_get}
use Rattle.std.specs.String.{string_bytes}
use Rattle.c_checker_rules.specs.Checked.{program_tree}
use Rattle.cminor_lowering.specs.Programs.{low}
use Rattle.rtlgen_definition.specs.Gen.{gen}
use Rattle.rooms_hall.specs.declared.hall.Naming as naming
use Rattle.cfarm_build_result.specs.Numbers.{function_of_link_error}
use Rattle.cfarm_build_result.specs.LinkError.{LinkError}
use Rattle.cfarm_build_result.specs.LinkError.TheVariants as links
use Rattle.cfarm_build_result.specs.Source.{Source}
use Rattle.cfarm_build_result.specs.NumberedSeat.{NumberedSeat}
use Rattle.cfarm_build_result.specs.Learned.{learned_by, IsUndecided}
use Rattle.cfarm_build_result.specs.Refused.{IsFirstBroken}
use Rattle.cfarm_build_faults.specs.declared.error.BuildError.{BuildError}
use Rattle.cfarm_build_faults.specs.declared.error.BuildError.TheVariants.{NoMemory, NoThread, Source as TextFault, Disks, Failed, Undecided, Unlinked, Names}
use Rattle.cfarm_build_linking.specs.Built.{AllDecided}
use Rattle.cfarm_build_result.specs.Node.{Node}

-- a refusal of the linker is told with the name of its function, unless memory was refused
abbrev pub IsToldOf : List (List ℕ) → LinkError → BuildError → Type 0
IsToldOf names fault NoMemory = Unit {0}
IsToldOf names fault NoThread = ⊥
IsToldOf names fault (TextFault told) = ⊥
IsToldOf names fault (Disks told) = ⊥
IsToldOf names fault (Failed number told) = ⊥
IsToldOf names fault Undecided = ⊥
IsToldOf names fault (Unlinked told function) =
    (i : ℕ) × (told ≡ fault) × (function_of_link_error fault ≡ Some i) × (slice_get names i ≡ Some (string_bytes function))
IsToldOf names fault Names = fault ≡ links.Names

module _ {H : Type 0} {h : naming.Ghosts H} where
  -- The offers that were learned of this function, the first one of such, do not go on from it.
  pub record IsBroken (source : Source) (seats : List (NumberedSeat H h)) (fault : LinkError) (function : List ℕ) : Type 0 where
    pub number : ℕ
    pub fault_is : fault ≡ links.Unchained number
    pub broken : IsFirstBroken (gen (low (program_tree source.program))).functions (learned_by seats) number
    pub named : slice_get (map (λ f. f.name) source.program.functions) number ≡ Some function

  -- why offers of all functions are not linked: the names are the program's, and no function needs too many nodes
  abbrev pub IsUnlinkedBy : Source → List (NumberedSeat H h) → BuildError → Type 0
  IsUnlinkedBy source seats NoMemory = Unit {0}
  IsUnlinkedBy source seats NoThread = ⊥
  IsUnlinkedBy source seats (TextFault fault) = ⊥
  IsUnlinkedBy source seats (Disks fault) = ⊥
  IsUnlinkedBy source seats (Failed number fault) = ⊥
  IsUnlinkedBy source seats Undecided = ⊥
  IsUnlinkedBy source seats (Unlinked fault function) = IsBroken source seats fault (string_bytes function)
  IsUnlinkedBy source seats Names = ⊥

module _ {D : Type 0} {H : Type 0} {h : naming.Ghosts H} where
  -- one of the nodes does not link all functions
  pub record IsNotLinked (nodes : List (Node D H h)) : Type 0 where
    pub number : ℕ
    pub node : Node D H h
    pub there : slice_get nodes number ≡ Some node
    pub undecided : IsUndecided (learned_by node.seats)

  -- all link all functions, and so it is of the first
  pub record OfFirst (nodes : List (Node D H h)) (Is : List (NumberedSeat H h) → Type 0) : Type 0 where
    pub decided : AllDecided nodes
    pub node : Node D H h
    pub first : slice_get nodes 0 ≡ Some node
    pub is : Is node.seats

  -- Why nodes link nothing: where one does not link all functions, else where the first one's offers are not linked.
  abbrev pub IsRefusedBy : Source → List (Node D H h) → BuildError → Type 0
  IsRefusedBy source nodes NoMemory = Unit {0}
  IsRefusedBy source nodes NoThread = ⊥
  IsRefusedBy source nodes (TextFault fault) = ⊥
  IsRefusedBy source nodes (Disks fault) = ⊥
  IsRefusedBy source nodes (Failed number fault) = ⊥
  IsRefusedBy source nodes Undecided = IsNotLinked nodes
  IsRefusedBy source nodes (Unlinked fault function) = OfFirst nodes (λ seats. IsBroken source seats fault (string_bytes function))
  IsRefusedBy source nodes Names = ⊥
