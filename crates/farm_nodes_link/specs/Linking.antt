-- What a node links for a checked C program, and why it links none.
use Rattle.std.specs.Prelude.{◌≡◌, ◌≢◌, All, Result, IfErr}
use Rattle.std.specs.Arc.{arc_value}
use Rattle.c_checker_rules.specs.Checked.{Contents, program_tree}
use Rattle.cminor_lowering.specs.Programs.{low}
use Rattle.rtlgen_definition.specs.Gen.{gen}
use Rattle.linker.specs.RtlgenRefused.{HasFewNodes}
use Rattle.linker.specs.Chains.{names_of}
use Rattle.linker.specs.declared.errors.LinkError.TheVariants.{NoMemory, Names}
use Rattle.rooms_hall.specs.declared.hall.Naming as naming
use Rattle.farm_nodes_turn_node.specs.declared.farm_node.FarmNode.{FarmNode}
use Rattle.farm_nodes_link.specs.Learned.{learned_by}
use Rattle.farm_nodes_link.specs.Refused.{IsNoMemory, IsRefused}
use Rattle.farm_nodes_link.specs.Translated.{GoOnFromAll}
use Rattle.farm_nodes_link.specs.declared.errors.LinkedError.{LinkedError}
use Rattle.farm_nodes_link.specs.declared.errors.LinkedError.TheVariants.{Undecided, Link}

-- if the room is decided and memory is there, it tells that the names are others
abbrev pub IsOtherNames : LinkedError → Type 0
IsOtherNames e = e ≢ Undecided → e ≢ Link NoMemory → e ≡ Link Names

module _ {D O H : Type 0} {h : naming.Ghosts H} (node : FarmNode D O H h) (program : Contents) where
  -- the functions of the node's own program have the names of those of this one
  abbrev pub SameNames : Type 0
  SameNames = names_of (arc_value node.program).functions ≡ names_of (low (program_tree program)).functions

  -- why what the node has learned is not linked
  abbrev pub CannotLink : LinkedError → Type 0
  CannotLink e = IsRefused (low (program_tree program)) (names_of (arc_value node.program).functions) (learned_by node.seats.items) e

  -- where the names are the program's, no function needs too many nodes and the learned offers chain, only memory is refused
  abbrev pub OnlyMemoryFails : {A : Type 0} → Result A LinkedError → Type 0
  OnlyMemoryFails result =
      SameNames → All HasFewNodes (low (program_tree program)).functions → GoOnFromAll (gen (low (program_tree program))) node.seats.items
      → IfErr result IsNoMemory
