-- From an accepted text to what two nodes of its farm link.
use Rattle.std.specs.Prelude.{◌≡◌, ℕ, List, Result, IfOk}
use Rattle.lang_base.specs.Keeps.{Keeps}
use Rattle.lang_base.specs.declared.program.Program.{Program}
use Rattle.lang.specs.Form.{IsProgram}
use Rattle.c_syntax.specs.Trees.{UnitTree}
use Rattle.c_program.specs.Meaning.{crun}
use Rattle.c_checker_rules.specs.Checked.{program_tree}
use Rattle.farm_nodes_source.specs.Accepted.{IsAccepted, IsProgramOf}
use Rattle.cminor_lowering.specs.Programs.{low}
use Rattle.linear_language.specs.Function as linear_function
use Rattle.linear_language.specs.Meaning as linear
use Rattle.rtlgen_definition.specs.Gen.{gen}
use Rattle.rooms_hall.specs.declared.hall.Naming as naming
use Rattle.farm_nodes_link.specs.Learned.{learned_by}
use Rattle.farm_nodes_link.specs.Offered.{linked_offers}
use Rattle.farm_nodes_link.specs.NumberedSeat.{NumberedSeat}
use Rattle.farm_nodes_link.specs.declared.errors.LinkedError.{LinkedError}
use Rattle.farm_nodes_source.specs.declared.source.Source.{Source}
use Rattle.farm_nodes.specs.Prepared.{IsSourceOf}

-- The text is accepted, and the source is of it. What both link is this one program, which does exactly what the text's C program does.
pub record IsOneProgram {H : Type 0} {h : naming.Ghosts H} (text : List ℕ) (source : Source) (first second : List (NumberedSeat H h))
    (made : Program linear_function.FunctionData) : Type 0 where
  pub tree : UnitTree
  pub accepted : IsAccepted text tree
  pub program : IsProgramOf tree source.program
  pub first_links : made ≡ linked_offers (gen (low (program_tree source.program))) (learned_by first)
  pub second_links : made ≡ linked_offers (gen (low (program_tree source.program))) (learned_by second)
  pub keeps : Keeps (crun (program_tree source.program)) (linear.run made)
  pub spelled : IsProgram linear_function.IsFunction made

-- of each text that the source is of: it is accepted, and both link its one program
abbrev pub LinkOneProgram : {H : Type 0} {h : naming.Ghosts H} → Source → List (NumberedSeat H h) → List (NumberedSeat H h)
    → Result (Program linear_function.FunctionData) LinkedError → Type 0
LinkOneProgram source first second linked = (text : List ℕ) → IsSourceOf text source → IfOk linked (IsOneProgram text source first second)
