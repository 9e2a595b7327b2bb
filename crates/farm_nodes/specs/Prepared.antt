-- What a farm compiles: the program of an accepted text, and its translation, with which the first pass begins.
use Rattle.std.specs.Prelude.{◌≡◌, ◌≤◌, ℕ, List, length}
use Rattle.std.specs.Arc.{arc_value}
use Rattle.sha2.specs.Sha256.{sha256}
use Rattle.lang_base.specs.Keeps.{Keeps}
use Rattle.c_syntax.specs.Trees.{UnitTree}
use Rattle.c_program.specs.Meaning.{crun}
use Rattle.c_checker_rules.specs.Checked.{program_tree}
use Rattle.farm_nodes_source.specs.Accepted.{IsAccepted, IsProgramOf}
use Rattle.cminor_lowering.specs.Programs.{low}
use Rattle.farm_nodes_source.specs.Names.{HaveNames}
use Rattle.rtl_language.specs.Meaning as rtl
use Rattle.rtlgen_definition.specs.Gen.{gen}
use Rattle.farm_nodes_source.specs.declared.source.Source.{Source}

pub record IsSourceOf (text : List ℕ) (source : Source) : Type 0 where
  pub tree : UnitTree
  pub accepted : IsAccepted text tree
  pub program : IsProgramOf tree source.program
  pub translated : arc_value source.translated ≡ gen (low (program_tree source.program))
  pub keeps : Keeps (crun (program_tree source.program)) (rtl.run (arc_value source.translated))
  pub names : HaveNames (program_tree source.program)
  pub count : length (arc_value source.translated).functions ≤ 64
  pub digest : source.digest ≡ sha256 text
