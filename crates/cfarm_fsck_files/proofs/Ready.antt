-- What is found, step by step.
use Rattle.std.proofs.Common.{◌≡◌, ◌≤◌, List, ℕ, Option, None, Some, length, refl}
use Rattle.std.specs.Arc.{arc_value}
use Rattle.std.specs.Io.KnownBytes.{Keeps}
use Rattle.sha2.specs.Sha256.{sha256}
use Rattle.lang_base.specs.Keeps.{Keeps as KeepsMeaning}
use Rattle.c_syntax.specs.Trees.{UnitTree}
use Rattle.c_program.specs.Meaning.{crun}
use Rattle.c_checker_rules.specs.Checked.{program_tree}
use Rattle.c_texts.specs.Accepted.{IsAccepted, IsProgramOf}
use Rattle.cminor_lowering.specs.Programs.{low}
use Rattle.cminor_program_ranges.specs.Names.{HaveNames}
use Rattle.rtl_language.specs.Meaning as rtl
use Rattle.rtlgen_definition.specs.Gen.{gen}
use Rattle.farm_nodes_source.specs.declared.source.Source.{Source}
use Rattle.cfarm_build_faults.specs.Prepared.{IsSourceOf}
use Rattle.cfarm_files.specs.Placing.{Placed, KeepsFolder}

-- a text that was made ready
pub ready : (text : List ℕ) (s : Source) → (u : UnitTree) × IsAccepted text u × IsProgramOf u s.program
    → arc_value s.translated ≡ gen (low (program_tree s.program))
    → KeepsMeaning (crun (program_tree s.program)) (rtl.run (arc_value s.translated)) → HaveNames (program_tree s.program)
    → length (arc_value s.translated).functions ≤ 64 → s.digest ≡ sha256 text → IsSourceOf text s
ready text s accepted translated keeps names count digest = record {
  tree = accepted.0;
  accepted = accepted.1;
  program = accepted.2;
  translated = translated;
  keeps = keeps;
  names = names;
  count = count;
  digest = digest;
}

-- what is known of the files is kept where nothing is made
pub keeps_same : (o : Option (List Placed)) → KeepsFolder o o
keeps_same None = tt
keeps_same (Some placed) = refl

-- known bytes are kept where nothing is written
pub keeps_bytes : (o : Option (List ℕ)) → Keeps o o
keeps_bytes None = tt
keeps_bytes (Some bytes) = refl
