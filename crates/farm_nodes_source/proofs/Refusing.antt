-- What the refusal to translate says of the program.
use Rattle.std.proofs.Common.{ℕ, map, ap, ◌∙◌}
use Rattle.std.specs.Prelude.{slice_get}
use Rattle.c_checker_rules.specs.Checked.{Contents, program_tree}
use Rattle.cminor_lowering.specs.Programs.{low}
use Rattle.rtlgen.specs.Refused.{IsFirstTooLarge}
use Rattle.farm_nodes_source.specs.declared.fault.SourceFault.{SourceFault}
use Rattle.farm_nodes_source.specs.declared.fault.SourceFault.TheVariants.{NoMemory, Text, TooManyNodes}
use Rattle.farm_nodes_source.specs.Refused.{IsUntranslated, IsNamed}
use Rattle.farm_nodes_source.proofs.Numbered.{tree_names}

-- a function that is told by its name is one of the program's
pub untranslated : (p : Contents) (i : ℕ) (f : SourceFault) → IsFirstTooLarge (low (program_tree p)).functions i → IsNamed (map (λ g. g.name) p.functions) i f
    → IsUntranslated (program_tree p) f
untranslated p i NoMemory first named = tt
untranslated p i (Text fault) first named = absurd named
untranslated p i (TooManyNodes name) first named = record {
  function = i;
  first = first;
  named = ap (λ names. slice_get names i) (tree_names p.functions) ∙ named;
}
